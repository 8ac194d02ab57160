use mathlib.Core.Path.{◌≡◌, refl, ap, ◌∙◌}
use mathlib.Core.List.{List}
use Prim.Native.Nat.{ℕ, ◌+◌, ◌-◌}
use native.Mathlib.Numerals.{add-one}
use native.Mathlib.Omega.{arith}
use lib.ListN.{length, get_or, drop, set, length-set, length-drop}
use lib.Seq.{paste-zero, paste-suc, get_or-drop}
use Rattle.bucket.proofs.words.copy.Goals as goal

pub loop-i-init : goal.loop-i-init
loop-i-init c = (paste-zero c.args.to.now c.args.at (drop c.args.start c.args.from.now), refl)

pub loop-i-preserved : goal.loop-i-preserved
loop-i-preserved c =
    let a = c.args in
    let h = c.loop-i.invariant in
    let i = c.loop-i.i in
    let s : List ℕ = drop a.start a.from.now in
    let l : length s ≡ length a.from.now - a.start = length-drop a.start a.from.now in (
      ap (λ (x : List ℕ). set x (a.at + i) (get_or a.from.now (a.start + i) 0)) h.0
          ∙ rw (← get_or-drop a.start a.from.now i 0) (paste-suc a.to.now a.at s i 0 (omega arith) (omega arith) ∙ rw add-one),
      simp length-set (omega arith),
    )

pub returns : goal.returns
returns c =
    let h = c.loop-i.invariant in
    let e : c.loop-i.i ≡ c.args.n = omega arith in
    h.0 ∙ rw e
