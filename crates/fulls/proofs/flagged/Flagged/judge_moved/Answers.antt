use mathlib.Core.Path.{◌≡◌, sym, ◌∙◌, subst}
use mathlib.Core.List.{List}
use Prim.Native.Nat.{ℕ, ◌+◌, ◌-◌, ◌^◌, ◌≤◌, ◌<◌}
use native.Mathlib.Nat.{lt_of_le_of_lt}
use native.Mathlib.Omega.{arith}
use lib.ListN.{length, get_or}
use lib.Count.{count_trailing_zeros}
use Rattle.std.specs.Prelude.{Some}
use Rattle.model.specs.Packed.{rank}
use Rattle.model.proofs.Buckets.{length-own}
use Rattle.plain.specs.Plain.{own_of, rows_of, bucket_of}
use Rattle.fulls.specs.declared.flagged.Flagged.{Flagged}
use Rattle.fulls.specs.Fulls.{full_of}
use Rattle.fulls.proofs.Places.{no_flag, flags}
use Rattle.fulls.proofs.Gains.{bad_gain, few_zeros}
use Rattle.fulls.proofs.Marks.{Lowest, lowest, no_more, here, enough}
use Rattle.fulls.proofs.Walk.{Going, said, over, one_behind, at-end}
use Rattle.fulls.proofs.flagged.Flagged.judge_moved.Goals as goal

-- the place of a turn
low : (os ws : List ℕ) (at total m s t : ℕ) → Going os ws at total m s → 0 < m → get_or ws at 0 < 2 ^ 64 → t ≡ count_trailing_zeros 64 m → Lowest 64 m t
low os ws at total m s t g h x e = rw e (lowest 64 m h (lt_of_le_of_lt (no_more (get_or ws at 0) g.past m g.marks) x))

abbrev long : (b : Flagged) → length (own_of b.site) ≡ 64
long b = length-own b.site.shape.width (rows_of b.site) (bucket_of b.site)

pub returns-then-moved-eq0 : goal.returns-then-moved-eq0
returns-then-moved-eq0 c =
    let b = c.args.self.now in
    no_flag (own_of b.site) (full_of b) _ (sym (rw c.moved.ensures at c.count-moved.ensures.0 ∙ flags b.site.words.now b.full (b.site.fit b.full)) ∙ c.if-moved-eq0.true)

pub returns-then-zero_places-moved-lt64 : goal.returns-then-zero_places-moved-lt64
returns-then-zero_places-moved-lt64 c =
    let b = c.args.self.now in
    let l : c.zero_places.result + c.count-moved.result < 64 = omega arith in
    few_zeros (own_of b.site) (full_of b) _ (long b) (subst (λ (z : ℕ). z + rank (full_of b).moved 64 < 64) c.zero_places.ensures.0 (subst (λ (r : ℕ). c.zero_places.result + r < 64) (rw c.moved.ensures at c.count-moved.ensures.0 ∙ flags b.site.words.now b.full (b.site.fit b.full)) l))

pub gain-requires : goal.gain-requires
gain-requires c =
    let b = c.args.self.now in
    let l = c.loop-m in
    ((low (own_of b.site) b.site.words.now b.full c.args.total c.loop-m.m c.loop-m.left c.from-place.result c.loop-m.invariant c.loop-m-test.true (b.site.fit b.full) c.from-place.ensures).within, here (get_or b.site.words.now b.full 0) l.invariant.past l.m l.invariant.marks 64 c.from-place.result (low (own_of b.site) b.site.words.now b.full c.args.total c.loop-m.m c.loop-m.left c.from-place.result c.loop-m.invariant c.loop-m-test.true (b.site.fit b.full) c.from-place.ensures))

pub returns-in_err-more : goal.returns-in_err-more
returns-in_err-more c =
    let b = c.args.self.now in
    c.from_residual.ensures ∙ bad_gain (own_of b.site) (full_of b) _ (long b) c.from-place.result (low (own_of b.site) b.site.words.now b.full c.args.total c.loop-m.m c.loop-m.left c.from-place.result c.loop-m.invariant c.loop-m-test.true (b.site.fit b.full) c.from-place.ensures).within (sym c.gain.ensures ∙ c.in_err-more.was)

pub overflow_sub-m : goal.overflow_sub-m
overflow_sub-m c =
    let l = c.loop-m in
    let b = c.args.self.now in
    subst (λ (p : ℕ). p ≤ l.m) (sym c.pow2-m.ensures.0) (enough (get_or b.site.words.now b.full 0) l.invariant.past l.m l.invariant.marks 64 c.from-place.result (low (own_of b.site) b.site.words.now b.full c.args.total c.loop-m.m c.loop-m.left c.from-place.result c.loop-m.invariant c.loop-m-test.true (b.site.fit b.full) c.from-place.ensures))

pub loop-m-preserved : goal.loop-m-preserved
loop-m-preserved c =
    let l = c.loop-m in
    let b = c.args.self.now in
    subst (λ (p : ℕ). Going (own_of b.site) b.site.words.now b.full c.args.total (l.m - p) (l.left - c.in_ok-more.more)) (sym c.pow2-m.ensures.0)
    (one_behind (own_of b.site) b.site.words.now b.full c.args.total (long b) l.m l.left c.from-place.result l.invariant (low (own_of b.site) b.site.words.now b.full c.args.total c.loop-m.m c.loop-m.left c.from-place.result c.loop-m.invariant c.loop-m-test.true (b.site.fit b.full) c.from-place.ensures) c.in_ok-more.more (sym c.gain.ensures ∙ c.in_ok-more.was) (omega arith))

pub returns-then-left-more : goal.returns-then-left-more
returns-then-left-more c =
    let l = c.loop-m in
    let b = c.args.self.now in
    over (own_of b.site) b.site.words.now b.full c.args.total (long b) l.m l.left c.from-place.result l.invariant (low (own_of b.site) b.site.words.now b.full c.args.total c.loop-m.m c.loop-m.left c.from-place.result c.loop-m.invariant c.loop-m-test.true (b.site.fit b.full) c.from-place.ensures) c.in_ok-more.more (sym c.gain.ensures ∙ c.in_ok-more.was) (omega arith)

-- all of them are behind
ended : (c : goal.After-loop-m)
    → let b = c.args.self.now in let l = c.loop-m in (l.left ≤ c.args.total) × (Some (c.args.total - l.left) ≡ said (own_of b.site) b.site.words.now b.full c.args.total (long b))
ended c =
    let b = c.args.self.now in
    let e : c.loop-m.m ≡ 0 = omega (arith, c.loop-m-test.false) in
    let h : 1 ≤ c.count-moved.result = omega arith in
    let g : 64 ≤ c.zero_places.result + c.count-moved.result = omega arith in
    at-end (own_of b.site) b.site.words.now b.full c.args.total (long b) c.loop-m.m c.loop-m.left e (subst (λ (r : ℕ). 1 ≤ r) (rw c.moved.ensures at c.count-moved.ensures.0 ∙ flags b.site.words.now b.full (b.site.fit b.full)) h)
    (subst (λ (r : ℕ). 64 ≤ r + rank (full_of b).moved 64) c.zero_places.ensures.0 (subst (λ (r : ℕ). 64 ≤ c.zero_places.result + r) (rw c.moved.ensures at c.count-moved.ensures.0 ∙ flags b.site.words.now b.full (b.site.fit b.full)) g)) c.loop-m.invariant

pub overflow_sub-result : goal.overflow_sub-result
overflow_sub-result c = (ended c).0

pub returns : goal.returns
returns c = (ended c).1
