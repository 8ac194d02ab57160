use native.Mathlib.Omega.{arith}
use mathlib.Core.Path.{ap, ◌∙◌}
use mathlib.Core.List.{List}
use Prim.Native.Nat.{ℕ, ◌+◌, ◌*◌}
use lib.ListN.{length, set, length-set}
use Rattle.zeros.proofs.Laws.{zeros_all}
use Rattle.fresh.proofs.Starting.{written}
use Rattle.fresh.proofs.write.Goals as goal

pub bounds-words-1 : goal.bounds-words-1
bounds-words-1 c =
    let k = c.requires.3 in
    let m = c.clear.auto.words in
    simp length-set (omega (arith, k, m))

pub bounds-words-3 : goal.bounds-words-3
bounds-words-3 c =
    let k = c.requires.3 in
    let m = c.clear.auto.words in
    simp length-set (omega (arith, k, m))

pub returns : goal.returns
returns c =
    let v = c.args.v in
    ap (λ (l : List ℕ). set (set (set l 0 (v.bits * 72057594037927936 + v.width * 281474976710656 + v.shape * 1099511627776 + 21780290)) 1 v.limit) 3 (v.full + v.spread * 4294967296)) (c.clear.ensures ∙ zeros_all c.args.words.now)
    ∙ written (length c.args.words.now) v c.requires.0 c.requires.1 c.requires.3
