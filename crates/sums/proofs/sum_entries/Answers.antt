use Prim.Native.Nat.{◌+◌}
use native.Mathlib.Omega.{arith}
use lib.ListN.{drop}
use Rattle.model.specs.Packed.{pack}
use Rattle.sums.proofs.Sums.{sum_one, small, first-sum}
use Rattle.sums.proofs.sum_entries.Goals as goal

pub overflow_add-total : goal.overflow_add-total
overflow_add-total c =
    let a = c.args in
    let x = pack 64 (drop a.at a.words.now) in
    omega (arith, sum_one a.w c.loop-a.a x, small a.w (c.loop-a.a + 1) x (omega arith) c.requires.1)

pub loop-a-preserved : goal.loop-a-preserved
loop-a-preserved c =
    let a = c.args in
    omega (arith, sum_one a.w c.loop-a.a (pack 64 (drop a.at a.words.now)))

pub returns : goal.returns
returns c =
    let a = c.args in
    omega (arith, first-sum a.w a.words.now a.at (λ i. (c.type_inv.words i).fits) c.loop-a.a (omega arith))
