use borrow.Author.Rules.{rules}
use native.Mathlib.Omega.{arith}
use Rattle.sums.proofs.Sums.{left_one, sum_self}
use Rattle.sums.proofs.sum_word.Goals as goal

pub overflow_add-total : goal.overflow_add-total
overflow_add-total c =
    let a = c.args in
    let l = c.loop in
    omega (arith, left_one a.v a.n l.counter l.y l.total _ c.pow2-p.result c.pow2-p.ensures.0 c.loop-test.true l.invariant, sum_self a.v a.n a.x)

pub loop-preserved : goal.loop-preserved
loop-preserved c = search (rules, left_one)
