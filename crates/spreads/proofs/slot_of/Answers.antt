use native.Mathlib.Omega.{arith}
use Rattle.spreads.proofs.Slots.{product_lt, slot-reversed, slot-times}
use Rattle.spreads.proofs.slot_of.Goals as goal

pub returns-then-spread-eq0 : goal.returns-then-spread-eq0
returns-then-spread-eq0 c =
    let a = c.args in
    rw c.reversed.ensures.0 (slot-reversed a.bits a.spread a.flow c.if-spread-eq0.true)

pub overflow_mul-result : goal.overflow_mul-result
overflow_mul-result c =
    omega (arith, product_lt c.args.bits c.args.spread c.args.flow c.requires.0 c.requires.1 c.requires.2)

pub returns : goal.returns
returns c =
    rw c.pow2.ensures.0 (slot-times c.args.bits c.args.spread c.args.flow c.if-spread-eq0.false)
