use native.Mathlib.Omega.{arith}
use Rattle.shapes.proofs.Shapes.{counter_17, counter_18}
use Rattle.shapes.proofs.counter_bits.Goals as goal

pub returns-then-shape-eq3 : goal.returns-then-shape-eq3
returns-then-shape-eq3 c = (counter_17 c.args.shape c.args.width c.if-shape-eq3.true, omega (arith, c.requires.2))

pub returns : goal.returns
returns c =
    (counter_18 c.args.shape c.args.width (omega (arith, c.requires.0, c.if-shape-eq3.false)) c.requires.1, omega (arith, c.requires.2))
