use borrow.Author.Rules.{rules}
use mathlib.Core.Path.{ap}
use native.Mathlib.Omega.{arith}
use lib.Dec.{ltb}
use Rattle.spreads.proofs.Slots.{every-below}
use Rattle.spreads.proofs.below.Goals as goal

pub returns-then-bits-ge64 : goal.returns-then-bits-ge64
returns-then-bits-ge64 c = every-below c.args.bits c.args.x (search rules) (omega arith)

pub returns : goal.returns
returns c = ap (ltb c.args.x) c.pow2.ensures.0
