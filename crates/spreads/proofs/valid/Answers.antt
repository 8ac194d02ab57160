use mathlib.Core.Path.{◌∙◌}
use native.Mathlib.Omega.{arith}
use Rattle.spreads.proofs.Slots.{times_odd, one_test}
use Rattle.spreads.proofs.valid.Goals as goal

pub overflow_mul-spread : goal.overflow_mul-spread
overflow_mul-spread c = omega (arith, times_odd c.args.bits c.args.spread (omega arith))

pub returns : goal.returns
returns c = let a = c.args in c.below.ensures ∙ one_test a.bits a.spread
