use Prim.Native.Nat.{◌+◌, ◌-◌, ◌*◌, ◌/◌, ◌%◌, ◌^◌, ◌<◌}
use native.Mathlib.Omega.{arith}
use Rattle.packed.proofs.Words.{field_lt}
use Rattle.packed.proofs.put_field.Goals as goal

-- what comes in stays within the word
fits : (c : goal.After-pow2) → let a = c.args in a.x - a.x / 2 ^ a.off % c.pow2.result * c.pow2-p.result + a.u * c.pow2-p.result < 2 ^ 64
fits c =
    let a = c.args in
    let p = c.requires in
    rw (c.pow2-p.ensures.0, c.pow2.ensures.0) (field_lt a.x a.off a.k 64 a.u c.ranges.x.fits p.0 p.3)

pub overflow_mul-result-2 : goal.overflow_mul-result-2
overflow_mul-result-2 c = omega (arith, fits c)

pub overflow_add-result : goal.overflow_add-result
overflow_add-result c = omega (arith, fits c)
