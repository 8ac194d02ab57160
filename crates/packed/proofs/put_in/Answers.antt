use Prim.Native.Nat.{◌+◌, ◌*◌, ◌/◌, ◌%◌, ◌^◌, ◌<◌}
use native.Mathlib.Nat.{le-mul_of_pos_right}
use native.Mathlib.Omega.{arith}
use Rattle.packed.proofs.Words.{put_in_lt}
use Rattle.packed.proofs.put_in.Goals as goal

bound : (c : goal.After-pow2) → let a = c.args in let p = c.pow2-p.result in
    (a.x / 2 ^ (a.w * a.a) * c.pow2.result + a.v) * p + a.x % p < 2 ^ 64
bound c =
    let a = c.args in
    let p = c.requires in
    rw (c.pow2-p.ensures.0, c.pow2.ensures.0) (put_in_lt 64 a.w a.x a.a a.v p.4 p.0 p.3)

-- a factor is at most its product with a number that is not 0
inner : (c : goal.After-pow2) → let a = c.args in a.x / 2 ^ (a.w * a.a) * c.pow2.result + a.v < 2 ^ 64
inner c =
    let a = c.args in
    omega (arith, bound c, le-mul_of_pos_right (a.x / 2 ^ (a.w * a.a) * c.pow2.result + a.v) c.pow2-p.ensures.1)

pub overflow_mul-result : goal.overflow_mul-result
overflow_mul-result c = omega (arith, inner c)

pub overflow_add-result : goal.overflow_add-result
overflow_add-result c = omega (arith, inner c)

pub overflow_mul-result-2 : goal.overflow_mul-result-2
overflow_mul-result-2 c = omega (arith, bound c)

pub overflow_add-result-2 : goal.overflow_add-result-2
overflow_add-result-2 c = omega (arith, bound c)
