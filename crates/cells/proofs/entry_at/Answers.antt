use mathlib.Core.Path.{◌≡◌}
use Prim.Native.Nat.{◌+◌, ◌-◌, ◌*◌, ◌/◌, ◌%◌, ◌^◌, ◌<◌}
use native.Mathlib.Omega.{arith}
use lib.ListN.{get_or, drop}
use Rattle.model.specs.Packed.{pack, entry}
use Rattle.cells.proofs.Laws.{one_at, two_at, entry-word}
use Rattle.cells.proofs.entry_at.Goals as goal

pub returns-then-off-w-le64 : goal.returns-then-off-w-le64
returns-then-off-w-le64 c =
    let a = c.args in
    one_at a.words.now a.at a.w a.a (λ i. (c.shared_slice_known-2-1.given i).fits) c.pow2.result c.pow2.ensures.0 c.if-off-w-le64.true

value : (c : goal.After-pow2-3) → let a = c.args in
    get_or a.words.now (a.at + a.w * a.a / 64) 0 / 2 ^ (a.w * a.a % 64) + get_or a.words.now (a.at + a.w * a.a / 64 + 1) 0 % c.pow2-2.result * c.pow2-3.result
    ≡ entry a.w (pack 64 (drop a.at a.words.now)) a.a
value c =
    let a = c.args in
    let m = 64 - a.w * a.a % 64 in
    two_at a.words.now a.at a.w a.a (λ i. (c.shared_slice_known-2-1.given i).fits) m (a.w - m) c.pow2-2.result c.pow2-3.result
    (omega arith) (omega arith) (omega arith) c.pow2-2.ensures.0 c.pow2-3.ensures.0

bound : (c : goal.After-pow2-3) → let a = c.args in entry a.w (pack 64 (drop a.at a.words.now)) a.a < 2 ^ 64
bound c = let a = c.args in entry-word a.w (pack 64 (drop a.at a.words.now)) a.a (omega arith)

pub overflow_mul-result : goal.overflow_mul-result
overflow_mul-result c = omega (arith, value c, bound c)

pub overflow_add-result-2 : goal.overflow_add-result-2
overflow_add-result-2 c = omega (arith, value c, bound c)

pub returns : goal.returns
returns c = value c
