use borrow.Author.Rules.{rules}
use native.Mathlib.Omega.{arith}
use mathlib.Core.Path.{ap₂}
use Prim.Native.Nat.{◌+◌, ◌*◌}
use Rattle.header.proofs.Opening.{size_most}
use Rattle.header.proofs.size.Goals as goal

pub overflow_mul-result : goal.overflow_mul-result
overflow_mul-result c =
    let b = c.buckets in
    let n = c.bucket_length in
    omega (arith, size_most b.result n.result 0 b.ensures.1 n.ensures.1 (search rules))

pub overflow_add-result : goal.overflow_add-result
overflow_add-result c =
    let b = c.buckets in
    let n = c.bucket_length in
    omega (arith, size_most b.result n.result 0 b.ensures.1 n.ensures.1 (search rules))

pub overflow_add-result-2 : goal.overflow_add-result-2
overflow_add-result-2 c =
    let b = c.buckets in
    let n = c.bucket_length in
    omega (arith, size_most b.result n.result c.args.v.full b.ensures.1 n.ensures.1 c.requires.1)

pub returns : goal.returns
returns c =
    let b = c.buckets in
    let n = c.bucket_length in
    ap₂ (λ h l. 4 + h * l + 65 * c.args.v.full) b.ensures.0 n.ensures.0
