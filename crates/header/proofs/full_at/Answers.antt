use borrow.Author.Rules.{rules}
use native.Mathlib.Omega.{arith}
use mathlib.Core.Path.{ap₂}
use Prim.Native.Nat.{ℕ, ◌+◌, ◌*◌}
use Rattle.header.proofs.Opening.{size_most}
use Rattle.header.proofs.full_at.Goals as goal

pub overflow_mul-result : goal.overflow_mul-result
overflow_mul-result c =
    let b = c.buckets in
    let n = c.bucket_length in
    omega (arith, size_most b.result n.result 0 b.ensures.1 n.ensures.1 (search rules), c.requires.1)

pub overflow_add-result : goal.overflow_add-result
overflow_add-result c =
    let b = c.buckets in
    let n = c.bucket_length in
    omega (arith, size_most b.result n.result 0 b.ensures.1 n.ensures.1 (search rules), c.requires.1)

pub overflow_add-result-2 : goal.overflow_add-result-2
overflow_add-result-2 c =
    let b = c.buckets in
    let n = c.bucket_length in
    omega (arith, size_most b.result n.result 0 b.ensures.1 n.ensures.1 (search rules), c.requires.1)

pub returns : goal.returns
returns c =
    let q = c.args.q in
    ap₂ (λ (h l : ℕ). 4 + (h * l + q * 65)) c.buckets.ensures.0 c.bucket_length.ensures.0
