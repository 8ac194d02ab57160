use mathlib.Core.Path.{sym}
use Prim.Native.Nat.{◌+◌, ◌^◌, ◌≤◌}
use native.Mathlib.Omega.{arith}
use lib.ListN.{drop}
use lib.Pow.{pow_mono}
use borrow.Author.Tests.{le-leb}
use Rattle.sums.specs.Sums.{first_sum}
use Rattle.plain.proofs.Soundness.{first_most}
use Rattle.plain.proofs.site.Site.within.Goals as goal

pub returns-then-upper-pow2 : goal.returns-then-upper-pow2
returns-then-upper-pow2 c =
    let s = c.args.self.now in
    let p : 2 ^ s.shape.width ≤ 2 ^ 16 = pow_mono s.narrow in
    sym (le-leb (c.args.upper + first_sum s.shape.width (drop s.at s.words.now)) c.args.total (omega (arith, first_most s.shape.width (drop s.at s.words.now), c.pow2.ensures.0)))

pub overflow_add-result : goal.overflow_add-result
overflow_add-result c =
    let s = c.args.self.now in
    let p : 2 ^ s.shape.width ≤ 2 ^ 16 = pow_mono s.narrow in
    omega (arith, first_most s.shape.width (drop s.at s.words.now), c.sum_first.ensures, c.requires)
