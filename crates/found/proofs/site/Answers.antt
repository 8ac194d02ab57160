use native.Mathlib.Omega.{arith}
use Rattle.header.proofs.Places.{opened, open_known}
use Rattle.found.proofs.Here.{ahead, within}
use Rattle.found.proofs.site.Goals as goal

pub bucket_at-requires : goal.bucket_at-requires
bucket_at-requires c = let w = c.args.wall.now in (open_known w.words.now w.header (opened w), c.requires)

pub of-requires : goal.of-requires
of-requires c = let w = c.args.wall.now in let k = open_known w.words.now w.header (opened w) in (k.shape_low, k.shape_high)

pub invariant_of-result-clause-levels : goal.invariant_of-result-clause-levels
invariant_of-result-clause-levels c = let w = c.args.wall.now in rw c.of.ensures (ahead w.words.now w.header (opened w) c.args.i c.requires)

pub invariant_of-result-clause-some : goal.invariant_of-result-clause-some
invariant_of-result-clause-some c = let w = c.args.wall.now in rw c.of.ensures (omega (arith, (open_known w.words.now w.header (opened w)).shape_low))

pub invariant_of-result-clause-few : goal.invariant_of-result-clause-few
invariant_of-result-clause-few c = let w = c.args.wall.now in rw c.of.ensures (omega (arith, (open_known w.words.now w.header (opened w)).shape_high))

pub invariant_of-result-clause-wide : goal.invariant_of-result-clause-wide
invariant_of-result-clause-wide c = let w = c.args.wall.now in rw c.of.ensures (open_known w.words.now w.header (opened w)).width_low

pub invariant_of-result-clause-narrow : goal.invariant_of-result-clause-narrow
invariant_of-result-clause-narrow c = let w = c.args.wall.now in rw c.of.ensures (open_known w.words.now w.header (opened w)).width_high

pub invariant_of-result-clause-there : goal.invariant_of-result-clause-there
invariant_of-result-clause-there c = let w = c.args.wall.now in rw (c.of.ensures, c.bucket_at.ensures) (within w.words.now w.header (opened w) c.args.i c.requires)
