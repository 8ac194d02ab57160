use lib.ListN.{drop}
use Rattle.model.specs.Packed.{pack}
use Rattle.sums.proofs.Chunks.{Added}
use Rattle.sums.proofs.sum_lanes.Given as goal

abbrev pub invariant-loop-g : goal.invariant-loop-g
invariant-loop-g l = Added l.w l.n l.g (pack 64 (drop l.at l.words)) l.acc
