use mathlib.Core.Path.{◌≡◌}
use lib.ListN.{drop}
use Rattle.model.specs.Lists.{sum}
use Rattle.model.specs.Packed.{pack, unpack}
use Rattle.sums.proofs.sum_entries.Given as goal

abbrev pub invariant-loop-a : goal.invariant-loop-a
invariant-loop-a l = l.total ≡ sum (unpack l.w l.a (pack 64 (drop l.at l.words)))
