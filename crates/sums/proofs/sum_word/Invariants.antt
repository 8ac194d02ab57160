use mathlib.Core.Path.{◌≡◌}
use Prim.Native.Nat.{◌+◌, ◌-◌}
use Rattle.model.specs.Lists.{sum}
use Rattle.model.specs.Packed.{unpack}
use Rattle.sums.proofs.sum_word.Given as goal

abbrev pub invariant-loop : goal.invariant-loop
invariant-loop l = l.total + sum (unpack l.v (l.n - l.counter) l.y) ≡ sum (unpack l.v l.n l.x)
