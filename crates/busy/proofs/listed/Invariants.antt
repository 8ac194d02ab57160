use mathlib.Core.Path.{◌≡◌}
use Prim.Native.Nat.{◌≤◌}
use Rattle.model.specs.Lists.{sum, tabulate}
use Rattle.busy.proofs.Turns.{reaches}
use Rattle.busy.proofs.listed.Given as goal

abbrev pub invariant-loop-slot : goal.invariant-loop-slot
invariant-loop-slot l = (l.slot ≤ l.slot-end) × (l.k ≡ sum (tabulate l.slot (reaches l.checked.wall.words.now l.floor))) × (l.k ≤ l.slot)
