use mathlib.Core.Path.{◌≡◌}
use Prim.Native.Nat.{◌-◌, ◌≤◌}
use Rattle.model.specs.Walls.{flows, parse}
use Rattle.model.specs.Sound.{count}
use Rattle.busy.proofs.Turns.{Upto}
use Rattle.busy.proofs.fill.Given as goal

abbrev pub invariant-loop-entries : goal.invariant-loop-entries
invariant-loop-entries l =
    (l.flow ≤ flows (parse l.checked.wall.words.now).header) × Upto (count (parse l.checked.wall.words.now)) l.floor l.initial.entries.list.now l.flow l.entries.len l.entries.list.now × (flows (parse l.checked.wall.words.now).header ≤ 4194304) × (l.entries.list.ghost_name ≡ l.initial.entries.list.ghost_name)

abbrev pub decreases-loop-entries : goal.decreases-loop-entries
decreases-loop-entries l = flows (parse l.checked.wall.words.now).header - l.flow
