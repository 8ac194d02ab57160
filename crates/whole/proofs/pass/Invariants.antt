use Prim.Native.Nat.{◌≤◌}
use Rattle.model.specs.Walls.{parse}
use Rattle.whole.specs.Check.{Passed, Seen}
use Rattle.whole.proofs.pass.Given as goal

abbrev pub invariant-loop-i : goal.invariant-loop-i
invariant-loop-i l = (l.i ≤ l.n) × Passed (parse l.wall.words.now) l.i l.t × Seen (parse l.wall.words.now) l.i l.seen
