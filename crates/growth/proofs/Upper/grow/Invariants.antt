use Prim.Native.Nat.{◌+◌, ◌-◌}
use Rattle.growth.proofs.Coming.{Going}
use Rattle.growth.proofs.Upper.grow.Given as goal

abbrev pub invariant-loop-j : goal.invariant-loop-j
invariant-loop-j l = Going l.shape l.levels l.j0 l.initial.off l.initial.self l.initial.a l.initial.v (l.last + 1 - l.j) l.j l.off l.self l.a l.v
