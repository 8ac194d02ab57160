use Prim.Native.Nat.{◌+◌, ◌-◌}
use Rattle.growth.proofs.Climbing.{Climbing}
use Rattle.growth.proofs.Upper.rise.Given as goal

abbrev pub invariant-loop-j : goal.invariant-loop-j
invariant-loop-j l = Climbing l.shape l.shape.uppers 0 l.initial.off l.initial.self l.initial.a l.initial.v (l.last + 1 - l.j) l.j l.off l.self l.a l.v
