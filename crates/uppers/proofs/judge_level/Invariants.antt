use Rattle.uppers.proofs.Level.{Summing}
use Rattle.uppers.proofs.judge_level.Given as goal

-- `judge_level` meets its contract.
abbrev pub invariant-loop-i : goal.invariant-loop-i
invariant-loop-i l = Summing l.w l.n l.cells l.marks l.x l.i l.above
