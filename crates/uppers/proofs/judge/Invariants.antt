use Prim.Native.Nat.{◌+◌}
use lib.Count.{ones}
use Rattle.uppers.specs.Uppers.{judged}
use Rattle.uppers.proofs.Uppers.{Walk}
use Rattle.uppers.proofs.judge.Given as goal

-- `judge` meets its contract. The loop's invariant says that the verdict on the whole is that on the levels left.
abbrev pub invariant-loop-at : goal.invariant-loop-at
invariant-loop-at l =
    let s = l.fn.shape in
    Walk l.words (judged s.uppers l.words l.first l.g s.entries s.widths (ones l.m1) s.width 0) (l.first + s.uppers) l.at l.m l.marks l.levels.count l.levels.entries l.levels.widths l.weight l.sum
