use Rattle.lines.proofs.Found.{Read}
use Rattle.lines.proofs.read.flow_in.Given as goal

abbrev pub invariant-loop-b : goal.invariant-loop-b
invariant-loop-b l = Read l.line l.b-index l.value
