use Rattle.std.proofs.Common.{arith, sym}
use Rattle.std.proofs.lemmas.Bool.Decides.{nat_tests}
use Rattle.lines.proofs.Found.{flow-not, flow-other, flow_is}
use Rattle.lines.proofs.read.flow_in.Goals as goal

pub returns-then-not-contains : goal.returns-then-not-contains
returns-then-not-contains c =
    let n = c.new.ensures in
    let e = simp (n.start, n.end, n.exhausted) at c.if-not-contains.ensures.value in
    flow-not _ (grind (arith, nat_tests))

pub returns-then-not-is_ascii_digit : goal.returns-then-not-is_ascii_digit
returns-then-not-is_ascii_digit c = flow-other _ _ _ c.loop-b.invariant (omega arith) (sym c.if-not-is_ascii_digit.ensures.value)

pub returns : goal.returns
returns c = flow_is _ _ _ c.loop-b.invariant (omega arith)
