use Rattle.std.proofs.Common.{arith, inl}
use Rattle.lines.proofs.Found.{lines_fewer}
use Rattle.lines.proofs.Turns.{total-room, total-done, total-words, bad_room, bad_done, bad_words, flow-room, flow-done}
use Rattle.lines.proofs.each_line.Goals as goal

pub loop-i-init-derived : goal.loop-i-init-derived
loop-i-init-derived c =
    let e = c.enumerate-i-items.ensures in
    rw (c.into_iter-i-iterator.ensures.into_iter_gives, e.source, e.count, c.new.ensures)
    ((tt, tt, inl (omega (arith, lines_fewer c.args.input.now, c.well_formed.0))), tt)

pub bad_line-requires : goal.bad_line-requires
bad_line-requires c =
    let s = c.in-Some.ensures.steps in
    rw s.1 (bad_room c.loop-i.invariant c.requires s.0 c.in_default.ensures)

pub returns-in_default-clause-written : goal.returns-in_default-clause-written
returns-in_default-clause-written c =
    let s = c.in-Some.ensures.steps in
    bad_done c.loop-i.invariant c.requires s.0 c.in_default.ensures (rw s.1 at c.bad_line.ensures)

pub returns-in_default-clause-words : goal.returns-in_default-clause-words
returns-in_default-clause-words c = bad_words c.loop-i.invariant c.requires c.in-Some.ensures.steps.0 c.in_default.ensures

pub answer-requires : goal.answer-requires
answer-requires c = flow-room c.loop-i.invariant c.requires c.in-Some.ensures.steps.0 c.into.result c.increment.new.words c.in-Some-flow_in.ensures (rw (← c.into.ensures) at c.increment.ensures)

pub loop-i-preserved : goal.loop-i-preserved
loop-i-preserved c =
    let s = c.in-Some.ensures.steps in
    rw s.2 (flow-done c.loop-i.invariant c.requires s.0 c.into.result c.increment.new.words c.in-Some-flow_in.ensures (rw (← c.into.ensures) at c.increment.ensures) c.answer.ensures)

pub totals-requires : goal.totals-requires
totals-requires c = total-room c.loop-i.invariant c.requires c.in-None.ensures.steps.0.0

pub returns-clause-written : goal.returns-clause-written
returns-clause-written c = total-done c.loop-i.invariant c.requires c.in-None.ensures.steps.0.0 c.totals.ensures

pub returns-clause-words : goal.returns-clause-words
returns-clause-words c = total-words c.loop-i.invariant c.requires c.in-None.ensures.steps.0.0
