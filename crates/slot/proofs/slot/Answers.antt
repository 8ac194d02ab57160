use borrow.Author.Rules.{rules}
use Rattle.slot.proofs.Calls.{most, spread-below, flow-below, refused_3, refused_15, refused_8, done}
use Rattle.slot.proofs.slot.Goals as goal

-- No step is named: with the tests in another order the facts that a refusal asks for are not there.
pub returns-then-not-known : goal.returns-then-not-known
returns-then-not-known c = search (rules, refused_3)

pub returns-then-not-valid : goal.returns-then-not-valid
returns-then-not-valid c = search (rules, refused_15)

pub returns-then-not-within : goal.returns-then-not-within
returns-then-not-within c = search (rules, refused_8)

pub slot_of-requires : goal.slot_of-requires
slot_of-requires c = search (rules, most, spread-below, flow-below)

pub returns : goal.returns
returns c = search (rules, done)
