use borrow.Author.Rules.{rules}
use Rattle.fresh.proofs.Sized.{done, full-few, long, refused_15, refused_4, refused_5, refused_6, spread-small}
use Rattle.fresh.proofs.raise_sized.Goals as goal

pub returns-then-not-limit_fits : goal.returns-then-not-limit_fits
returns-then-not-limit_fits c = search (rules, refused_4)

pub returns-then-not-full_fits : goal.returns-then-not-full_fits
returns-then-not-full_fits c = search (rules, refused_5)

pub size-requires : goal.size-requires
size-requires c = search (rules, full-few)

-- No step is named: with the tests in another order the facts that a refusal asks for are not there.
pub returns-then-not-valid : goal.returns-then-not-valid
returns-then-not-valid c = search (rules, refused_15)

pub returns-then-not-exact : goal.returns-then-not-exact
returns-then-not-exact c = search (rules, refused_6)

pub write-requires : goal.write-requires
write-requires c = search (rules, full-few, spread-small, long)

pub returns : goal.returns
returns c = search (rules, done)
