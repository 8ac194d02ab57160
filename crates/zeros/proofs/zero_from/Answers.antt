use borrow.Author.Rules.{rules}
use Rattle.zeros.proofs.Laws.{zero_ors}
use Rattle.zeros.proofs.zero_from.Goals as goal

pub returns : goal.returns
returns c = search (rules, zero_ors)
