use borrow.Author.Rules.{rules}
use Rattle.std.proofs.lemmas.Result.{err_from_is_err_and}
use Rattle.fresh.proofs.Starting.{close_7, opened_writes, opened_closes}
use Rattle.header.proofs.Opening.{unopened}
use Rattle.answer.specs.declared.Refusal.TheVariants.{BadHeader}
use Rattle.fresh.proofs.close.Goals as goal

pub returns-in_err-v : goal.returns-in_err-v
returns-in_err-v c =
    let p = err_from_is_err_and c.from_residual.result c.from_residual.ensures.1 in
    let u = unopened _ c.open.result c.args.words.now c.in_err-v.field-0.0 BadHeader c.open.ensures.header c.in_err-v.ensures.value in
    rw (p.1, p.2, u.0) (close_7 c.args.words.now u.1)

pub write-requires : goal.write-requires
write-requires c = search (rules, opened_writes)

pub returns : goal.returns
returns c = search (rules, opened_closes)
