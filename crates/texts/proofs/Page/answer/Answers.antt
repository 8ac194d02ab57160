use mathlib.Core.List.{◌++◌}
use Rattle.texts.specs.Texts.{decimal, space, newline, answer_line}
use Rattle.texts.proofs.Texts.{fits-first, fits_second, fits_third, all_three}
use Rattle.texts.proofs.Page.answer.Goals as goal

pub field-requires : goal.field-requires
unfolding answer_line
field-requires c = let a = c.args.a in fits-first c.args.self.now _ ((decimal a.number ++ space) ++ (decimal a.value ++ newline)) c.requires

pub field-requires-2 : goal.field-requires-2
unfolding answer_line
field-requires-2 c = fits_second _ _ _ (decimal c.args.a.value ++ newline) c.requires c.field.ensures

pub field-requires-3 : goal.field-requires-3
unfolding answer_line
field-requires-3 c = fits_third _ _ _ _ c.requires c.field.ensures c.field-2.ensures

pub returns : goal.returns
unfolding answer_line
returns c = all_three _ _ _ _ c.requires c.field.ensures c.field-2.ensures c.field-3.ensures
