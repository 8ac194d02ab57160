use mathlib.Core.List.{◌++◌}
use Rattle.texts.specs.Texts.{decimal, newline, bad_text, bad_line}
use Rattle.texts.proofs.Texts.{fits-first, fits-next, and_then}
use Rattle.texts.proofs.Page.bad_line.Goals as goal

pub text-requires : goal.text-requires
unfolding bad_line
text-requires c = fits-first c.args.self.now bad_text (decimal c.args.line ++ newline) c.requires

pub field-requires : goal.field-requires
unfolding bad_line
field-requires c = fits-next _ _ _ c.requires c.text.ensures

pub returns : goal.returns
unfolding bad_line
returns c = and_then _ _ _ c.requires c.text.ensures c.field.ensures
