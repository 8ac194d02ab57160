use Rattle.texts.proofs.Texts.{and_then}
use Rattle.texts.proofs.Page.field.Goals as goal

pub returns : goal.returns
returns c = and_then _ _ _ c.requires c.number.ensures c.text.ensures
