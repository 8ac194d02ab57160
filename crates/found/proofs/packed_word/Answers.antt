use mathlib.Core.Path.{◌∙◌}
use Rattle.found.proofs.Here.{packed-at}
use Rattle.found.proofs.packed_word.Goals as goal

pub returns : goal.returns
returns c = c.packed.ensures ∙ packed-at c.args.wall.now c.args.i c.requires c.site.result c.site.ensures
