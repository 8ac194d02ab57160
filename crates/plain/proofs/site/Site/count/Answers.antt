use mathlib.Core.Path.{◌∙◌}
use native.Mathlib.Omega.{arith}
use Rattle.plain.proofs.Views.{own-here}
use Rattle.plain.proofs.site.Site.count.Goals as goal

pub returns : goal.returns
returns c =
    let s = c.args.self.now in
    rw c.upper_marks.ensures at c.count.ensures ∙ own-here s.shape.width s.shape.uppers s.shape.entries s.shape.widths s.words.now s.at (omega (arith, s.there)) c.args.place c.requires
