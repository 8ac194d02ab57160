use mathlib.Core.Path.{sym, ◌∙◌}
use native.Mathlib.Omega.{arith}
use Rattle.plain.proofs.Soundness.{unsound-here, sound-within, upper_small}
use Rattle.plain.proofs.site.Site.judge.Goals as goal

pub returns-in-None : goal.returns-in-None
returns-in-None c =
    let s = c.args.self.now in
    λ used. unsound-here s.shape.width s.shape.uppers s.shape.entries s.shape.widths s.words.now s.at (omega (arith, s.there)) s.fit c.requires c.args.total used (sym c.upper.ensures ∙ c.in-None.is)

pub within-requires : goal.within-requires
within-requires c =
    let s = c.args.self.now in
    upper_small s.shape.width s.shape.uppers s.shape.entries s.shape.widths s.words.now s.at (omega (arith, s.there)) s.fit c.requires c.args.total 0 s.levels s.narrow (sym c.upper.ensures ∙ c.in-Some.is)

pub returns-in-Some : goal.returns-in-Some
returns-in-Some c =
    let s = c.args.self.now in
    λ used. c.within.ensures ∙ sound-within s.shape.width s.shape.uppers s.shape.entries s.shape.widths s.words.now s.at (omega (arith, s.there)) s.fit c.requires c.args.total used (sym c.upper.ensures ∙ c.in-Some.is)
