use mathlib.Core.Path.{refl}
use Rattle.std.proofs.lemmas.Bool.{not_from_false, not_from_true}
use Rattle.found.proofs.Here.{packed-low, plain-sound, plain-count, denied, granted}
use Rattle.found.proofs.read_plain.Goals as goal

pub judge-requires : goal.judge-requires
judge-requires c = packed-low c.args.wall.now c.args.i c.requires.0 c.site-site.result c.site-site.ensures _ refl c.requires.1

pub returns-then-not-judge : goal.returns-then-not-judge
returns-then-not-judge c =
    denied _ _ _ (plain-sound c.args.wall.now c.args.i c.requires.0 c.site-site.result c.site-site.ensures _ refl c.requires.1 _ c.judge.ensures) (not_from_false _ c.if-not-judge.true)

pub returns : goal.returns
returns c =
    let at = plain-sound c.args.wall.now c.args.i c.requires.0 c.site-site.result c.site-site.ensures _ refl c.requires.1 _ c.judge.ensures in
    granted _ _ _ _ at (not_from_true _ c.if-not-judge.false)
    (plain-count c.args.wall.now c.args.i c.requires.0 c.site-site.result c.site-site.ensures _ refl c.requires.1 c.args.place _ c.count.ensures)
