use Rattle.header.proofs.Places.{opened}
use Rattle.found.proofs.Here.{sound-flag, flagged-count}
use Rattle.found.proofs.count_flagged.Goals as goal

pub flagged-requires : goal.flagged-requires
flagged-requires c =
    let w = c.args.wall.now in
    (c.requires.0, (sound-flag w.words.now w.header (opened w) c.args.i c.requires.0 c.args.packed c.requires.1 c.requires.2 c.requires.3).1)

pub returns : goal.returns
returns c =
    let w = c.args.wall.now in
    let f = sound-flag w.words.now w.header (opened w) c.args.i c.requires.0 c.args.packed c.requires.1 c.requires.2 c.requires.3 in
    flagged-count w c.args.i c.requires.0 c.args.packed c.requires.1 f.0 f.1 c.flagged.result c.flagged.ensures c.args.place c.count.result c.count.ensures
