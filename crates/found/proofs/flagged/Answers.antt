use Rattle.header.proofs.Places.{opened, open_known}
use Rattle.found.proofs.Here.{number-few, full-room}
use Rattle.found.proofs.flagged.Goals as goal

pub full_at-requires : goal.full_at-requires
full_at-requires c =
    let w = c.args.wall.now in
    (open_known w.words.now w.header (opened w), number-few w.words.now w.header (opened w) c.args.i c.requires.0 c.args.q c.requires.1)

pub invariant_of-result : goal.invariant_of-result
invariant_of-result c =
    let w = c.args.wall.now in
    rw (c.full_at.ensures, c.site.ensures.words) (record { room = full-room w.words.now w.header (opened w) c.args.i c.requires.0 c.args.q c.requires.1 })
