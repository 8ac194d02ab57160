use Rattle.moves.proofs.Fulls.{moved_stored}
use Rattle.moves.proofs.move_in.Goals as goal

pub returns : goal.returns
returns c =
    let a = c.args in
    moved_stored a.words.now a.at a.place a.count c.set_mark.result c.requires.0 c.requires.1 (c.slice_known-2-1.given a.at).fits c.set_mark.ensures
