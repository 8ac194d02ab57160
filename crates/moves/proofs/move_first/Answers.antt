use Rattle.moves.proofs.Fulls.{first_stored}
use Rattle.moves.proofs.move_first.Goals as goal

pub returns : goal.returns
returns c =
    let a = c.args in
    first_stored a.words.now a.at a.place a.count c.clear.new.words c.move_in.new.words c.requires.0 c.requires.1 c.clear.ensures c.move_in.ensures
