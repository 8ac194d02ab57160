use Rattle.growth.proofs.Upper.replace.Goals as goal

pub returns : goal.returns
returns c = rw c.replace.ensures
