use Rattle.growth.proofs.Upper.put_in.Goals as goal

pub returns : goal.returns
returns c = rw c.put_in.ensures
