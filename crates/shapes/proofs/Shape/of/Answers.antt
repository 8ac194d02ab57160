use Rattle.shapes.proofs.Shape.of.Goals as goal

pub returns : goal.returns
returns c = cc
