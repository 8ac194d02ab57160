use mathlib.Core.Path.{refl}
use Rattle.model.proofs.Packing.{rank-ones}
use Rattle.packed.proofs.Words.{rank_le}
use Rattle.packed.proofs.rank.Goals as goal

pub returns : goal.returns
returns c =
    let a = c.args in
    rw (c.count.ensures.0, c.pow2.ensures.0, rank-ones a.x a.a) (refl, rank_le a.x a.a)
