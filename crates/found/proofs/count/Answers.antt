use native.Mathlib.Omega.{arith}
use Rattle.found.proofs.Here.{plain-count}
use Rattle.found.proofs.count.Goals as goal

pub returns : goal.returns
returns c = plain-count c.args.wall.now c.args.i c.requires.0 c.site.result c.site.ensures _ c.packed_word-packed.ensures (omega arith) c.args.place _ c.count.ensures
