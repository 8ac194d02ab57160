use native.Mathlib.Omega.{arith}
use Rattle.found.proofs.Here.{packed-low, plain_weighed}
use Rattle.found.proofs.weigh.Goals as goal

pub weigh-requires : goal.weigh-requires
weigh-requires c = packed-low c.args.wall.now c.args.i c.requires c.site.result c.site.ensures _ c.packed_word-packed.ensures (omega arith)

pub returns : goal.returns
returns c = plain_weighed c.args.wall.now c.args.i c.requires c.site.result c.site.ensures _ c.packed_word-packed.ensures (omega arith) _ c.weigh.ensures
