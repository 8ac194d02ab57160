use Rattle.header.proofs.Opening.{buckets_most}
use Rattle.header.proofs.buckets.Goals as goal

pub returns : goal.returns
returns c =
    let v = c.args.v in
    let k = c.requires in
    let e = c.pow2.ensures.0 in
    (e, rw e (buckets_most v k))
