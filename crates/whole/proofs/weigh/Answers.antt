use native.Mathlib.Omega.{arith}
use Rattle.header.proofs.Places.{opened}
use Rattle.whole.proofs.Tallying.{again_few, bucket-few, number-few, passed_flagged, passed_plain, seen_flagged, seen_plain, sum_fits, told-not, total_small}
use Rattle.whole.proofs.weigh.Goals as goal

pub returns-in_err-sum : goal.returns-in_err-sum
returns-in_err-sum c = rw c.from_residual.ensures (told-not _ c.args.i _ c.weigh.ensures c.in_err-sum.was)

pub overflow_add-sum : goal.overflow_add-sum
overflow_add-sum c =
    let o = opened c.args.wall.now in
    record { fits = sum_fits _ c.args.i c.args.t c.requires.1 _ _ c.weigh.ensures c.in_ok-sum.was (bucket-few _ _ o _ c.requires.0) (total_small _ _ o) }

pub returns-then-packed-eq0 : goal.returns-then-packed-eq0
returns-then-packed-eq0 c =
    let n = c.packed_word-packed in (
      passed_plain _ c.args.i c.args.t c.requires.1 _ _ c.weigh.ensures c.in_ok-sum.was n.result n.ensures c.if-packed-eq0.true,
      seen_plain _ c.args.i c.args.t c.requires.1 _ _ c.weigh.ensures c.in_ok-sum.was n.result n.ensures c.if-packed-eq0.true _ c.requires.2,
    )

pub mark-again-requires : goal.mark-again-requires
mark-again-requires c =
    let n = c.packed_word-packed in
    (number-few _ _ (opened c.args.wall.now) c.args.i n.result _ _ c.weigh.ensures c.in_ok-sum.was n.ensures c.if-packed-eq0.false, c.requires.2.bitmap)

pub overflow_add-result : goal.overflow_add-result
overflow_add-result c = record { fits = omega (arith, c.requires.1.few, bucket-few _ _ (opened c.args.wall.now) _ c.requires.0) }

pub overflow_add-result-2 : goal.overflow_add-result-2
overflow_add-result-2 c = record { fits = omega (arith, again_few _ _ _ c.requires.1, c.mark-again.ensures.1, bucket-few _ _ (opened c.args.wall.now) _ c.requires.0) }

pub returns : goal.returns
returns c =
    let n = c.packed_word-packed in
    let m = c.mark-again in (
      passed_flagged _ c.args.i c.args.t c.requires.1 _ _ c.weigh.ensures c.in_ok-sum.was n.result n.ensures c.if-packed-eq0.false c.args.seen.now c.requires.2 m.result m.ensures.0,
      seen_flagged _ c.args.i c.args.t c.requires.1 _ _ c.weigh.ensures c.in_ok-sum.was n.result n.ensures c.if-packed-eq0.false c.args.seen.now c.requires.2 m.new.seen m.ensures.2,
    )
