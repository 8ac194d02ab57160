use Rattle.steps.proofs.Writing.{over_of, held_of, step_held, step-twelve, step_over}
use Rattle.steps.proofs.InHand.{lent, its, held, may_raise, some_room, without_room}
use Rattle.header.proofs.Places.{open_good, open_known, open_limits, open_spread, full-within}
use Rattle.bucket.specs.Views.{as_bucket}
use lib.Dec.{T}
use native.Mathlib.Omega.{arith}
use Prim.Native.Nat.{ℕ}
use mathlib.Core.List.{List}
use mathlib.Core.Path.{sym, ap, ◌∙◌, subst}
use Rattle.steps.proofs.step_carry.Goals as goal

pub bucket_at-start-requires : goal.bucket_at-start-requires
bucket_at-start-requires c =
    let r = c.requires.0 in
    (open_known _ _ r.header, r.bucket)

pub of-shape-requires : goal.of-shape-requires
of-shape-requires c =
    let r = c.requires.0 in
    let k = open_known _ _ r.header in
    (k.shape_low, k.shape_high)

pub take-bucket-requires : goal.take-bucket-requires
take-bucket-requires c = lent c.requires.0 c.of-shape.ensures c.bucket_at-start.ensures

pub room-requires : goal.room-requires
room-requires c = may_raise c.requires.0 c.of-shape.ensures c.bucket_at-start.ensures c.take-bucket.result c.take-bucket.ensures c.requires.1

pub raise-requires : goal.raise-requires
raise-requires c =
    (may_raise c.requires.0 c.of-shape.ensures c.bucket_at-start.ensures c.take-bucket.result c.take-bucket.ensures c.requires.1, subst T c.room.ensures (subst T (sym c.if-room.true) tt))

pub store-requires : goal.store-requires
store-requires c = lent c.requires.0 c.of-shape.ensures c.bucket_at-start.ensures

pub put_totals-requires : goal.put_totals-requires
put_totals-requires c =
    let r = c.requires.0 in
    let l = open_limits _ _ r.header in
    (omega (arith, (open_good _ _ r.header).long, c.store.auto.words), l.full_most, omega (arith, l.full_most, l.spare_full), open_spread _ _ r.header)

pub returns-then-room : goal.returns-then-room
returns-then-room c =
    let r = c.requires.0 in
    let z = c.of-shape.result in
    let es = c.of-shape.ensures in
    let q = c.bucket_at-start.ensures in
    let t = c.take-bucket.ensures in
    ap (λ (x : List ℕ). record { number = 0; value = c.args.count; words = x }) c.put_totals.ensures
    ∙ step_held _ _ _ _ _ r c.args.total (c.slice_known-1.given 0).fits c.store.new.words c.bucket_at-start.result (as_bucket z c.raise.result) c.requires.1 (some_room r es q _ t c.room.result c.room.ensures c.if-room.true) q
    (held_of _ _ _ _ _ r _ es (as_bucket z c.raise.result) (held r es q _ t c.raise.ensures)) c.store.ensures

pub returns-then-v : goal.returns-then-v
returns-then-v c =
    let r = c.requires.0 in
    step-twelve _ _ _ _ _ r c.args.total (c.slice_known-1.given 0).fits c.requires.1 (without_room r c.of-shape.ensures c.bucket_at-start.ensures c.take-bucket.result c.take-bucket.ensures c.room.result c.room.ensures c.if-room.false) c.if-v.true

pub overflow-requires : goal.overflow-requires
overflow-requires c =
    let r = c.requires.0 in
    let l = open_limits _ _ r.header in
    omega (arith, l.full_most, l.spare_full)

pub store-requires-2 : goal.store-requires-2
store-requires-2 c = lent c.requires.0 c.of-shape.ensures c.bucket_at-start.ensures

pub full_at-requires : goal.full_at-requires
full_at-requires c =
    let v = c.args.v in
    let r = c.requires.0 in
    let l = open_limits _ _ r.header in
    (open_known _ _ r.header, omega (arith, l.full_most, l.spare_full, c.if-v.false))

pub move_first-requires : goal.move_first-requires
move_first-requires c =
    let v = c.args.v in
    let r = c.requires.0 in
    let l = open_limits _ _ r.header in
    (omega (arith, full-within _ _ r.header v.used (omega (arith, l.spare_full, c.if-v.false)), c.full_at.ensures, c.store-2.auto.words), r.place)

pub put_totals-requires-2 : goal.put_totals-requires-2
put_totals-requires-2 c =
    let v = c.args.v in
    let r = c.requires.0 in
    let l = open_limits _ _ r.header in
    (omega (arith, (open_good _ _ r.header).long, c.store-2.auto.words, c.move_first.auto.words), l.full_most, omega (arith, l.full_most, l.spare_full, c.if-v.false), open_spread _ _ r.header)

pub returns : goal.returns
returns c =
    let v = c.args.v in
    let r = c.requires.0 in
    let z = c.of-shape.result in
    let es = c.of-shape.ensures in
    let q = c.bucket_at-start.ensures in
    let t = c.take-bucket.ensures in
    let y = c.overflow in
    ap (λ (x : List ℕ). record { number = 0; value = c.args.count; words = x }) c.put_totals-2.ensures
    ∙ step_over _ _ _ _ _ r c.args.total (c.slice_known-1.given 0).fits c.store-2.new.words c.move_first.new.words c.bucket_at-start.result c.full_at.result (as_bucket z y.result) c.requires.1
    (without_room r es q _ t c.room.result c.room.ensures c.if-room.false) c.if-v.false q
    (over_of _ _ _ _ _ r _ es c.take-bucket.result y.result v.used (its r es q _ t) y.ensures.0 y.ensures.1 y.ensures.2 y.ensures.3) c.store-2.ensures c.full_at.ensures c.move_first.ensures
