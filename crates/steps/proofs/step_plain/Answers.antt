use Rattle.steps.proofs.Writing.{inside, lies, raises, stays, stays_room, held_of, step_held}
use Rattle.header.proofs.Places.{open_good, open_known, open_limits, open_spread}
use Rattle.bucket.specs.Raise.{RaisesIn, Stays}
use Rattle.bucket.specs.Views.{bucket_in}
use Rattle.shapes.specs.Shapes.{rows_in}
use Rattle.model.specs.Calls.{holding}
use Rattle.model.specs.Sound.{bucket_at, own_counts}
use Rattle.model.specs.Walls as model
use Rattle.model.specs.Walls.{parse}
use lib.ListN.{set}
use native.Mathlib.Omega.{arith}
use Prim.Native.Nat.{ℕ}
use mathlib.Core.List.{List}
use mathlib.Core.Path.{◌≡◌, sym, ap, ◌∙◌, subst}
use Rattle.steps.proofs.step_plain.Goals as goal

pub overflow_shr-count : goal.overflow_shr-count
overflow_shr-count c = omega (arith, (open_known c.args.words.now c.args.v c.requires.0.header).width_high)

pub overflow_shr-was : goal.overflow_shr-was
overflow_shr-was c = omega (arith, (open_known c.args.words.now c.args.v c.requires.0.header).width_high)

pub of-shape-requires : goal.of-shape-requires
of-shape-requires c =
    let r = c.requires.0 in
    let k = open_known _ _ r.header in
    (k.shape_low, k.shape_high)

pub bucket_at-requires : goal.bucket_at-requires
bucket_at-requires c =
    let r = c.requires.0 in
    (open_known _ _ r.header, r.bucket)

pub step_first-requires : goal.step_first-requires
step_first-requires c =
    let v = c.args.v in
    let a = c.args.at in
    let n = c.args.count in
    let r = c.requires.0 in
    let z = c.of-shape.result in
    let es = c.of-shape.ensures in
    let q = c.bucket_at.ensures in (
      inside _ _ _ _ _ r _ es _ q,
      subst (λ (b : model.Bucket). RaisesIn z b a n) (sym (lies _ _ _ _ _ r _ es _ q)) (raises _ _ _ _ _ r _ es c.requires.2),
      subst (λ (b : model.Bucket). Stays z b a n) (sym (lies _ _ _ _ _ r _ es _ q)) (stays _ _ _ _ _ r _ es c.requires.2 c.args.was c.requires.1 c.if-count-v.true),
    )

pub put_totals-requires : goal.put_totals-requires
put_totals-requires c =
    let r = c.requires.0 in
    let l = open_limits _ _ r.header in
    (omega (arith, (open_good _ _ r.header).long, c.step_first.auto.words), l.full_most, omega (arith, l.full_most, l.spare_full), open_spread _ _ r.header)

pub returns-then-count-v : goal.returns-then-count-v
returns-then-count-v c =
    let ws = c.args.words.now in
    let v = c.args.v in
    let i = c.args.i in
    let a = c.args.at in
    let n = c.args.count in
    let r = c.requires.0 in
    let z = c.of-shape.result in
    let es = c.of-shape.ensures in
    let at = c.bucket_at.result in
    let q = c.bucket_at.ensures in
    let k : bucket_in z ws at ≡ bucket_at (parse ws) i = lies _ _ _ _ _ r _ es _ q in
    ap (λ (x : List ℕ). record { number = 0; value = n; words = x }) c.put_totals.ensures
    ∙ step_held _ _ _ _ _ r c.args.total (c.slice_known-1.given 0).fits c.step_first.new.words at (holding z.width (rows_in z) (set (own_counts z.width (rows_in z) (bucket_in z ws at)) a n)) c.requires.2
    (stays_room _ _ _ _ _ r _ es c.requires.2 (stays _ _ _ _ _ r _ es c.requires.2 c.args.was c.requires.1 c.if-count-v.true)) q
    (held_of _ _ _ _ _ r _ es (holding z.width (rows_in z) (set (own_counts z.width (rows_in z) (bucket_in z ws at)) a n)) (ap (λ (b : model.Bucket). holding z.width (rows_in z) (set (own_counts z.width (rows_in z) b) a n)) k)) c.step_first.ensures
