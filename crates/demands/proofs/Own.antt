-- A step of a wall of which only the own bucket is known to be sound: its words are read back, and the one count rises.
use mathlib.Core.Path.{◌≡◌, refl, ap, ◌∙◌, subst, subst₂}
use mathlib.Core.Bool.{Bool, true, false, not, ◌&&◌}
use mathlib.Core.List.{List, ◌++◌}
use Prim.Native.Nat.{ℕ, zero, suc, ◌+◌, ◌≤◌, ◌<◌}
use native.Mathlib.Nat.{mod-lt}
use native.Mathlib.Omega.{arith}
use lib.Dec.{T, eqb, eqb_refl, lit<, T_not}
use lib.Arith.{lt_of_le-ne}
use lib.ListN.{get_or, set}
use lib.Seq.{get_or-set_same}
use Rattle.model.specs.Lists.{by_mark, choose}
use Rattle.model.specs.Shapes.{Row, rows_of}
use Rattle.model.specs.Walls.{Bucket, Full, Wall, wall, buckets_in, slot_of, bucket_of, place_of, with_totals, good, flatten, parse, empty_full}
use Rattle.model.specs.Sound.{flag, full_number, bucket_at, own_at, full_for, counts_at, count, sound_at}
use Rattle.model.specs.Calls.{Clear, bucket_refusals, step_refusals, no_room, step, raised_by, holding, overflowed, move_in}
use Rattle.model.proofs.Tools.{not-not}
use Rattle.model.proofs.Headers.{Limits, good_of, bucket_lt}
use Rattle.model.proofs.Parsing.{Shaped, Coded, coded_of, parse-flatten, shaped_parse}
use Rattle.model.proofs.Buckets.{SoundB, bucket_facts}
use Rattle.model.proofs.SoundWalls.{parse-header}
use Rattle.model.proofs.OwnSteps.{length-counts_at, Kept, kept_held, kept_over, kept-raised}
use Rattle.model.proofs.Demand2.{tabled_parse}

module _ (x : Wall) (sh : Shaped x) (l : Limits x.header) (tabled : x.header.rows ≡ rows_of x.header.shape) (i a d : ℕ) (li : i < buckets_in x.header) (la : a < 64)
    (s : SoundB x.header.width x.header.rows x.header.total x.header.used (bucket_at x i) (full_for x i)) (room : x.header.total + d ≤ x.header.limit) where
  abbrev next : ℕ → List Bucket → List Full → Wall
  next u bs fs = wall (with_totals x.header (x.header.total + d) u) bs fs

  abbrev c : ℕ
  c = get_or (counts_at x i) a 0

  -- of the wall after the step: its words give it back, its header is that of x but for the totals, and bucket i has the one count more
  record Read (y : Wall) : Type 0 where
    back : parse (flatten y) ≡ y
    header : y.header ≡ with_totals x.header (x.header.total + d) y.header.used
    counts : counts_at y i ≡ set (counts_at x i) a (c + d)

  coded : (u : ℕ) → u ≤ x.header.full → Coded (with_totals x.header (x.header.total + d) u)
  coded u h =
      let e = coded_of x.header l tabled in
      record { head = e.head; fulls = (e.fulls.0, (omega (arith, l.full_most), (e.fulls.1.1.0, tt))); tabled = tabled }

  read : (u : ℕ) (bs : List Bucket) (fs : List Full) → u ≤ x.header.full → Kept x i a d (next u bs fs) → Read (next u bs fs)
  read u bs fs h k = record { back = parse-flatten (next u bs fs) (coded u h) k.shaped; header = refl; counts = k.counts }

  abbrev b : Bucket
  b = bucket_at x i

  abbrev w : ℕ
  w = x.header.width

  abbrev rs : List Row
  rs = x.header.rows

  abbrev vs : List ℕ
  vs = set (own_at x i) a (c + d)

  step_read : (flag b ≡ 0 → no_room x i a (c + d) ≡ true → x.header.used < x.header.full) → Read (step x i a (c + d) (x.header.total + d))
  unfolding step
  step_read free = go (flag b) refl (no_room x i a (c + d)) refl
    where
      go : (m : ℕ) → flag b ≡ m → (t : Bool) → no_room x i a (c + d) ≡ t → Read (by_mark m
          (choose t
          (next (x.header.used + 1) (set x.buckets i (overflowed b x.header.used)) (set x.fulls x.header.used (move_in empty_full a (c + d))))
          (next x.header.used (set x.buckets i (holding w rs vs)) x.fulls))
          (next x.header.used x.buckets (set x.fulls (full_number b) (move_in (full_for x i) a (c + d)))))
      go zero e true t = read (x.header.used + 1) _ _ (omega (arith, free e t)) (kept_over x sh l i a d li la s room e (free e t))
      go zero e false t = read x.header.used _ _ l.spare_full (kept_held x sh l i a d li la s room e t)
      go (suc m) e t z = read x.header.used _ _ l.spare_full (kept-raised x sh l i a d li la s room m e)

lt_of : (m n : ℕ) → m ≤ n → T (not (eqb m n)) → m < n
lt_of m n h t = lt_of_le-ne h (λ e. T_not (eqb m n) t (subst (λ x. T (eqb m x)) e (eqb_refl m)))

-- by flow
count_kept : (x v : Wall) (y d : ℕ) → parse (flatten v) ≡ v → v.header ≡ with_totals x.header (x.header.total + d) v.header.used
    → counts_at v (bucket_of x.header y) ≡ set (counts_at x (bucket_of x.header y)) (place_of x.header y) (count x y + d) → count (parse (flatten v)) y ≡ count x y + d
unfolding count
count_kept x v y d p q e =
    ap (λ v. count v y) p ∙ ap (λ h. get_or (counts_at v (bucket_of h y)) (place_of h y) 0) q ∙ ap (λ c. get_or c (place_of x.header y) 0) e
    ∙ get_or-set_same (counts_at x (bucket_of x.header y)) (place_of x.header y) (count x y + d) 0 (rw length-counts_at (mod-lt (slot_of x.header y) (lit< tt)))

pub own-raised : (ws : List ℕ) (y : ℕ) → Clear (bucket_refusals ws y ++ step_refusals (parse ws) y)
    → (parse (flatten (raised_by (parse ws) y 1)) ≡ raised_by (parse ws) y 1) × (count (parse (flatten (raised_by (parse ws) y 1))) y ≡ count (parse ws) y + 1)
    × ((raised_by (parse ws) y 1).header ≡ with_totals (parse ws).header ((parse ws).header.total + 1) (raised_by (parse ws) y 1).header.used)
unfolding count sound_at
own-raised ws y k =
    let v : Wall = parse ws in
    let i : ℕ = bucket_of v.header y in
    let a : ℕ = place_of v.header y in
    let g = good_of ws (not-not (good ws) k.0) in
    let l : Limits v.header = rw parse-header g.limits in
    let la : a < 64 = mod-lt (slot_of v.header y) (lit< tt) in
    let s = bucket_facts v.header.width v.header.rows v.header.total v.header.used (bucket_at v i) (full_for v i) (not-not (sound_at v i) k.1.1.0) in
    let f : flag (bucket_at v i) ≡ 0 → no_room v i a (count v y + 1) ≡ true → v.header.used < v.header.full =
    λ e t. lt_of v.header.used v.header.full l.spare_full (subst₂ (λ m b. T (not (by_mark m b false && eqb v.header.used v.header.full))) e t k.1.1.1.1.1.0) in
    let r = step_read v (shaped_parse ws g) l (tabled_parse ws) i a 1 (bucket_lt v.header y l.bits_low) la s (omega (arith, lt_of v.header.total v.header.limit l.within k.1.1.1.0)) f in
    (r.back, count_kept v (raised_by v y 1) y 1 r.back r.header r.counts, r.header)
