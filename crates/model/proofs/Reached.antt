-- A wall that a list of increments has led to, said of the list: one more increment.
use mathlib.Core.Logic.{◌≢◌}
use mathlib.Core.Path.{◌≡◌, refl, sym, ap, ap₂, ◌∙◌, subst}
use mathlib.Core.Bool.{Bool, true, false, ◌&&◌}
use mathlib.Core.List.{List, ◌∷◌}
use Prim.Native.Nat.{ℕ, zero, suc, ◌+◌, ◌*◌, ◌/◌, ◌%◌, ◌≤◌, ◌<◌}
use native.Mathlib.Nat.{mod-lt, zero-add, add-zero, add-suc, add_comm}
use native.Mathlib.Omega.{arith}
use lib.Dec.{T, ltb, eqb, eqb_refl, lit<, lt→ltb}
use lib.Arith.{le→nltb}
use lib.ListN.{length, get_or, set}
use lib.Seq.{set-get_or, set-set, get_or-set_same}
use Rattle.model.specs.Lists.{sum, one_if, by_mark}
use Rattle.model.specs.Levels.{crowded}
use Rattle.model.specs.Walls.{Header, Bucket, Full, Wall, buckets_in, empty_full, with_totals, wall, slot_of, bucket_of, place_of}
use Rattle.model.specs.Sound.{flag, full_number, bucket_counts, own_at, bucket_at, counts_at, count}
use Rattle.model.specs.Calls.{no_room, overflows, raised_by}
use Rattle.model.specs.Runs.{listed, tallies, crowded_after}
use Rattle.model.proofs.Lists.{length_tab, get_or_tab}
use Rattle.model.proofs.Crowding.{crowded_mono, under_set, T_true, T_false}
use Rattle.model.proofs.Tools.{by_eq}
use Rattle.model.proofs.Headers.{bucket_lt}
use Rattle.model.proofs.Sums.{tab_ext, tab_set, sum_change}
use Rattle.model.proofs.Buckets.{counts-none, length-own, flag_le}
use Rattle.model.proofs.SoundWalls.{SoundWall}
use Rattle.model.proofs.Needed.{AllNeeded}
use Rattle.model.proofs.Steps.{Stepped, eqb-false}
use Rattle.model.proofs.Demand2.{Free, more_stepped}
use Rattle.model.proofs.Used.{used-flags}

-- ---- one slot more

once : (s x : ℕ) → s ≡ x → one_if (eqb s x) ≡ 1
once s x e = ap one_if (sym (T_true (eqb s x) (subst (λ y. T (eqb s y)) e (eqb_refl s))))

never : (s x : ℕ) → s ≢ x → one_if (eqb s x) ≡ 0
never s x z = ap one_if (eqb-false s x z)

pub tally_here : (x : ℕ) (xs : List ℕ) → set (tallies (x / 64) xs) (x % 64) (get_or (tallies (x / 64) xs) (x % 64) 0 + 1) ≡ tallies (x / 64) (x ∷ xs)
tally_here x xs =
    let l : x % 64 < 64 = mod-lt x (lit< tt) in
    sym (tab_set 64 (λ a. listed (x / 64 * 64 + a) xs) (λ a. listed (x / 64 * 64 + a) (x ∷ xs)) (x % 64) (get_or (tallies (x / 64) xs) (x % 64) 0 + 1)
    (λ k m z. ap (λ n. n + listed (x / 64 * 64 + k) xs) (never (x / 64 * 64 + k) x (λ e. z (omega arith))) ∙ zero-add (listed (x / 64 * 64 + k) xs))
    (λ m. ap₂ ◌+◌ (once (x / 64 * 64 + x % 64) x (omega arith)) (sym (get_or_tab 64 (λ a. listed (x / 64 * 64 + a) xs) (x % 64) l)) ∙ add_comm 1 (get_or (tallies (x / 64) xs) (x % 64) 0)))

pub tally_there : (k x : ℕ) (xs : List ℕ) → k ≢ x / 64 → tallies k (x ∷ xs) ≡ tallies k xs
tally_there k x xs z =
    tab_ext 64 (λ a. listed (k * 64 + a) (x ∷ xs)) (λ a. listed (k * 64 + a) xs) (λ a m.
    ap (λ n. n + listed (k * 64 + a) xs) (never (k * 64 + a) x (λ e. z (omega arith))) ∙ zero-add (listed (k * 64 + a) xs))

-- ---- the wall after the slots xs, the last first

pub record Reached (h : Header) (xs : List ℕ) (v : Wall) : Type 0 where
  pub sound : SoundWall v
  pub header : v.header ≡ with_totals h (length xs) v.header.used
  pub counts : (k : ℕ) → k < buckets_in h → counts_at v k ≡ tallies k xs
  pub flags : (k : ℕ) → k < buckets_in h → flag (bucket_at v k) ≡ one_if (crowded h.width h.rows (tallies k xs))
  pub needed : AllNeeded v

own-counts : (v : Wall) (k : ℕ) → flag (bucket_at v k) ≡ 0 → own_at v k ≡ counts_at v k
unfolding counts_at
own-counts v k e =
    sym (ap (λ m. bucket_counts (own_at v k) (by_mark m empty_full (get_or v.fulls (full_number (bucket_at v k)) empty_full))) e
    ∙ counts-none (own_at v k) (length-own v.header.width v.header.rows (bucket_at v k)))

holds_le : (b : Bool) → one_if b ≤ 1
holds_le true = omega arith
holds_le false = omega arith

-- ---- the same slot d times more

abbrev pub again : ℕ → ℕ → List ℕ → List ℕ
again zero x xs = xs
again (suc d) x xs = x ∷ again d x xs

pub length_again : (d x : ℕ) (xs : List ℕ) → length (again d x xs) ≡ length xs + d
length_again zero x xs = sym (add-zero (length xs))
length_again (suc d) x xs = ap suc (length_again d x xs) ∙ sym (add-suc (length xs) d)

tally_again : (d x : ℕ) (xs : List ℕ) → set (tallies (x / 64) xs) (x % 64) (get_or (tallies (x / 64) xs) (x % 64) 0 + d) ≡ tallies (x / 64) (again d x xs)
tally_again zero x xs = ap (set (tallies (x / 64) xs) (x % 64)) (add-zero (get_or (tallies (x / 64) xs) (x % 64) 0)) ∙ set-get_or (tallies (x / 64) xs) (x % 64) 0
tally_again (suc d) x xs = go (tallies (x / 64) xs) (tallies (x / 64) (again d x xs)) (length_tab 64 (λ a. listed (x / 64 * 64 + a) xs)) (tally_again d x xs) ∙ tally_here x (again d x xs)
  where
    go : (l m : List ℕ) → length l ≡ 64 → set l (x % 64) (get_or l (x % 64) 0 + d) ≡ m → set l (x % 64) (get_or l (x % 64) 0 + suc d) ≡ set m (x % 64) (get_or m (x % 64) 0 + 1)
    go l m n e =
        let c : ℕ = get_or l (x % 64) 0 in
        let q : get_or m (x % 64) 0 ≡ c + d = ap (λ z. get_or z (x % 64) 0) (sym e) ∙ get_or-set_same l (x % 64) (c + d) 0 (subst (λ k. x % 64 < k) (sym n) (mod-lt x (lit< tt))) in
        let p : c + suc d ≡ get_or m (x % 64) 0 + 1 = omega arith in
        ap (set l (x % 64)) p ∙ sym (set-set l (x % 64) (c + d) (get_or m (x % 64) 0 + 1)) ∙ ap (λ z. set z (x % 64) (get_or m (x % 64) 0 + 1)) e

again_there : (d k x : ℕ) (xs : List ℕ) → k ≢ x / 64 → tallies k (again d x xs) ≡ tallies k xs
again_there zero k x xs z = refl
again_there (suc d) k x xs z = tally_there k x (again d x xs) z ∙ again_there d k x xs z

-- at a header of which all but the totals is h's
module _ (h : Header) (t u : ℕ) (bs : List Bucket) (fs : List Full) (xs : List ℕ) (r : Reached h xs (wall (with_totals h t u) bs fs)) (y d : ℕ) where
  abbrev v : Wall
  v = wall (with_totals h t u) bs fs

  abbrev x : ℕ
  x = slot_of h y

  abbrev i : ℕ
  i = x / 64

  abbrev a : ℕ
  a = x % 64

  abbrev zs : List ℕ
  zs = again d x xs

  li : i < buckets_in h
  li = bucket_lt h y r.sound.limits.bits_low

  c_tally : count v y ≡ get_or (tallies i xs) a 0
  unfolding count
  c_tally = ap (λ l. get_or l a 0) (r.counts i li)

  -- the counts after are those of the longer list
  after : set (counts_at v i) a (count v y + d) ≡ tallies i zs
  after = ap₂ (λ l n. set l a (n + d)) (r.counts i li) c_tally ∙ tally_again d x xs

  -- a bucket without the flag has no room for them where they are crowded
  tight_crowded : flag (bucket_at v i) ≡ 0 → no_room v i a (count v y + d) ≡ crowded h.width h.rows (tallies i zs)
  unfolding no_room
  tight_crowded e = ap (λ l. crowded h.width h.rows (set l a (count v y + d))) (own-counts v i e) ∙ ap (crowded h.width h.rows) after

  -- how many are crowded
  pub now : crowded_after h xs ≡ u
  now = ap sum (tab_ext (buckets_in h) (λ k. one_if (crowded h.width h.rows (tallies k xs))) (λ k. flag (bucket_at v k)) (λ k l. sym (r.flags k l))) ∙ used-flags v r.sound

  then' : crowded_after h zs + flag (bucket_at v i) ≡ u + one_if (crowded h.width h.rows (tallies i zs))
  then' = ap (λ n. crowded_after h zs + n) (r.flags i li)
      ∙ sum_change (buckets_in h) (λ k. one_if (crowded h.width h.rows (tallies k xs))) (λ k. one_if (crowded h.width h.rows (tallies k zs))) i li
      (λ k l z. ap (λ l. one_if (crowded h.width h.rows l)) (again_there d k x xs z))
      ∙ ap (λ n. n + one_if (crowded h.width h.rows (tallies i zs))) now

  -- 12 is met where the counts after crowd more than J buckets
  full_crowds : (overflows v i a (count v y + d) && eqb u h.full) ≡ ltb h.full (crowded_after h zs)
  full_crowds = go (flag (bucket_at v i)) (flag_le (bucket_at v i)) refl (crowded h.width h.rows (tallies i zs)) refl
    where
      most : u ≤ h.full
      most = r.sound.limits.spare_full

      go : (m : ℕ) → m ≤ 1 → flag (bucket_at v i) ≡ m → (b : Bool) → crowded h.width h.rows (tallies i zs) ≡ b
          → (by_mark m (no_room v i a (count v y + d)) false && eqb u h.full) ≡ ltb h.full (crowded_after h zs)
      go zero l e true c =
          let n : crowded_after h zs ≡ u + 1 = omega (arith, then', e, ap one_if c) in
          ap (λ b. b && eqb u h.full) (tight_crowded e ∙ c) ∙ by_eq u h.full
          (λ q. sym (T_true (eqb u h.full) (subst (λ z. T (eqb u z)) q (eqb_refl u))) ∙ T_true (ltb h.full (crowded_after h zs)) (lt→ltb h.full (crowded_after h zs) (omega arith)))
          (λ q. eqb-false u h.full q ∙ T_false (ltb h.full (crowded_after h zs)) (le→nltb h.full (crowded_after h zs) (omega arith)))
      go zero l e false c =
          let n : crowded_after h zs ≡ u = omega (arith, then', e, ap one_if c) in
          ap (λ b. b && eqb u h.full) (tight_crowded e ∙ c) ∙ T_false (ltb h.full (crowded_after h zs)) (le→nltb h.full (crowded_after h zs) (omega arith))
      go (suc m) l e b c =
          let n : crowded_after h zs ≤ u = omega (arith, then', e, holds_le (crowded h.width h.rows (tallies i zs))) in
          T_false (ltb h.full (crowded_after h zs)) (le→nltb h.full (crowded_after h zs) (omega arith))

  -- crowded buckets stay so
  rises : T (crowded h.width h.rows (tallies i xs)) → T (crowded h.width h.rows (tallies i zs))
  rises = subst (λ l. T (crowded h.width h.rows (tallies i xs)) → T (crowded h.width h.rows l)) (tally_again d x xs)
      (crowded_mono h.width h.rows (tallies i xs) (set (tallies i xs) a (get_or (tallies i xs) a 0 + d)) (under_set (tallies i xs) a (get_or (tallies i xs) a 0 + d) (omega arith)))

  stays : (m : ℕ) (b c : Bool) → suc m ≤ 1 → suc m ≡ one_if b → (T b → T c) → suc m ≡ one_if c
  stays m true true l e f = e
  stays m true false l e f = absurd (f tt)
  stays m false c l e f = absurd (omega arith)

  flagged : by_mark (flag (bucket_at v i)) (one_if (no_room v i a (get_or (counts_at v i) a 0 + d))) (flag (bucket_at v i)) ≡ one_if (crowded h.width h.rows (tallies i zs))
  unfolding count
  flagged = go (flag (bucket_at v i)) (flag_le (bucket_at v i)) refl
    where
      go : (m : ℕ) → m ≤ 1 → flag (bucket_at v i) ≡ m → by_mark m (one_if (no_room v i a (get_or (counts_at v i) a 0 + d))) m ≡ one_if (crowded h.width h.rows (tallies i zs))
      go zero l e = ap one_if (tight_crowded e)
      go (suc m) l e = stays m (crowded h.width h.rows (tallies i xs)) (crowded h.width h.rows (tallies i zs)) l (sym e ∙ r.flags i li) rises

  here : Stepped v i a d (raised_by v y d) → counts_at (raised_by v y d) i ≡ tallies i zs
  unfolding count
  here s = s.here ∙ after

  -- one increment more
  next : Stepped v i a d (raised_by v y d) → Reached h zs (raised_by v y d)
  next s = record {
    sound = s.sound;
    header = s.header ∙ ap (λ n. with_totals h n (raised_by v y d).header.used) (ap (λ (g : Header). g.total + d) r.header ∙ sym (length_again d x xs));
    counts = λ k l. by_eq k i (λ e. ap (counts_at (raised_by v y d)) e ∙ here s ∙ ap (λ n. tallies n zs) (sym e)) (λ z. s.there k l z ∙ r.counts k l ∙ sym (again_there d k x xs z));
    flags = λ k l. by_eq k i
        (λ e. ap (λ n. flag (bucket_at (raised_by v y d) n)) e ∙ s.flag-here ∙ flagged ∙ ap (λ n. one_if (crowded h.width h.rows (tallies n zs))) (sym e))
        (λ z. ap flag (s.others k l z).0 ∙ r.flags k l ∙ ap (λ l. one_if (crowded h.width h.rows l)) (sym (again_there d k x xs z)));
    needed = s.needed r.needed;
  }

-- ---- for any wall that was reached

module _ (h : Header) (xs : List ℕ) (v : Wall) (r : Reached h xs v) where
  -- what holds at that header
  at-header : (P : Wall → Type 0) → ((t u : ℕ) → Reached h xs (wall (with_totals h t u) v.buckets v.fulls) → P (wall (with_totals h t u) v.buckets v.fulls)) → P v
  at-header P f = subst (λ g. Reached h xs (wall g v.buckets v.fulls) → P (wall g v.buckets v.fulls)) (sym r.header) (f (length xs) v.header.used) r

  pub reached_used : v.header.used ≡ crowded_after h xs
  reached_used = at-header (λ v. v.header.used ≡ crowded_after h xs) (λ t u q. sym (now h t u v.buckets v.fulls xs q 0 0))

  pub reached_crowds : (y d : ℕ) → (overflows v (bucket_of v.header y) (place_of v.header y) (count v y + d) && eqb v.header.used v.header.full) ≡ ltb h.full (crowded_after h (again d (slot_of h y) xs))
  reached_crowds y d = at-header (λ v. (overflows v (bucket_of v.header y) (place_of v.header y) (count v y + d) && eqb v.header.used v.header.full) ≡ ltb h.full (crowded_after h (again d (slot_of h y) xs)))
      (λ t u q. full_crowds h t u v.buckets v.fulls xs q y d)

  pub reached_next : (y d : ℕ) → 1 ≤ d → Free v y r.sound d → Reached h (again d (slot_of h y) xs) (raised_by v y d)
  reached_next y d p f = at-header (λ v. Stepped v (bucket_of v.header y) (place_of v.header y) d (raised_by v y d) → Reached h (again d (slot_of h y) xs) (raised_by v y d))
      (λ t u q. next h t u v.buckets v.fulls xs q y d) (more_stepped v y r.sound d p f)
