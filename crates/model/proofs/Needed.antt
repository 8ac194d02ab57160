-- A bucket has need of its flag: one of its levels is used up, and a moved place has risen into that level. So it is at the overflow, so it
-- stays, and such a bucket is crowded.
use mathlib.Core.Logic.{inl, inr}
use mathlib.Core.Path.{◌≡◌, refl, sym, ap, ◌∙◌, subst}
use mathlib.Core.Bool.{Bool, true, false, not, ◌||◌}
use mathlib.Core.List.{List, [], ◌∷◌}
use Prim.Native.Nat.{ℕ, zero, suc, ◌+◌, ◌^◌, ◌≤◌, ◌<◌, suc-le-suc}
use native.Mathlib.Nat.{le_trans, le_of_eq, le_of_suc-le-suc, not-suc-le-zero, zero-lt-suc}
use native.Mathlib.Omega.{arith}
use lib.Dec.{T, leb, ltb, leb→le, le→leb, nleb→lt, ltb→lt, lt→ltb, nltb→le}
use lib.Arith.{lt→nleb}
use lib.ListN.{length, get_or, set, length-set}
use lib.Seq.{get_or-set_same, get_or-set_other}
use Rattle.model.specs.Lists.{one_if, by_mark}
use Rattle.model.specs.Shapes.{Row}
use Rattle.model.specs.Levels.{at_least, crowded}
use Rattle.model.specs.Walls.{Full, Wall, buckets_in}
use Rattle.model.specs.Sound.{flag, moved_at, full_count, bucket_counts, sound_place, bucket_at, own_at, full_for, counts_at}
use Rattle.model.specs.Need.{Crossing, needed_from, Needed}
use Rattle.model.specs.Calls.{move_in}
use Rattle.model.proofs.Crowding.{Under, at_least_mono, T_true, T_false}
use Rattle.model.proofs.Tools.{by_eq}
use Rattle.model.proofs.Buckets.{length-own, length-counts, count_at, own_le, moved_here, moved_other, full-here, full-other}
use Rattle.model.proofs.SoundWalls.{SoundWall}

-- every flagged bucket has need of the flag
abbrev pub AllNeeded : Wall → Type 0
AllNeeded v = (i : ℕ) → i < buckets_in v.header → flag (bucket_at v i) ≡ 1 → Needed v i

-- ---- one count changes

pub at_least-set : (b : ℕ) (os : List ℕ) (a c : ℕ) → a < length os → at_least b (set os a c) + one_if (leb b (get_or os a 0)) ≡ at_least b os + one_if (leb b c)
unfolding at_least
at_least-set b [] a c h = absurd (not-suc-le-zero h)
at_least-set b (o ∷ os) zero c h = omega arith
at_least-set b (o ∷ os) (suc a) c h = omega (arith, at_least-set b os a c (le_of_suc-le-suc h))

-- more than k are at least b now, and were not before: just k were, and the one that changed has come to b
rose : (b k : ℕ) (os : List ℕ) (a c : ℕ) → a < length os → at_least b os ≤ k → k < at_least b (set os a c) → (at_least b os ≡ k) × (get_or os a 0 < b) × (b ≤ c)
rose b k os a c h low high = go (leb b (get_or os a 0)) refl (leb b c) refl (at_least-set b os a c h)
  where
    go : (p : Bool) → leb b (get_or os a 0) ≡ p → (q : Bool) → leb b c ≡ q → at_least b (set os a c) + one_if p ≡ at_least b os + one_if q
        → (at_least b os ≡ k) × (get_or os a 0 < b) × (b ≤ c)
    go false e true f z = (omega arith, nleb→lt b (get_or os a 0) (rw e tt), leb→le b c (rw f tt))
    go false e false f z = absurd (omega arith)
    go true e true f z = absurd (omega arith)
    go true e false f z = absurd (omega arith)

-- a place rises above what the levels have room for: the level that it lacks is used up
pub need_new : (l : ℕ) (rs : List Row) (os : List ℕ) (a c : ℕ) (f : Full) → length os ≡ 64 → a < 64 → T (not (crowded l rs os)) → T (crowded l rs (set os a c))
    → moved_at f a ≡ 1 → full_count f a ≡ c → needed_from l rs os f
unfolding crowded
need_new l [] os a c f n h u t m e = absurd t
need_new l (r ∷ rs) os a c f n h u t m e = go (ltb r.entries (at_least (2 ^ l) os)) refl (ltb r.entries (at_least (2 ^ l) (set os a c))) refl u t
    (λ u t. need_new (l + r.width) rs os a c f n h u t m e)
  where
    go : (p : Bool) → ltb r.entries (at_least (2 ^ l) os) ≡ p → (q : Bool) → ltb r.entries (at_least (2 ^ l) (set os a c)) ≡ q
        → T (not (p || crowded (l + r.width) rs os)) → T (q || crowded (l + r.width) rs (set os a c))
        → (T (not (crowded (l + r.width) rs os)) → T (crowded (l + r.width) rs (set os a c)) → needed_from (l + r.width) rs os f) → needed_from l (r ∷ rs) os f
    go true x q y u t i = absurd u
    go false x true y u t i =
        let g = rose (2 ^ l) r.entries os a c (rw n h) (nltb→le r.entries (at_least (2 ^ l) os) (rw x tt)) (ltb→lt r.entries (at_least (2 ^ l) (set os a c)) (rw y tt)) in
        inl (g.0, (a, h, m, g.1, le_trans g.2 (le_of_eq (sym e))))
    go false x false y u t i = inr (i u t)

-- ---- the moved counts rise

pub need_kept : (l : ℕ) (rs : List Row) (os : List ℕ) (f g : Full) → ((a : ℕ) → a < 64 → moved_at f a ≡ 1 → (moved_at g a ≡ 1) × (full_count f a ≤ full_count g a))
    → needed_from l rs os f → needed_from l rs os g
need_kept l [] os f g k z = absurd z
need_kept l (r ∷ rs) os f g k (inl (e, (a, h, m, low, high))) = let z = k a h m in inl (e, (a, h, z.0, low, le_trans high z.1))
need_kept l (r ∷ rs) os f g k (inr z) = inr (need_kept (l + r.width) rs os f g k z)

-- a place comes to the count c, no less than it had
pub moved_rises : (os : List ℕ) (f : Full) (a c : ℕ) → a < 64 → length f.counts ≡ 64 → get_or (bucket_counts os f) a 0 ≤ c
    → (k : ℕ) → k < 64 → moved_at f k ≡ 1 → (moved_at (move_in f a c) k ≡ 1) × (full_count f k ≤ full_count (move_in f a c) k)
moved_rises os f a c h n low k l m = by_eq k a
    (λ e.
    let x : full_count f a ≡ get_or (bucket_counts os f) a 0 = sym (count_at os f a h ∙ ap (λ y. by_mark y (get_or os a 0) (full_count f a)) (ap (moved_at f) (sym e) ∙ m)) in
    let y : full_count f a ≤ full_count (move_in f a c) a = le_trans (le_of_eq x) (le_trans low (le_of_eq (sym (full-here f a c h n)))) in
    (ap (moved_at (move_in f a c)) e ∙ moved_here f a c h n, subst (λ j. full_count f j ≤ full_count (move_in f a c) j) (sym e) y))
    (λ z. (moved_other f a c h n k l z ∙ m, le_of_eq (sym (full-other f a c h n k z))))

-- ---- such a bucket is crowded

under_of : (us vs : List ℕ) → length us ≡ length vs → ((a : ℕ) → a < length us → get_or us a 0 ≤ get_or vs a 0) → Under us vs
under_of [] [] e h = tt
under_of [] (v ∷ vs) e h = absurd (omega arith)
under_of (u ∷ us) [] e h = absurd (omega arith)
under_of (u ∷ us) (v ∷ vs) e h = (h 0 (zero-lt-suc (length us)), under_of us vs (omega arith) (λ a l. h (suc a) (suc-le-suc l)))

or_left : (a b : Bool) → T a → T (a || b)
or_left true b t = tt
or_left false b t = absurd t

or_right : (a b : Bool) → T b → T (a || b)
or_right true b t = tt
or_right false b t = t

module _ (os : List ℕ) (f : Full) (n : length os ≡ 64) (p : (a : ℕ) → a < 64 → T (sound_place os f a)) where
  -- the own counts with a moved place's count put in are under the counts
  moved_under : (a : ℕ) → a < 64 → moved_at f a ≡ 1 → Under (set os a (full_count f a)) (bucket_counts os f)
  moved_under a h m =
      under_of (set os a (full_count f a)) (bucket_counts os f) (length-set os a (full_count f a) ∙ n ∙ sym (length-counts os f)) (λ k l.
      let q : k < 64 = le_trans l (le_of_eq (length-set os a (full_count f a) ∙ n)) in
      by_eq k a
      (λ e. subst (λ j. get_or (set os a (full_count f a)) j 0 ≤ get_or (bucket_counts os f) j 0) (sym e)
      (le_of_eq (get_or-set_same os a (full_count f a) 0 (rw n h) ∙ sym (count_at os f a h ∙ ap (λ y. by_mark y (get_or os a 0) (full_count f a)) m))))
      (λ z. le_trans (le_of_eq (get_or-set_other os a k (full_count f a) 0 z)) (own_le os f k q (p k q))))

  -- one more of the counts reaches the level than of the own counts
  crossing_more : (l : ℕ) → Crossing l os f → at_least (2 ^ l) os < at_least (2 ^ l) (bucket_counts os f)
  crossing_more l (a, h, m, low, high) =
      let x = at_least-set (2 ^ l) os a (full_count f a) (rw n h) in
      let y : false ≡ leb (2 ^ l) (get_or os a 0) = T_false (leb (2 ^ l) (get_or os a 0)) (lt→nleb (2 ^ l) (get_or os a 0) low) in
      let z : true ≡ leb (2 ^ l) (full_count f a) = T_true (leb (2 ^ l) (full_count f a)) (le→leb (2 ^ l) (full_count f a) high) in
      omega (arith, x, ap one_if y, ap one_if z, at_least_mono (2 ^ l) (set os a (full_count f a)) (bucket_counts os f) (moved_under a h m))

  pub need_crowded : (l : ℕ) (rs : List Row) → needed_from l rs os f → T (crowded l rs (bucket_counts os f))
  unfolding crowded
  need_crowded l [] z = absurd z
  need_crowded l (r ∷ rs) (inl (e, z)) = or_left (ltb r.entries (at_least (2 ^ l) (bucket_counts os f))) (crowded (l + r.width) rs (bucket_counts os f))
      (lt→ltb r.entries (at_least (2 ^ l) (bucket_counts os f)) (omega (arith, crossing_more l z)))
  need_crowded l (r ∷ rs) (inr z) = or_right (ltb r.entries (at_least (2 ^ l) (bucket_counts os f))) (crowded (l + r.width) rs (bucket_counts os f)) (need_crowded (l + r.width) rs z)

-- in a sound wall
pub needed-crowded : (v : Wall) → SoundWall v → (i : ℕ) → i < buckets_in v.header → Needed v i → T (crowded v.header.width v.header.rows (counts_at v i))
unfolding counts_at
needed-crowded v s i h = need_crowded (own_at v i) (full_for v i) (length-own v.header.width v.header.rows (bucket_at v i)) (s.each i h).places v.header.width v.header.rows
