-- The counts of a bucket with its full-size bucket, place by place, and the judgement of all of them.
use mathlib.Core.Path.{◌≡◌, refl, sym, ap, ap₂, ◌∙◌, subst}
use mathlib.Core.Bool.{Bool, true, false}
use mathlib.Core.List.{List, [], ◌∷◌}
use Prim.Native.Nat.{ℕ, zero, suc, ◌+◌, ◌-◌, ◌^◌, ◌≤◌, ◌<◌}
use native.Mathlib.Numerals.{add-one}
use native.Mathlib.Omega.{arith}
use lib.Dec.{T, leb, ltb, eqb, leb→le, le→leb}
use lib.Count.{ones}
use lib.ListN.{get_or, take}
use borrow.Author.Count.{below_more}
use borrow.Author.Tests.{lt-ltb, le-ltb}
use Rattle.std.specs.Prelude.{Option, Some, None}
use Rattle.model.specs.Lists.{sum, all, every, by_mark}
use Rattle.model.specs.Packed.{bit, rank}
use Rattle.model.specs.Walls.{Full}
use Rattle.model.specs.Sound.{moved_at, full_count, bucket_counts, sound_place}
use Rattle.model.proofs.Packing.{rank-all}
use Rattle.model.proofs.Tests.{every-at, every_of}
use Rattle.model.proofs.Tools.{all_tests, tests_all}
use Rattle.model.proofs.Buckets.{count_at}
use Rattle.uppers.specs.Judge.{verdict}
use Rattle.moves.specs.Full.{full_at}
use Rattle.fulls.specs.Fulls.{full_tests}
use Rattle.uppers.proofs.Verdicts.{said-sound, said-not, say_sound, say_not}
use Rattle.moves.proofs.Fulls.{full-moved, full-count}

-- ---- one place

pub mark_none : {A : Type 0} (m : ℕ) (x y : A) → m ≡ 0 → by_mark m x y ≡ x
mark_none zero x y e = refl
mark_none (suc m) x y e = absurd (omega arith)

pub mark_some : {A : Type 0} (m : ℕ) (x y : A) → (m ≡ 0 → ⊥) → by_mark m x y ≡ y
mark_some zero x y z = absurd (z refl)
mark_some (suc m) x y z = refl

module _ (os ws : List ℕ) (at a : ℕ) (l : a < 64) where
  abbrev count : ℕ
  count = get_or ws (at + 1 + a) 0

  flag : moved_at (full_at ws at) a ≡ bit (get_or ws at 0) a
  flag = ap (λ x. bit x a) (full-moved ws at)

  pub own-count : bit (get_or ws at 0) a ≡ 0 → get_or (bucket_counts os (full_at ws at)) a 0 ≡ get_or os a 0
  own-count e = count_at os (full_at ws at) a l ∙ mark_none (moved_at (full_at ws at) a) (get_or os a 0) (full_count (full_at ws at) a) (flag ∙ e)

  pub moved-count : (bit (get_or ws at 0) a ≡ 0 → ⊥) → get_or (bucket_counts os (full_at ws at)) a 0 ≡ count
  moved-count z =
      count_at os (full_at ws at) a l ∙ mark_some (moved_at (full_at ws at) a) (get_or os a 0) (full_count (full_at ws at) a) (λ e. z (sym flag ∙ e))
      ∙ full-count ws at a l

  moved_test : (bit (get_or ws at 0) a ≡ 0 → ⊥) → sound_place os (full_at ws at) a ≡ ltb (get_or os a 0) count
  moved_test z =
      mark_some (moved_at (full_at ws at) a) (eqb (full_count (full_at ws at) a) 0) (ltb (get_or os a 0) (full_count (full_at ws at) a)) (λ e. z (sym flag ∙ e))
      ∙ ap (λ x. ltb (get_or os a 0) x) (full-count ws at a l)

  abbrev said : Option ℕ
  said = verdict (sound_place os (full_at ws at) a) (get_or (bucket_counts os (full_at ws at)) a 0)

  pub moved-sound : (bit (get_or ws at 0) a ≡ 0 → ⊥) → get_or os a 0 < count → Some count ≡ said
  moved-sound z h = sym (ap₂ verdict (moved_test z ∙ lt-ltb (get_or os a 0) count h) (moved-count z))

  pub moved-unsound : (bit (get_or ws at 0) a ≡ 0 → ⊥) → count ≤ get_or os a 0 → None ≡ said
  moved-unsound z h = sym (ap (λ b. verdict b (get_or (bucket_counts os (full_at ws at)) a 0)) (moved_test z ∙ le-ltb (get_or os a 0) count h))

-- ---- sums of the first counts

sum_front : (l : List ℕ) (k : ℕ) → sum (take (suc k) l) ≡ sum (take k l) + get_or l k 0
sum_front [] zero = refl
sum_front [] (suc k) = refl
sum_front (x ∷ l) zero = omega arith
sum_front (x ∷ l) (suc k) = omega (arith, sum_front l k)

pub sum-next : (l : List ℕ) (k : ℕ) → sum (take (k + 1) l) ≡ sum (take k l) + get_or l k 0
sum-next l k = ap (λ n. sum (take n l)) (add-one k) ∙ sum_front l k

sum-take : (l : List ℕ) (k : ℕ) → sum (take k l) ≤ sum l
sum-take [] zero = omega arith
sum-take [] (suc k) = omega arith
sum-take (x ∷ l) zero = omega arith
sum-take (x ∷ l) (suc k) = omega (arith, sum-take l k)

-- ---- all places: n of them, m flags, the test p of each, the sum s

module _ (n m : ℕ) (p : ℕ → Bool) (s total : ℕ) where
  abbrev tests : List Bool
  tests = leb 1 m ∷ every n p ∷ leb s total ∷ []

  none : m ≡ 0 → None ≡ verdict (all tests) s
  none e = say_not (all tests) s (λ t. omega (arith, leb→le 1 m (all_tests tests t).0))

  wrong : (k : ℕ) → k < n → p k ≡ false → None ≡ verdict (all tests) s
  wrong k h e = say_not (all tests) s (λ t. subst T e (every-at n p (all_tests tests t).1.0 k h))

  excess : total < s → None ≡ verdict (all tests) s
  excess h = say_not (all tests) s (λ t. omega (arith, leb→le s total (all_tests tests t).1.1.0))

  right : 1 ≤ m → ((k : ℕ) → k < n → p k ≡ true) → s ≤ total → Some s ≡ verdict (all tests) s
  right h f l =
      say_sound (all tests) s (tests_all tests (le→leb 1 m h, (every_of n p (λ k q. subst T (sym (f k q)) tt), (le→leb s total l, tt))))

-- a walk over the places has passed k of them, and s is the sum of their counts
pub record Passed (os : List ℕ) (f : Full) (total k s : ℕ) : Type 0 where
  pub places : (i : ℕ) → i < k → sound_place os f i ≡ true
  pub adds : s ≡ sum (take k (bucket_counts os f))
  pub most : s ≤ total

module _ (os : List ℕ) (f : Full) (total : ℕ) where
  abbrev all_said : Option ℕ
  all_said = verdict (all (full_tests os f total)) (sum (bucket_counts os f))

  abbrev place-said : ℕ → Option ℕ
  place-said k = verdict (sound_place os f k) (get_or (bucket_counts os f) k 0)

  pub no_flag : rank f.moved 64 ≡ 0 → None ≡ all_said
  no_flag e = none 64 (rank f.moved 64) (sound_place os f) (sum (bucket_counts os f)) total e

  pub bad_place : (k : ℕ) → k < 64 → place-said k ≡ None → None ≡ all_said
  bad_place k h e = wrong 64 (rank f.moved 64) (sound_place os f) (sum (bucket_counts os f)) total k h (said-not (sound_place os f k) (get_or (bucket_counts os f) k 0) e)

  module _ (k s c : ℕ) (q : Passed os f total k s) (e : place-said k ≡ Some c) where
    next-sum : sum (take (k + 1) (bucket_counts os f)) ≡ s + c
    next-sum = sum-next (bucket_counts os f) k ∙ ap₂ ◌+◌ (sym q.adds) (said-sound (sound_place os f k) (get_or (bucket_counts os f) k 0) e).1

    pub too_many : total - s < c → None ≡ all_said
    too_many h =
        excess 64 (rank f.moved 64) (sound_place os f) (sum (bucket_counts os f)) total
        (omega (arith, next-sum, sum-take (bucket_counts os f) (k + 1), q.most))

    pub one_more : c ≤ total - s → Passed os f total (k + 1) (s + c)
    one_more h = record {
      places = below_more (λ i. sound_place os f i ≡ true) k q.places (said-sound (sound_place os f k) (get_or (bucket_counts os f) k 0) e).0;
      adds = sym next-sum;
      most = omega (arith, q.most);
    }

-- the machine's count of the flags
pub flags : (ws : List ℕ) (at : ℕ) → get_or ws at 0 < 2 ^ 64 → ones (get_or ws at 0) ≡ rank (full_at ws at).moved 64
flags ws at h = sym (rank-all (get_or ws at 0) 64 h) ∙ ap (λ x. rank x 64) (sym (full-moved ws at))
