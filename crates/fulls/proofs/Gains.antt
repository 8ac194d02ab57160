-- What the moved counts add to the own ones, place by place, and the judgement of all of them.
use mathlib.Core.Path.{◌≡◌, refl, sym, ap, ap₂, ◌∙◌, subst}
use mathlib.Core.Bool.{Bool, true, false}
use mathlib.Core.List.{List, [], ◌∷◌}
use Prim.Native.Nat.{ℕ, zero, suc, ◌+◌, ◌-◌, ◌≤◌, ◌<◌, zero-le, suc-le-suc}
use native.Mathlib.Nat.{le_refl, le_of_eq, le-suc, lt_of_lt_of_le, zero-lt-suc}
use native.Mathlib.Decide.{le_ind}
use native.Mathlib.Numerals.{add-one}
use native.Mathlib.Omega.{arith}
use lib.Dec.{T, ltb, eqb, leb→le, le→leb, ltb→lt}
use lib.ListN.{length, get_or, take}
use lib.Seq.{take_all}
use borrow.Author.Count.{below_none, below_more}
use Rattle.std.specs.Prelude.{Option, Some, None}
use Rattle.model.specs.Lists.{sum, all, by_mark}
use Rattle.model.specs.Packed.{bit, rank}
use Rattle.model.specs.Walls.{Full}
use Rattle.model.specs.Sound.{moved_at, full_count, bucket_counts, sound_place}
use Rattle.model.proofs.Crowding.{T_true}
use Rattle.model.proofs.Tests.{every-at, every_of}
use Rattle.model.proofs.Tools.{all_tests, tests_all}
use Rattle.model.proofs.Buckets.{count_at, length-counts}
use Rattle.uppers.specs.Judge.{verdict}
use Rattle.moves.specs.Full.{full_at}
use Rattle.uppers.proofs.Verdicts.{said-sound, said-not, say_sound, say_not}
use Rattle.fulls.proofs.Places.{moved-count, moved-sound, moved-unsound, bad_place, mark_none, sum-next}
use Rattle.fulls.specs.Fulls.{full_tests, gained, zero_places}
use Rattle.fulls.proofs.Zeros.{too_few, all_sound}

-- ---- one place

-- a verdict keeps its side when its number changes
other-number : (b : Bool) (n m x : ℕ) → Some x ≡ verdict b n → Some m ≡ verdict b m
other-number true n m x e = refl
other-number false n m x e = let z : ◌≡◌ {A = ℕ} 0 1 = cc in absurd (omega arith)

other-not : (b : Bool) (n m : ℕ) → None ≡ verdict b n → None ≡ verdict b m
other-not false n m e = refl
other-not true n m e = let z : ◌≡◌ {A = ℕ} 0 1 = cc in absurd (omega arith)

module _ (os ws : List ℕ) (at a : ℕ) (l : a < 64) where
  abbrev f : Full
  f = full_at ws at

  abbrev count : ℕ
  count = get_or ws (at + 1 + a) 0

  abbrev said : Option ℕ
  said = verdict (sound_place os f a) (gained os f a)

  pub moved_gains : (bit (get_or ws at 0) a ≡ 0 → ⊥) → (own : ℕ) → own ≡ get_or os a 0 → own < count → Some (count - own) ≡ said
  moved_gains z own q h =
      let d : gained os f a ≡ count - own = ap₂ ◌-◌ (moved-count os ws at a l z) (sym q) in
      ap Some (sym d) ∙ other-number (sound_place os f a) (get_or (bucket_counts os f) a 0) (gained os f a) count (moved-sound os ws at a l z (subst (λ k. k < count) q h))

  pub moved-low : (bit (get_or ws at 0) a ≡ 0 → ⊥) → (own : ℕ) → own ≡ get_or os a 0 → count ≤ own → None ≡ said
  moved-low z own q h = other-not (sound_place os f a) (get_or (bucket_counts os f) a 0) (gained os f a) (moved-unsound os ws at a l z (subst (λ k. count ≤ k) q h))

-- ---- sums of two lists, one at least the other

rest_more : (xs ys : List ℕ) (k : ℕ) → length xs ≡ length ys → ((i : ℕ) → i < length xs → get_or xs i 0 ≤ get_or ys i 0) → sum xs + sum (take k ys) ≤ sum ys + sum (take k xs)
rest_more [] [] zero e h = zero-le
rest_more [] [] (suc k) e h = zero-le
rest_more [] (y ∷ ys) k e h = absurd (omega arith)
rest_more (x ∷ xs) [] k e h = absurd (omega arith)
rest_more (x ∷ xs) (y ∷ ys) zero e h =
    let a : x ≤ y = h 0 (zero-lt-suc (length xs)) in
    omega (arith, rest_more xs ys 0 (omega arith) (λ i l. h (suc i) (suc-le-suc l)))
rest_more (x ∷ xs) (y ∷ ys) (suc k) e h = omega (arith, rest_more xs ys k (omega arith) (λ i l. h (suc i) (suc-le-suc l)))

-- ---- all places

taken_off : (s o c c' t d : ℕ) → s + (o + c) ≡ t + c' → c' ≡ o → c ≡ d → s + d ≡ t
taken_off s o c c' t d e p q = omega arith

left_over : (s d t : ℕ) → s + d ≡ t → (s ≤ t) × (d ≤ t) × (t - s ≡ d)
left_over s d t e = (omega arith, omega arith, omega arith)

-- a walk over the places has passed k of them: s is what the total leaves besides the own counts and what those places add. Unmoved ones are not looked at
pub record Walked (os : List ℕ) (f : Full) (total k s : ℕ) : Type 0 where
  pub places : (i : ℕ) → i < k → (moved_at f i ≡ 0 → ⊥) → sound_place os f i ≡ true
  pub adds : s + (sum os + sum (take k (bucket_counts os f))) ≡ total + sum (take k os)

module _ (os : List ℕ) (f : Full) (total : ℕ) (long : length os ≡ 64) where
  abbrev cs : List ℕ
  cs = bucket_counts os f

  abbrev all_said : Option ℕ
  all_said = verdict (all (full_tests os f total)) (sum cs)

  -- a sound place has at least its own count
  at_least : (a : ℕ) → a < 64 → T (sound_place os f a) → get_or os a 0 ≤ get_or cs a 0
  at_least a l t = subst (λ n. get_or os a 0 ≤ n) (sym (count_at os f a l)) (go (moved_at f a) t)
    where
      go : (m : ℕ) → T (by_mark m (eqb (full_count f a) 0) (ltb (get_or os a 0) (full_count f a))) → get_or os a 0 ≤ by_mark m (get_or os a 0) (full_count f a)
      go zero t = le_of_eq refl
      go (suc m) t = omega (arith, ltb→lt (get_or os a 0) (full_count f a) t)

  -- and so the sum is at least what the places up to k make it
  sum_least : T (all (full_tests os f total)) → (k : ℕ) → sum os + sum (take k cs) ≤ sum cs + sum (take k os)
  sum_least t k =
      rest_more os cs k (long ∙ sym (length-counts os f))
      (λ i l. let h : i < 64 = subst (λ n. i < n) long l in at_least i h (every-at 64 (sound_place os f) (all_tests (full_tests os f total) t).1.0 i h))

  over : (k : ℕ) → total + sum (take k os) < sum os + sum (take k cs) → None ≡ all_said
  over k h =
      say_not (all (full_tests os f total)) (sum cs)
      (λ t. omega (arith, sum_least t k, leb→le (sum cs) total (all_tests (full_tests os f total) t).1.1.0))

  pub own_over : (own : ℕ) → own ≡ sum os → total < own → None ≡ all_said
  own_over own e h = over 0 (omega arith)

  pub none_walked : (own : ℕ) → own ≡ sum os → own ≤ total → Walked os f total 0 (total - own)
  none_walked own e h = record { places = below_none (λ i. (moved_at f i ≡ 0 → ⊥) → sound_place os f i ≡ true); adds = omega arith }

  pub bad_gain : (k : ℕ) → k < 64 → verdict (sound_place os f k) (gained os f k) ≡ None → None ≡ all_said
  bad_gain k h e = bad_place os f total k h (ap (λ b. verdict b (get_or cs k 0)) (said-not (sound_place os f k) (gained os f k) e))

  module _ (k s c : ℕ) (h : k < 64) (q : Walked os f total k s) (e : verdict (sound_place os f k) (gained os f k) ≡ Some c) where
    told : (sound_place os f k ≡ true) × (gained os f k ≡ c)
    told = said-sound (sound_place os f k) (gained os f k) e

    more : get_or cs k 0 ≡ get_or os k 0 + c
    more =
        let a : get_or os k 0 ≤ get_or cs k 0 = at_least k h (subst T (sym told.0) tt) in
        omega (arith, told.1)

    pub gains_over : s < c → None ≡ all_said
    gains_over l = over (k + 1) (omega (arith, q.adds, more, sum-next os k, sum-next cs k))

    pub one_walked : c ≤ s → Walked os f total (k + 1) (s - c)
    one_walked l = record {
      places = below_more (λ i. (moved_at f i ≡ 0 → ⊥) → sound_place os f i ≡ true) k q.places (λ z. told.0);
      adds = omega (arith, q.adds, more, sum-next os k, sum-next cs k);
    }

  -- unmoved places add nothing
  one_unmoved : (k s : ℕ) → k < 64 → moved_at f k ≡ 0 → Walked os f total k s → Walked os f total (suc k) s
  one_unmoved k s h z q =
      subst (λ n. Walked os f total n s) (add-one k)
      (record {
        places = below_more (λ i. (moved_at f i ≡ 0 → ⊥) → sound_place os f i ≡ true) k q.places (λ y. absurd (y z));
        adds = omega (arith, q.adds, sum-next os k, sum-next cs k, count_at os f k h ∙ mark_none (moved_at f k) (get_or os k 0) (full_count f k) z);
      })

  pub unmoved_walked : (k j s : ℕ) → k ≤ j → j ≤ 64 → ((i : ℕ) → k ≤ i → i < j → moved_at f i ≡ 0) → Walked os f total k s → Walked os f total j s
  unmoved_walked k j s h l z q =
      le_ind (λ n. n ≤ 64 → ((i : ℕ) → k ≤ i → i < n → moved_at f i ≡ 0) → Walked os f total n s) (λ l z. q)
      (λ n h w l z. one_unmoved n s l (z n h (le_refl (suc n))) (w (omega arith) (λ i h m. z i h (lt_of_lt_of_le m (le-suc n)))))
      j h l z

  pub few_zeros : zero_places f 64 + rank f.moved 64 < 64 → None ≡ all_said
  few_zeros l =
      say_not (all (full_tests os f total)) (sum cs)
      (λ t. too_few os f 64 l (λ i h. sym (T_true (sound_place os f i) (every-at 64 (sound_place os f) (all_tests (full_tests os f total) t).1.0 i h))))

  pub all_walked : (s : ℕ) → 1 ≤ rank f.moved 64 → 64 ≤ zero_places f 64 + rank f.moved 64 → Walked os f total 64 s → (s ≤ total) × (Some (total - s) ≡ all_said)
  all_walked s h l q =
      let x : sum (take 64 os) ≡ sum os = ap sum (take_all 64 os (le_of_eq long)) in
      let y : sum (take 64 cs) ≡ sum cs = ap sum (take_all 64 cs (le_of_eq (length-counts os f))) in
      let e : s + sum cs ≡ total = taken_off s (sum os) (sum (take 64 cs)) (sum (take 64 os)) total (sum cs) q.adds x y in
      let o = left_over s (sum cs) total e in (
        o.0,
        ap Some o.2
            ∙ say_sound (all (full_tests os f total)) (sum cs)
            (tests_all (full_tests os f total)
            (le→leb 1 (rank f.moved 64) h, (every_of 64 (sound_place os f) (λ k m. subst T (sym (all_sound os f 64 q.places l k m)) tt), (le→leb (sum cs) total o.1, tt)))),
      )
