-- Where the places that hold 0 and those that are moved are as many as all, and no moved one holds 0, every other holds 0.
use mathlib.Core.Path.{◌≡◌, refl, sym, ap, ap₂, ◌∙◌, subst}
use mathlib.Core.Bool.{Bool, true, false}
use mathlib.Core.Logic.{⊎_elim}
use mathlib.Core.List.{List}
use Prim.Native.Nat.{ℕ, zero, suc, ◌+◌, ◌/◌, ◌%◌, ◌^◌, ◌≤◌, ◌<◌}
use native.Mathlib.Nat.{le_refl, le_of_eq, le-suc, le_of_suc-le-suc, eq-or-lt_of_le, eq-zero-or-pos, lt_of_lt_of_le, div-one, mod-lt, zero-lt-suc, div-div-eq-div-mul, pow-succ'}
use native.Mathlib.Numerals.{add-one}
use native.Mathlib.Omega.{arith}
use lib.Dec.{ltb, eqb}
use lib.ListN.{length, get_or, take, drop, length-drop}
use lib.Seq.{get_or-drop, length-take-le}
use borrow.Author.Tests.{ltb-true, ne_eqb}
use Rattle.std.specs.Prelude.{◌==◌, count_by}
use Rattle.std.proofs.lemmas.List.Sums.{count_by_more_yes, count_by_more_no, count_by-le-length}
use Rattle.model.specs.Lists.{by_mark, one_if}
use Rattle.model.specs.Packed.{bit, rank}
use Rattle.model.specs.Walls.{Full}
use Rattle.model.specs.Sound.{moved_at, full_count, sound_place}
use Rattle.moves.specs.Full.{full_at}
use Rattle.moves.proofs.Fulls.{full-count}
use Rattle.fulls.specs.Fulls.{zero_places}

rank-next : (k x : ℕ) → rank x (suc k) ≡ rank x k + bit x k
rank-next zero x = rw div-one (omega arith)
rank-next (suc k) x =
    let b : bit (x / 2) k ≡ bit x (suc k) = ap (λ y. y % 2) (div-div-eq-div-mul x 2 (2 ^ k) ∙ ap (λ y. x / y) (sym (pow-succ' 2 k))) in
    omega (arith, rank-next k (x / 2))

module _ (f : Full) where
  abbrev both : ℕ → ℕ
  both k = zero_places f k + rank f.moved k

  abbrev one : ℕ → ℕ
  one a = one_if (eqb (full_count f a) 0) + moved_at f a

  next : (k : ℕ) → both (suc k) ≡ both k + one k
  unfolding zero_places
  next k = omega (arith, rank-next k f.moved)

  none : both 0 ≡ 0
  unfolding zero_places
  none = refl

  all_one : (k : ℕ) → ((i : ℕ) → i < k → one i ≡ 1) → both k ≡ k
  all_one zero h = none
  all_one (suc k) h = omega (arith, next k, h k (le_refl (suc k)), all_one k (λ i l. h i (lt_of_lt_of_le l (le-suc k))))

  at_most : (k : ℕ) → ((i : ℕ) → i < k → one i ≤ 1) → both k ≤ k
  at_most zero h = omega (arith, none)
  at_most (suc k) h = omega (arith, next k, h k (le_refl (suc k)), at_most k (λ i l. h i (lt_of_lt_of_le l (le-suc k))))

  each-one : (k : ℕ) → ((i : ℕ) → i < k → one i ≤ 1) → k ≤ both k → (i : ℕ) → i < k → 1 ≤ one i
  each-one zero h e i l = absurd (omega arith)
  each-one (suc k) h e i l =
      let low : (j : ℕ) → j < k → one j ≤ 1 = λ j m. h j (lt_of_lt_of_le m (le-suc k)) in
      ⊎_elim (λ m. subst (λ j. 1 ≤ one j) (sym m) (omega (arith, next k, at_most k low)))
      (λ m. each-one k low (omega (arith, next k, h k (le_refl (suc k)))) i m)
      (eq-or-lt_of_le (le_of_suc-le-suc l))

-- ---- the places of a bucket with the own counts os

one_most : (b : Bool) → one_if b + 0 ≤ 1
one_most true = le_refl 1
one_most false = omega arith

one_true : (b : Bool) → 1 ≤ one_if b + 0 → b ≡ true
one_true true h = refl
one_true false h = absurd (omega arith)

module _ (os : List ℕ) (f : Full) where
  sound_one : (a : ℕ) → sound_place os f a ≡ true → one f a ≡ 1
  sound_one a = go (moved_at f a) (mod-lt (f.moved / 2 ^ a) (zero-lt-suc 1))
    where
      go : (m : ℕ) → m < 2 → by_mark m (eqb (full_count f a) 0) (ltb (get_or os a 0) (full_count f a)) ≡ true → one_if (eqb (full_count f a) 0) + m ≡ 1
      go zero h e = ap (λ b. one_if b + 0) e
      go (suc m) h e =
          ap (λ b. one_if b + suc m) (ne_eqb (full_count f a) 0 (λ z. omega (arith, ltb-true (get_or os a 0) (full_count f a) e))) ∙ omega arith

  at_rest : (a : ℕ) → moved_at f a ≡ 0 → (one f a ≤ 1) × (1 ≤ one f a → sound_place os f a ≡ true)
  at_rest a = go (moved_at f a)
    where
      go : (m : ℕ) → m ≡ 0 → (one_if (eqb (full_count f a) 0) + m ≤ 1)
          × (1 ≤ one_if (eqb (full_count f a) 0) + m → by_mark m (eqb (full_count f a) 0) (ltb (get_or os a 0) (full_count f a)) ≡ true)
      go zero e = (one_most (eqb (full_count f a) 0), one_true (eqb (full_count f a) 0))
      go (suc m) e = absurd (omega arith)

  module _ (n : ℕ) where
    -- a number where none may be
    pub too_few : zero_places f n + rank f.moved n < n → ((i : ℕ) → i < n → sound_place os f i ≡ true) → ⊥
    too_few l h = omega (arith, all_one f n (λ i m. sound_one i (h i m)))

    module _ (moved : (i : ℕ) → i < n → (moved_at f i ≡ 0 → ⊥) → sound_place os f i ≡ true) (l : n ≤ zero_places f n + rank f.moved n) where
      most : (i : ℕ) → i < n → one f i ≤ 1
      most i h =
          ⊎_elim (λ e. (at_rest i e).0)
          (λ p. le_of_eq (sound_one i (moved i h (λ e. omega (arith, e, p)))))
          (eq-zero-or-pos (moved_at f i))

      pub all_sound : (i : ℕ) → i < n → sound_place os f i ≡ true
      all_sound i h =
          ⊎_elim (λ e. (at_rest i e).1 (each-one f n most l i h))
          (λ p. moved i h (λ e. omega (arith, e, p)))
          (eq-zero-or-pos (moved_at f i))

-- ---- the places of a full-size bucket, counted one by one

pub no_zeros : (f : Full) → 0 ≡ zero_places f 0
unfolding zero_places
no_zeros f = refl

module _ (ws : List ℕ) (at a n : ℕ) (h : a < 64) (e : n ≡ zero_places (full_at ws at) a) where
  counted : (b : Bool) → eqb (get_or ws (at + 1 + a) 0) 0 ≡ b → n + one_if b ≡ zero_places (full_at ws at) (a + 1)
  unfolding zero_places
  counted b d = rw (add-one a) (ap₂ ◌+◌ e (ap one_if (sym d ∙ ap (λ x. eqb x 0) (sym (full-count ws at a h)))))

module _ (ws : List ℕ) (at : ℕ) (h : at + 65 ≤ length ws) where
  abbrev rest : List ℕ
  rest = drop (at + 1) ws

  abbrev zeros_of : ℕ → ℕ
  zeros_of k = count_by (λ x. x == 0) (take k rest)

  one_more : (k : ℕ) → k < 64 → zeros_of k ≡ zero_places (full_at ws at) k → (b : Bool) → eqb (get_or ws (at + 1 + k) 0) 0 ≡ b → zeros_of (k + 1) ≡ zero_places (full_at ws at) (k + 1)
  one_more k l before true e =
      count_by_more_yes (λ x. x == 0) rest k 0 (rw length-drop (omega arith)) (rw get_or-drop e) ∙ counted ws at k (zeros_of k) l before true e
  one_more k l before false e =
      count_by_more_no (λ x. x == 0) rest k 0 (rw length-drop (omega arith)) (rw get_or-drop e) ∙ omega (arith, counted ws at k (zeros_of k) l before false e)

  zeros_counted : (k : ℕ) → k ≤ 64 → zeros_of k ≡ zero_places (full_at ws at) k
  zeros_counted zero l = no_zeros (full_at ws at)
  zeros_counted (suc k) l = rw (← add-one k) (one_more k (omega arith) (zeros_counted k (omega arith)) (eqb (get_or ws (at + 1 + k) 0) 0) refl)

  -- the number of zeros in the 64 words, as the code takes them
  pub all_zeros : (r k : ℕ) → r ≡ zeros_of k → k ≡ 64 → (r ≡ zero_places (full_at ws at) 64) × (r ≤ 64)
  all_zeros r k e f =
      let all : r ≡ zeros_of 64 = rw f at e in
      let few : 64 ≤ length rest = rw length-drop (omega (arith, h)) in
      (all ∙ zeros_counted 64 (le_refl 64), omega (arith, all, count_by-le-length (λ x. x == 0) (take 64 rest), length-take-le 64 rest few))
