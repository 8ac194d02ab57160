-- One level of the walk by which a counter of the upper levels comes to a larger value.
use mathlib.Core.Path.{◌≡◌, refl, sym, ap, subst}
use mathlib.Core.Bool.{true, false}
use mathlib.Core.List.{List, [], ◌∷◌}
use Prim.Native.Nat.{ℕ, zero, suc, ◌+◌, ◌-◌, ◌*◌, ◌/◌, ◌%◌, ◌^◌, ◌≤◌, ◌<◌}
use native.Mathlib.Nat.{le_trans, lt_of_lt_of_le, mod-lt, mul-le-mul_left, mul-suc, one-mul}
use native.Mathlib.Numerals.{add-one, sub-one}
use native.Mathlib.Omega.{arith}
use lib.Dec.{T, lit<}
use lib.ListN.{get_or}
use lib.Pow.{pow_mono, pow_pos, split}
use lib.Count.{ones, ones_cat, ones_step}
use Rattle.model.specs.Lists.{by_mark}
use Rattle.model.specs.Packed.{bit, rank, replaced}
use Rattle.model.specs.Levels.{level}
use Rattle.model.proofs.Packing.{rank-ones}
use Rattle.packed.proofs.Words.{replaced_lt}
use Rattle.shapes.specs.declared.Shape.{Shape}
use Rattle.shapes.specs.Shapes.{rows_from, entries_at, width_at}
use Rattle.growth.specs.Levels.{levels_from}
use Rattle.rooms.specs.Growth.{entering, room_to_enter, raising, room_to_raise}
use Rattle.growth.proofs.Growing.{mark_pos}

pub bit_one : (b : ℕ) → b < 2 → (b ≡ 0 → ⊥) → b ≡ 1
bit_one zero h f = absurd (f refl)
bit_one (suc zero) h f = refl
bit_one (suc (suc b)) h f = absurd (omega arith)

pub mark_set : (m a : ℕ) → (bit m a ≡ 0 → ⊥) → bit m a ≡ 1
mark_set m a f = bit_one (bit m a) (mod-lt (m / 2 ^ a) (lit< tt)) f

pub rank_lt : (m a : ℕ) → (bit m a ≡ 0 → ⊥) → rank m a < ones m
rank_lt m a f =
    let b : m / 2 ^ a % 2 ≡ 1 = mark_set m a f in
    omega (arith, rank-ones m a, ones_cat a (m / 2 ^ a) (m % 2 ^ a) (mod-lt m (pow_pos a)), ap ones (split m a), ones_step (m / 2 ^ a))

pub entry-used : (w a n k : ℕ) → w * k ≤ 64 → n ≤ k → a < n → w * a + w ≤ 64
entry-used w a n k p h l = let q : suc a ≤ k = le_trans l h in omega (arith, mul-suc w a, mul-le-mul_left w q)

pub mark_put : (m a n k : ℕ) → m < 2 ^ n → a < n → n ≤ k → replaced 1 m a 1 < 2 ^ k
mark_put m a n k h l p = replaced_lt k 1 m a 1 (lt_of_lt_of_le h (pow_mono {i = n} {j = k} p)) (rw one-mul (omega arith)) (lit< tt)

module _ (s : Shape) (us : List ℕ) (g j a v : ℕ) where
  -- the level's own word changes, and no more
  pub raise_stop : (left : ℕ) → 1 < left → v / 2 ^ width_at s j ≡ 0
      → raising (rows_from left s j) (levels_from left s us g j) a v
      ≡ level (replaced (width_at s j) (get_or us j 0) a (v % 2 ^ width_at s j)) (g % 2 ^ entries_at s j) ∷ levels_from (left - 1) s us (g / 2 ^ entries_at s j) (j + 1)
  unfolding rows_from levels_from raising
  raise_stop zero h z = absurd (omega arith)
  raise_stop (suc zero) h z = absurd (omega arith)
  raise_stop (suc (suc n)) h z = rw (z, sub-one, add-one)

  pub raise-last : (left : ℕ) → left ≡ 1 → v / 2 ^ width_at s j ≡ 0
      → raising (rows_from left s j) (levels_from left s us g j) a v ≡ level (replaced (width_at s j) (get_or us j 0) a (v % 2 ^ width_at s j)) 0 ∷ []
  unfolding rows_from levels_from raising
  raise-last left e z = rw (e, z)

  pub room_in : (left : ℕ) → 1 < left → 0 < v / 2 ^ width_at s j → bit (g % 2 ^ entries_at s j) a ≡ 0 → room_to_enter (rows_from (left - 1) s (j + 1)) (ones (g % 2 ^ entries_at s j)) (levels_from (left - 1) s us (g / 2 ^ entries_at s j) (j + 1)) (v / 2 ^ width_at s j) ≡ room_to_raise (rows_from left s j) (levels_from left s us g j) a v
  unfolding rows_from levels_from room_to_raise
  room_in zero h z e = absurd (omega arith)
  room_in (suc zero) h z e = absurd (omega arith)
  room_in (suc (suc l)) h z e = rw (sub-one, add-one j, e) (sym (mark_pos (v / 2 ^ width_at s j) true (room_to_enter (rows_from (suc l) s (suc j)) (ones (g % 2 ^ entries_at s j)) (levels_from (suc l) s us (g / 2 ^ entries_at s j) (suc j)) (v / 2 ^ width_at s j)) z))

  pub room_rise : (left : ℕ) → 1 < left → 0 < v / 2 ^ width_at s j → (bit (g % 2 ^ entries_at s j) a ≡ 0 → ⊥) → room_to_raise (rows_from (left - 1) s (j + 1)) (levels_from (left - 1) s us (g / 2 ^ entries_at s j) (j + 1)) (rank (g % 2 ^ entries_at s j) a) (v / 2 ^ width_at s j) ≡ room_to_raise (rows_from left s j) (levels_from left s us g j) a v
  unfolding rows_from levels_from room_to_raise
  room_rise zero h z f = absurd (omega arith)
  room_rise (suc zero) h z f = absurd (omega arith)
  room_rise (suc (suc l)) h z f =
      rw (sub-one, add-one j, mark_set (g % 2 ^ entries_at s j) a f) (sym (mark_pos (v / 2 ^ width_at s j) true (room_to_raise (rows_from (suc l) s (suc j)) (levels_from (suc l) s us (g / 2 ^ entries_at s j) (suc j)) (rank (g % 2 ^ entries_at s j) a) (v / 2 ^ width_at s j)) z))

  pub raise_in : (left : ℕ) → 1 < left → 0 < v / 2 ^ width_at s j → bit (g % 2 ^ entries_at s j) a ≡ 0 → raising (rows_from left s j) (levels_from left s us g j) a v ≡ level (replaced (width_at s j) (get_or us j 0) a (v % 2 ^ width_at s j)) (replaced 1 (g % 2 ^ entries_at s j) a 1) ∷ entering (rows_from (left - 1) s (j + 1)) (levels_from (left - 1) s us (g / 2 ^ entries_at s j) (j + 1)) (rank (g % 2 ^ entries_at s j) a) (v / 2 ^ width_at s j)
  unfolding rows_from levels_from raising
  raise_in zero h z e = absurd (omega arith)
  raise_in (suc zero) h z e = absurd (omega arith)
  raise_in (suc (suc l)) h z e =
      rw (sub-one, add-one j, e) (mark_pos (v / 2 ^ width_at s j) (level (replaced (width_at s j) (get_or us j 0) a (v % 2 ^ width_at s j)) (g % 2 ^ entries_at s j) ∷ (levels_from (suc l) s us (g / 2 ^ entries_at s j) (suc j))) (level (replaced (width_at s j) (get_or us j 0) a (v % 2 ^ width_at s j)) (replaced 1 (g % 2 ^ entries_at s j) a 1) ∷ entering (rows_from (suc l) s (suc j)) (levels_from (suc l) s us (g / 2 ^ entries_at s j) (suc j)) (rank (g % 2 ^ entries_at s j) a) (v / 2 ^ width_at s j)) z)

  pub raise_rise : (left : ℕ) → 1 < left → 0 < v / 2 ^ width_at s j → (bit (g % 2 ^ entries_at s j) a ≡ 0 → ⊥) → raising (rows_from left s j) (levels_from left s us g j) a v ≡ level (replaced (width_at s j) (get_or us j 0) a (v % 2 ^ width_at s j)) (g % 2 ^ entries_at s j) ∷ raising (rows_from (left - 1) s (j + 1)) (levels_from (left - 1) s us (g / 2 ^ entries_at s j) (j + 1)) (rank (g % 2 ^ entries_at s j) a) (v / 2 ^ width_at s j)
  unfolding rows_from levels_from raising
  raise_rise zero h z f = absurd (omega arith)
  raise_rise (suc zero) h z f = absurd (omega arith)
  raise_rise (suc (suc l)) h z f =
      rw (sub-one, add-one j, mark_set (g % 2 ^ entries_at s j) a f) (mark_pos (v / 2 ^ width_at s j) (level (replaced (width_at s j) (get_or us j 0) a (v % 2 ^ width_at s j)) (g % 2 ^ entries_at s j) ∷ (levels_from (suc l) s us (g / 2 ^ entries_at s j) (suc j))) (level (replaced (width_at s j) (get_or us j 0) a (v % 2 ^ width_at s j)) (g % 2 ^ entries_at s j) ∷ raising (rows_from (suc l) s (suc j)) (levels_from (suc l) s us (g / 2 ^ entries_at s j) (suc j)) (rank (g % 2 ^ entries_at s j) a) (v / 2 ^ width_at s j)) z)

  -- room at the last level: nothing is left above it
  pub rise_end : (left : ℕ) → left ≡ 1 → T (room_to_raise (rows_from left s j) (levels_from left s us g j) a v) → v / 2 ^ width_at s j ≡ 0
  unfolding rows_from levels_from room_to_raise room_to_enter
  rise_end left e t = go (v / 2 ^ width_at s j) (bit 0 a) (subst (λ n. T (room_to_raise (rows_from n s j) (levels_from n s us g j) a v)) e t)
    where
      go : (q m : ℕ) → T (by_mark q true (by_mark m false false)) → q ≡ 0
      go zero m t = refl
      go (suc q) zero t = absurd t
      go (suc q) (suc m) t = absurd t
