-- One level of the walk by which a counter comes into the upper levels.
use mathlib.Core.Path.{◌≡◌, refl, sym, ap, subst}
use mathlib.Core.Bool.{Bool, true, false, ◌&&◌}
use mathlib.Core.List.{List, [], ◌∷◌}
use Prim.Native.Nat.{ℕ, zero, suc, ◌+◌, ◌-◌, ◌*◌, ◌/◌, ◌%◌, ◌^◌, ◌≤◌, ◌<◌}
use native.Mathlib.Nat.{lt_of_lt_of_le, mod-lt, zero-div, zero-mod, zero-mul, zero-add, mul-le-mul_left, mul-suc, one-mul, not-suc-le-zero}
use native.Mathlib.Numerals.{add-one, sub-one}
use native.Mathlib.Omega.{arith}
use lib.Dec.{T, ltb, lt→ltb, ltb→lt}
use lib.Arith.{digits_lt, le→nltb}
use lib.ListN.{get_or, set}
use lib.Seq.{get_or-set_other}
use lib.Pow.{pow-add, pow_mono, pow_pos, split}
use lib.Count.{ones, ones_cat}
use Rattle.model.specs.Lists.{by_mark}
use Rattle.model.specs.Packed.{put_in, rank}
use Rattle.model.specs.Levels.{level, sound_levels}
use Rattle.model.proofs.Packing.{rank-ones}
use Rattle.model.proofs.Ranks.{sign_one}
use Rattle.model.proofs.Coding.{Sound}
use Rattle.model.proofs.Crowding.{T_true, T_false}
use Rattle.model.proofs.Tools.{and_tests}
use Rattle.model.proofs.Buckets.{levels_sound, sound-levels}
use Rattle.packed.proofs.Words.{put_in_lt}
use Rattle.shapes.specs.declared.Shape.{Shape}
use Rattle.shapes.specs.Shapes.{rows_from, entries_at, width_at}
use Rattle.uppers.specs.Uppers.{marks_of}
use Rattle.growth.specs.Levels.{levels_from}
use Rattle.rooms.specs.Growth.{entering, room_to_enter}

-- ---- sound levels, one by one

pub record Used (s : Shape) (us : List ℕ) (j n : ℕ) : Type 0 where
  pub most : n ≤ entries_at s j
  pub cells : get_or us j 0 < 2 ^ (width_at s j * n)

module _ (s : Shape) (us : List ℕ) (g j n : ℕ) where
  sound-used : (left : ℕ) → 0 < left → Sound 1 (rows_from left s j) n (levels_from left s us g j) → Used s us j n
  unfolding rows_from levels_from
  sound-used zero h p = absurd (not-suc-le-zero h)
  sound-used (suc l) h p = record { most = p.0; cells = p.1 }

  sound_on : (left : ℕ) → 1 < left → Sound 1 (rows_from left s j) n (levels_from left s us g j)
      → (g % 2 ^ entries_at s j < 2 ^ n) × Sound 1 (rows_from (left - 1) s (j + 1)) (ones (g % 2 ^ entries_at s j)) (levels_from (left - 1) s us (g / 2 ^ entries_at s j) (j + 1))
  unfolding rows_from levels_from
  sound_on zero h p = absurd (omega arith)
  sound_on (suc zero) h p = absurd (omega arith)
  sound_on (suc (suc l)) h p = (p.2, rw (sub-one, add-one) p.4)

  module _ (left : ℕ) (t : T (sound_levels 1 (rows_from left s j) n (levels_from left s us g j))) where
    pub used : 0 < left → Used s us j n
    used h = sound-used left h (levels_sound 1 (rows_from left s j) n (levels_from left s us g j) t)

    pub marks-used : 1 < left → g % 2 ^ entries_at s j < 2 ^ n
    marks-used h = (sound_on left h (levels_sound 1 (rows_from left s j) n (levels_from left s us g j) t)).0

    pub sound-next : 1 < left → T (sound_levels 1 (rows_from (left - 1) s (j + 1)) (ones (g % 2 ^ entries_at s j)) (levels_from (left - 1) s us (g / 2 ^ entries_at s j) (j + 1)))
    sound-next h =
        sound-levels 1 (rows_from (left - 1) s (j + 1)) (ones (g % 2 ^ entries_at s j)) (levels_from (left - 1) s us (g / 2 ^ entries_at s j) (j + 1))
        (sound_on left h (levels_sound 1 (rows_from left s j) n (levels_from left s us g j) t)).1

-- ---- a value of the bits from this level on

-- ---- the words of a level put together

pub past : (s : Shape) (us : List ℕ) (j x left g i : ℕ) → j < i → levels_from left s (set us j x) g i ≡ levels_from left s us g i
unfolding levels_from
past s us j x zero g i h = refl
past s us j x (suc l) g i h =
    rw (get_or-set_other us j i x 0 (λ e. omega arith), past s us j x l (g / 2 ^ entries_at s i) (suc i) (omega arith))

-- ---- a counter comes in

no_ltb : (n k : ℕ) → k ≤ n → ltb n k ≡ false
no_ltb n k h = sym (T_false (ltb n k) (le→nltb n k h))

yes_ltb : (n k : ℕ) → n < k → ltb n k ≡ true
yes_ltb n k h = sym (T_true (ltb n k) (lt→ltb n k h))

pub mark_pos : {A : Type 0} (q : ℕ) (x y : A) → 0 < q → by_mark q x y ≡ y
mark_pos zero x y h = absurd (not-suc-le-zero h)
mark_pos (suc q) x y h = refl

module _ (s : Shape) (us : List ℕ) (g j n a v : ℕ) where
  pub no_room : (left : ℕ) → 0 < left → entries_at s j ≤ n → false ≡ room_to_enter (rows_from left s j) n (levels_from left s us g j) v
  unfolding rows_from levels_from room_to_enter
  no_room zero h k = absurd (not-suc-le-zero h)
  no_room (suc l) h k = rw (no_ltb n (entries_at s j) k)

  pub room_on : (left : ℕ) → 1 < left → n < entries_at s j → 0 < v / 2 ^ width_at s j
      → room_to_enter (rows_from (left - 1) s (j + 1)) (ones (g % 2 ^ entries_at s j)) (levels_from (left - 1) s us (g / 2 ^ entries_at s j) (j + 1)) (v / 2 ^ width_at s j)
      ≡ room_to_enter (rows_from left s j) n (levels_from left s us g j) v
  unfolding rows_from levels_from room_to_enter
  room_on zero h k e = absurd (omega arith)
  room_on (suc zero) h k e = absurd (omega arith)
  room_on (suc (suc l)) h k e =
      rw (yes_ltb n (entries_at s j) k, mark_pos (v / 2 ^ width_at s j) true (room_to_enter (rows_from (suc l) s (suc j)) (ones (g % 2 ^ entries_at s j)) (levels_from (suc l) s us (g / 2 ^ entries_at s j) (suc j)) (v / 2 ^ width_at s j)) e, sub-one, add-one)

  pub enter_last : (left : ℕ) → left ≡ 1 → v / 2 ^ width_at s j ≡ 0 → entering (rows_from left s j) (levels_from left s us g j) a v ≡ level (put_in (width_at s j) (get_or us j 0) a (v % 2 ^ width_at s j)) 0 ∷ []
  unfolding rows_from levels_from entering
  enter_last left e z = rw (e, z) (ap (λ m. level (put_in (width_at s j) (get_or us j 0) a (v % 2 ^ width_at s j)) m ∷ []) (none a))
    where
      none : (a : ℕ) → put_in 1 0 a 0 ≡ 0
      none a = simp (one-mul, zero-div, zero-mul, zero-add, zero-mod)

  pub enter_stop : (left : ℕ) → 1 < left → v / 2 ^ width_at s j ≡ 0
      → entering (rows_from left s j) (levels_from left s us g j) a v
      ≡ level (put_in (width_at s j) (get_or us j 0) a (v % 2 ^ width_at s j)) (put_in 1 (g % 2 ^ entries_at s j) a 0) ∷ levels_from (left - 1) s us (g / 2 ^ entries_at s j) (j + 1)
  unfolding rows_from levels_from entering
  enter_stop zero h z = absurd (omega arith)
  enter_stop (suc zero) h z = absurd (omega arith)
  enter_stop (suc (suc l)) h z = rw (z, sub-one, add-one)

  pub enter_on : (left : ℕ) → 1 < left → 0 < v / 2 ^ width_at s j
      → entering (rows_from left s j) (levels_from left s us g j) a v
      ≡ level (put_in (width_at s j) (get_or us j 0) a (v % 2 ^ width_at s j)) (put_in 1 (g % 2 ^ entries_at s j) a 1)
      ∷ entering (rows_from (left - 1) s (j + 1)) (levels_from (left - 1) s us (g / 2 ^ entries_at s j) (j + 1)) (rank (g % 2 ^ entries_at s j) a) (v / 2 ^ width_at s j)
  unfolding rows_from levels_from entering
  enter_on zero h z = absurd (omega arith)
  enter_on (suc zero) h z = absurd (omega arith)
  enter_on (suc (suc l)) h z =
      rw (sign_one (v / 2 ^ width_at s j) z, sub-one, add-one j)
      (ap (λ r. level (put_in (width_at s j) (get_or us j 0) a (v % 2 ^ width_at s j)) (put_in 1 (g % 2 ^ entries_at s j) a 1) ∷ r)
      (mark_pos (v / 2 ^ width_at s j) (levels_from (suc l) s us (g / 2 ^ entries_at s j) (suc j)) (entering (rows_from (suc l) s (suc j)) (levels_from (suc l) s us (g / 2 ^ entries_at s j) (suc j)) (rank (g % 2 ^ entries_at s j) a) (v / 2 ^ width_at s j)) z))

-- ---- what the code asks on the way

pub joined_lt : (g k m : ℕ) → k ≤ 40 → m < 2 ^ k → g < 2 ^ (64 - k) → g * 2 ^ k + m < 2 ^ 64
joined_lt g k m h f l =
    let e : 64 - k + k ≡ 64 = omega arith in
    subst (λ (b : ℕ). g * 2 ^ k + m < 2 ^ b) e (rw pow-add (digits_lt l f))

-- an entry that comes in while n of k are used
pub entry_free : (w a n k : ℕ) → w * k ≤ 64 → n < k → a ≤ n → (w * a + w ≤ 64) × (w * n + w ≤ 64)
entry_free w a n k p h l =
    let q : suc n ≤ k = h in
    let r : w * n + w ≤ 64 = omega (arith, mul-suc w n, mul-le-mul_left w q) in
    (omega (arith, mul-le-mul_left w l), r)

pub cells_free : (w n x : ℕ) → x < 2 ^ (w * n) → w * n + w ≤ 64 → x < 2 ^ (64 - w)
cells_free w n x h p = lt_of_lt_of_le h (pow_mono {i = w * n} {j = 64 - w} (omega arith))

pub marks_lt : (m a b n k : ℕ) → m < 2 ^ n → a ≤ n → b < 2 → n < k → put_in 1 m a b < 2 ^ k
marks_lt m a b n k h l f p =
    let i : m < 2 ^ (k - 1) = lt_of_lt_of_le h (pow_mono {i = n} {j = k - 1} (omega arith)) in
    put_in_lt k 1 m a b i (rw one-mul (omega arith)) f

module _ (s : Shape) (us : List ℕ) (g j n v : ℕ) where
  -- room in a level: an entry is free, and where the value goes on there is room in those after it
  pub enter_free : (left : ℕ) → 0 < left → T (room_to_enter (rows_from left s j) n (levels_from left s us g j) v) → n < entries_at s j
  unfolding rows_from levels_from room_to_enter
  enter_free zero h t = absurd (not-suc-le-zero h)
  enter_free (suc l) h t =
      ltb→lt n (entries_at s j) (and_tests (ltb n (entries_at s j)) (by_mark (v / 2 ^ width_at s j) true (room_to_enter (rows_from l s (suc j)) (ones (marks_of l (entries_at s j) g)) (levels_from l s us (g / 2 ^ entries_at s j) (suc j)) (v / 2 ^ width_at s j))) t).0

  pub enter_end : (left : ℕ) → left ≡ 1 → T (room_to_enter (rows_from left s j) n (levels_from left s us g j) v) → v / 2 ^ width_at s j ≡ 0
  unfolding rows_from levels_from room_to_enter
  enter_end left e t =
      go (v / 2 ^ width_at s j) (ltb n (entries_at s j)) (subst (λ k. T (room_to_enter (rows_from k s j) n (levels_from k s us g j) v)) e t)
    where
      go : (q : ℕ) (b : Bool) → T (b && by_mark q true false) → q ≡ 0
      go zero b t = refl
      go (suc q) b t = absurd (and_tests b false t).1

pub rank-count : (m a : ℕ) → rank m a ≤ ones m
rank-count m a = omega (arith, rank-ones m a, ones_cat a (m / 2 ^ a) (m % 2 ^ a) (mod-lt m (pow_pos a)), ap ones (split m a))
