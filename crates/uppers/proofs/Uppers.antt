-- The upper levels in the words of a wall, judged one by one.
use mathlib.Core.Path.{◌≡◌, refl, sym, ◌∙◌}
use mathlib.Core.Bool.{Bool, true, false, ◌&&◌}
use mathlib.Core.List.{List, [], ◌∷◌}
use Prim.Native.Nat.{ℕ, zero, suc, ◌+◌, ◌-◌, ◌*◌, ◌/◌, ◌%◌, ◌^◌, ◌≤◌, ◌<◌, zero-le}
use native.Mathlib.Nat.{zero-mul, zero-add, zero-div, zero-mod, add-zero, mul-zero, div-one, add-mul, mul_assoc, mul_comm, mul-le-mul_right, not-suc-le-zero, zero-lt-suc}
use native.Mathlib.Numerals.{add-one, sub-one}
use native.Mathlib.Omega.{arith}
use lib.Dec.{T, leb, ltb, eqb, ltb→lt, eqb-suc-zero}
use lib.ListN.{get_or, length, take, drop}
use Rattle.std.specs.List.{list_all}
use lib.Pow.{pow-add, pow_pos, pow_mono, shr-shr, split}
use lib.Seq.{drop-cons}
use lib.Count.{ones}
use borrow.Author.Tests.{le-leb, lt-leb, le-ltb}
use Rattle.std.specs.Prelude.{◌==◌, Option, Some, None}
use Rattle.model.specs.Lists.{sum, every}
use Rattle.model.specs.Packed.{unpack, entry, bit, rank}
use Rattle.model.specs.Levels.{sound_levels}
use Rattle.model.proofs.Packing.{rank-all}
use Rattle.model.proofs.Tools.{and_tests}
use Rattle.uppers.specs.Judge.{verdict, filled, sum_levels}
use Rattle.uppers.proofs.Verdicts.{said-sound, said-not}
use Rattle.uppers.proofs.Judging.{sum_most}
use Rattle.uppers.specs.Uppers.{rows_by, levels_by, marks_by, sound_by, sum_by, judged, Ahead}

-- ---- tests

regroup : (a b c d f : Bool) → (a && (b && (c && (d && true)))) && f ≡ (a && (b && c)) && (d && f)
regroup true true true true f = refl
regroup true true true false f = refl
regroup true true false d f = refl
regroup true false c d f = refl
regroup false b c d f = refl

and-false : (a : Bool) → a && false ≡ false
and-false true = refl
and-false false = refl

and-true : (a : Bool) → a && true ≡ a
and-true true = refl
and-true false = refl

pub some : (c : ℕ) → 0 < c → eqb c 0 ≡ false
some zero h = absurd (not-suc-le-zero h)
some (suc c) h = eqb-suc-zero c

none : (c : ℕ) → ltb c 1 ≡ eqb c 0
none zero = refl
none (suc c) = le-ltb (suc c) 1 (omega arith) ∙ sym (eqb-suc-zero c)

-- ---- words that are zero

pub all_zero_next : (n : ℕ) (ws : List ℕ) (at : ℕ) → at + suc n ≤ length ws
    → list_all (λ x. x == 0) (take (suc n) (drop at ws)) ≡ eqb (get_or ws at 0) 0 && list_all (λ x. x == 0) (take n (drop (suc at) ws))
all_zero_next n ws at h = rw (drop-cons ws at 0 (omega arith))

-- ---- one level

-- the marks of a level with n entries used lie below 2 ^ n, so all of them are counted
used : (w n x m : ℕ) → filled w n x m ≡ true → rank m n ≡ ones m
unfolding filled
used w n x m e =
    let t : T (filled w n x m) = rw e tt in
    let u = and_tests (ltb m (2 ^ n)) (every n (λ a. leb 1 (entry w x a + bit m a))) (and_tests (ltb x (2 ^ (w * n))) (ltb m (2 ^ n) && every n (λ a. leb 1 (entry w x a + bit m a))) t).1 in
    rank-all m n (ltb→lt m (2 ^ n) u.0)

-- a mark above the used entries
filled-high : (w n x m : ℕ) → 2 ^ n ≤ m → filled w n x m ≡ false
unfolding filled
filled-high w n x m h = rw (le-ltb m (2 ^ n) h, and-false)

rank-none : (n : ℕ) → rank 0 n ≡ 0
rank-none zero = refl
rank-none (suc n) = omega (arith, rank-none n)

module _ (ws : List ℕ) (at g e w n : ℕ) where
  -- the last one
  last-sound : n ≤ e % 256 → sound_by 1 ws at g e w n ≡ filled (w % 256) n (get_or ws at 0) 0 && eqb g 0
  unfolding sound_by sound_levels rows_by levels_by marks_by filled
  last-sound h = rw (le-leb n (e % 256) h, rank-none n, div-one, and-true)

  last_sum : sum_by 1 ws at g e w n ≡ sum (unpack (w % 256) n (get_or ws at 0))
  unfolding sum_by sum_levels rows_by levels_by
  last_sum = rw (zero-mul, zero-add)

  -- one before others
  on_sound : (left : ℕ) → 1 < left → n ≤ e % 256
      → sound_by left ws at g e w n
      ≡ filled (w % 256) n (get_or ws at 0) (g % 2 ^ (e % 256)) && sound_by (left - 1) ws (at + 1) (g / 2 ^ (e % 256)) (e / 256) (w / 256) (rank (g % 2 ^ (e % 256)) n)
  unfolding sound_by sound_levels rows_by levels_by marks_by filled
  on_sound zero h k = absurd (omega arith)
  on_sound (suc zero) h k = absurd (omega arith)
  on_sound (suc (suc l)) h k = rw (le-leb n (e % 256) k, sub-one, add-one, ← shr-shr g (e % 256) (marks_by (suc l) (e / 256)), regroup)

  on_sum : (left : ℕ) → 1 < left
      → sum_by left ws at g e w n
      ≡ sum_by (left - 1) ws (at + 1) (g / 2 ^ (e % 256)) (e / 256) (w / 256) (rank (g % 2 ^ (e % 256)) n) * 2 ^ (w % 256) + sum (unpack (w % 256) n (get_or ws at 0))
  unfolding sum_by sum_levels rows_by levels_by
  on_sum zero h = absurd (omega arith)
  on_sum (suc zero) h = absurd (omega arith)
  on_sum (suc (suc l)) h = rw (sub-one, add-one)

  crowd : (left : ℕ) → 0 < left → e % 256 < n → sound_by left ws at g e w n ≡ false
  unfolding sound_by sound_levels rows_by levels_by
  crowd zero h k = absurd (not-suc-le-zero h)
  crowd (suc l) h k = rw (lt-leb n (e % 256) k)

-- ---- verdicts

module _ (ws : List ℕ) (at g e w n t s : ℕ) where
  pub judge_crowd : (left : ℕ) → 0 < left → e % 256 < n → None ≡ judged left ws at g e w n t s
  judge_crowd left h k = rw (crowd ws at g e w n left h k)

  -- the verdict on this level alone, whose marks are m
  abbrev pub alone : ℕ → Option ℕ
  alone m = verdict (filled (w % 256) n (get_or ws at 0) m) (sum (unpack (w % 256) n (get_or ws at 0)))

  pub alone-sum : (m : ℕ) {x : ℕ} → alone m ≡ Some x → x ≡ sum (unpack (w % 256) n (get_or ws at 0))
  alone-sum m f = sym (said-sound (filled (w % 256) n (get_or ws at 0) m) (sum (unpack (w % 256) n (get_or ws at 0))) f).1

  pub last-high : 0 < g → None ≡ judged 1 ws at g e w n t s
  unfolding sound_by marks_by
  last-high h = rw (div-one, some g h, and-false)

  module _ (z : g ≡ 0) (k : n ≤ e % 256) where
    pub last_stop : alone 0 ≡ None → None ≡ judged 1 ws at g e w n t s
    last_stop f = rw (last-sound ws at g e w n k, said-not (filled (w % 256) n (get_or ws at 0) 0) (sum (unpack (w % 256) n (get_or ws at 0))) f)

    pub last_done : {x : ℕ} → alone 0 ≡ Some x → Some (s + x * 2 ^ t) ≡ judged 1 ws at g e w n t s
    last_done f =
        let b = said-sound (filled (w % 256) n (get_or ws at 0) 0) (sum (unpack (w % 256) n (get_or ws at 0))) f in
        rw (last-sound ws at g e w n k, last_sum ws at g e w n, b.0, b.1, z)

  module _ (left : ℕ) (h : 1 < left) (k : n ≤ e % 256) where
    pub judge_marks : 2 ^ n ≤ g % 2 ^ (e % 256) → None ≡ judged left ws at g e w n t s
    judge_marks f = rw (on_sound ws at g e w n left h k, filled-high (w % 256) n (get_or ws at 0) (g % 2 ^ (e % 256)) f)

    pub judge_stop : alone (g % 2 ^ (e % 256)) ≡ None → None ≡ judged left ws at g e w n t s
    judge_stop f = rw (on_sound ws at g e w n left h k, said-not (filled (w % 256) n (get_or ws at 0) (g % 2 ^ (e % 256))) (sum (unpack (w % 256) n (get_or ws at 0))) f)

    pub judge_on : {x : ℕ} → alone (g % 2 ^ (e % 256)) ≡ Some x
        → judged left ws at g e w n t s ≡ judged (left - 1) ws (at + 1) (g / 2 ^ (e % 256)) (e / 256) (w / 256) (ones (g % 2 ^ (e % 256))) (t + w % 256) (s + x * 2 ^ t)
    judge_on {x} f =
        let m : ℕ = g % 2 ^ (e % 256) in
        let b = said-sound (filled (w % 256) n (get_or ws at 0) m) (sum (unpack (w % 256) n (get_or ws at 0))) f in
        let u : rank m n ≡ ones m = used (w % 256) n (get_or ws at 0) m b.0 in
        let y : ℕ = sum_by (left - 1) ws (at + 1) (g / 2 ^ (e % 256)) (e / 256) (w / 256) (ones m) in
        let a : s + (y * 2 ^ (w % 256) + x) * 2 ^ t ≡ s + x * 2 ^ t + y * 2 ^ (t + w % 256) =
        rw (add-mul, pow-add 2 t (w % 256), mul_assoc, mul_comm (2 ^ (w % 256)) (2 ^ t)) (omega arith) in
        rw (on_sound ws at g e w n left h k, on_sum ws at g e w n left h, b.0, b.1, u, a)

-- the word of the last level by itself
pub same_last : (ws : List ℕ) (at g e w n t s : ℕ) → judged 1 (get_or ws at 0 ∷ []) 0 g e w n t s ≡ judged 1 ws at g e w n t s
unfolding sound_by sum_by levels_by
same_last ws at g e w n t s = refl

-- ---- levels that no counter is in

filled-empty : (w x m : ℕ) → filled w 0 x m ≡ eqb x 0 && (eqb m 0 && true)
unfolding filled
filled-empty w x m = rw (mul-zero, none x, none m)

sum-empty : (left : ℕ) (ws : List ℕ) (at g e w : ℕ) → sum_by left ws at g e w 0 ≡ 0
unfolding sum_by sum_levels rows_by levels_by
sum-empty zero ws at g e w = refl
sum-empty (suc n) ws at g e w = rw (sum-empty n ws (suc at) (g / 2 ^ (e % 256)) (e / 256) (w / 256), zero-mul)

empty-zero : (left : ℕ) (ws : List ℕ) (at e w : ℕ) → 0 < left → at + left ≤ length ws → sound_by left ws at 0 e w 0 ≡ list_all (λ x. x == 0) (take left (drop at ws))
empty-zero zero ws at e w h l = absurd (not-suc-le-zero h)
empty-zero (suc zero) ws at e w h l = rw (last-sound ws at 0 e w 0 zero-le, filled-empty, and-true, all_zero_next 0 ws at l)
empty-zero (suc (suc n)) ws at e w h l =
    rw (on_sound ws at 0 e w 0 (suc (suc n)) (omega arith) zero-le, sub-one, add-one, zero-mod, zero-div, filled-empty, empty-zero (suc n) ws (suc at) (e / 256) (w / 256) (omega arith) (omega arith), and-true, all_zero_next (suc n) ws at l)

-- a number above zero has a digit above zero
either : (a : Bool) (m q p : ℕ) (b : Bool) → 0 < q * p + m → (0 < q → b ≡ false) → (a && (eqb m 0 && true)) && b ≡ false
either a zero zero p b l f = absurd (omega (arith, zero-mul p))
either a zero (suc q) p b l f = rw (f (zero-lt-suc q), and-false)
either a (suc m) q p b l f = rw (eqb-suc-zero m, and-false)

empty-some : (left : ℕ) (ws : List ℕ) (at g e w : ℕ) → 0 < left → 0 < g → sound_by left ws at g e w 0 ≡ false
empty-some zero ws at g e w h k = absurd (not-suc-le-zero h)
empty-some (suc zero) ws at g e w h k = rw (last-sound ws at g e w 0 zero-le, some g k, and-false)
empty-some (suc (suc n)) ws at g e w h k =
    rw (on_sound ws at g e w 0 (suc (suc n)) (omega arith) zero-le, sub-one, add-one, filled-empty)
    (either (eqb (get_or ws at 0) 0) (g % 2 ^ (e % 256)) (g / 2 ^ (e % 256)) (2 ^ (e % 256)) (sound_by (suc n) ws (suc at) (g / 2 ^ (e % 256)) (e / 256) (w / 256) 0)
    (omega (arith, split g (e % 256))) (empty-some (suc n) ws (suc at) (g / 2 ^ (e % 256)) (e / 256) (w / 256) (omega arith)))

module _ (left : ℕ) (ws : List ℕ) (at g e w n t s : ℕ) (h : 0 < left) (z : n ≡ 0) where
  pub judge_none : at + left ≤ length ws → g ≡ 0 → verdict (list_all (λ x. x == 0) (take left (drop at ws))) s ≡ judged left ws at g e w n t s
  judge_none l y = rw (y, z, empty-zero left ws at e w h l, sum-empty left ws at 0 e w, zero-mul, add-zero)

  pub judge_high : 0 < g → None ≡ judged left ws at g e w n t s
  judge_high k = rw (z, empty-some left ws at g e w h k)

-- ---- the sum stays within a word

pub more : (w n x t s : ℕ) → n ≤ 64 → s + 64 ≤ 64 * 2 ^ t → s + sum (unpack w n x) * 2 ^ t + 64 ≤ 64 * 2 ^ (t + w)
more w n x t s h k =
    let m : (sum (unpack w n x) + 64) * 2 ^ t ≤ 64 * 2 ^ w * 2 ^ t = mul-le-mul_right (2 ^ t) (sum_most w n 64 x h) in
    let e : 64 * 2 ^ w * 2 ^ t ≡ 64 * 2 ^ (t + w) = rw (pow-add 2 t w, mul_assoc, mul_comm (2 ^ w) (2 ^ t)) in
    omega (arith, add-mul (sum (unpack w n x)) 64 (2 ^ t))

pub within : (t s : ℕ) → t ≤ 47 → s + 64 ≤ 64 * 2 ^ t → s < 2 ^ 63
within t s h k = let e : 2 ^ t ≤ 2 ^ 47 = pow_mono h in omega arith

pub weighed : (w n x y t s : ℕ) → n ≤ 64 → t + w ≤ 47 → s + 64 ≤ 64 * 2 ^ t → y ≡ sum (unpack w n x) → s + y * 2 ^ t < 2 ^ 63
weighed w n x y t s h l k e = rw e (within (t + w) (s + sum (unpack w n x) * 2 ^ t) l (more w n x t s h k))

-- ---- the walk

pub ones_none : (m : ℕ) → m ≡ 0 → ones m ≡ 0
unfolding ones
ones_none m e = rw e

pub ahead_on : (left e w t : ℕ) → 1 < left → Ahead left e w t → (1 ≤ w % 256) × (w % 256 ≤ 16) × (t + w % 256 ≤ 47) × (e % 256 < 64) × Ahead (left - 1) (e / 256) (w / 256) (t + w % 256)
ahead_on zero e w t h a = absurd (omega arith)
ahead_on (suc zero) e w t h a = absurd (omega arith)
ahead_on (suc (suc l)) e w t h a = rw sub-one (a.0, a.1, a.2, a.3, a.4)

pub ahead_last : (left e w t : ℕ) → 0 < left → Ahead left e w t → (1 ≤ w % 256) × (w % 256 ≤ 16) × (t + w % 256 ≤ 47)
ahead_last zero e w t h a = absurd (not-suc-le-zero h)
ahead_last (suc l) e w t h a = (a.0, a.1, a.2)

-- it stands at a level under the marks m, with left levels ahead: the verdict on the whole is that on these, with the sum s so far
pub record Walk (ws : List ℕ) (whole : Option ℕ) (end at m g left e w t s : ℕ) : Type 0 where
  pub some : 0 < left
  pub few : left ≤ 4
  pub place : at + left ≡ end
  pub ahead : Ahead left e w t
  pub low : s + 64 ≤ 64 * 2 ^ t
  pub same : judged left ws at g e w (ones m) t s ≡ whole

pub walk : (ws : List ℕ) (at m g left e w t : ℕ) → 1 ≤ left → left ≤ 4 → Ahead left e w t → Walk ws (judged left ws at g e w (ones m) t 0) (at + left) at m g left e w t 0
walk ws at m g left e w t h k a = record { some = h; few = k; place = refl; ahead = a; low = omega (arith, pow_pos t); same = refl }

module _ {ws : List ℕ} {whole : Option ℕ} {end at m g left e w t s : ℕ} (k : Walk ws whole end at m g left e w t s) where
  pub going : at < end - 1 → 1 < left
  going h = omega (arith, k.some, k.place, h)

  pub stopped : end - 1 ≤ at → (1 ≡ left) × (at ≡ end - 1)
  stopped h = (omega (arith, k.some, k.place), omega (arith, k.some, k.place))

  pub ahead_words : end - 1 + 1 - at ≡ left
  ahead_words = omega (arith, k.some, k.place)

  pub here : 1 < left → (1 ≤ w % 256) × (w % 256 ≤ 16) × (t + w % 256 ≤ 47) × (e % 256 < 64)
  here h = let a = ahead_on left e w t h k.ahead in (a.0, a.1, a.2, a.3)

  pub at_last : (1 ≤ w % 256) × (w % 256 ≤ 16) × (t + w % 256 ≤ 47)
  at_last = ahead_last left e w t k.some k.ahead

  pub walk_on : 1 < left → ones m ≤ e % 256 → ones m ≤ 64 → {x : ℕ} → alone ws at g e w (ones m) t s (g % 2 ^ (e % 256)) ≡ Some x
      → Walk ws whole end (at + 1) (g % 2 ^ (e % 256)) (g / 2 ^ (e % 256)) (left - 1) (e / 256) (w / 256) (t + w % 256) (s + x * 2 ^ t)
  walk_on h n b {x} f =
      let sums = alone-sum ws at g e w (ones m) t s (g % 2 ^ (e % 256)) f in
      record {
        some = omega arith;
        few = omega (arith, k.few);
        place = omega (arith, k.place);
        ahead = (ahead_on left e w t h k.ahead).4;
        low = rw sums (more (w % 256) (ones m) (get_or ws at 0) t s b k.low);
        same = sym (judge_on ws at g e w (ones m) t s left h n f) ∙ k.same;
      }

  -- one level more, with the numbers as the code has them: y is the verdict on the level's own entries
  pub walk_step : at < end - 1 → (n u v p q x : ℕ) (y : Option ℕ) → n ≡ ones m → n ≤ 64 → u ≡ e % 256 → v ≡ w % 256 → n ≤ u → p ≡ 2 ^ u → q ≡ 2 ^ t
      → y ≡ verdict (filled v n (get_or ws at 0) (g % p)) (sum (unpack v n (get_or ws at 0))) → y ≡ Some x
      → Walk ws whole end (at + 1) (g % p) (g / 2 ^ u) (left - 1) (e / 256) (w / 256) (t + v) (s + x * q)
  walk_step h n u v p q x y en b eu ev r ep eq says is =
      let f : alone ws at g e w (ones m) t s (g % 2 ^ (e % 256)) ≡ Some x = rw (ep, ev, en, eu) at (sym says ∙ is) in
      rw (ep, eq, ev, eu) (walk_on (going h) (rw (en, eu) at r) (rw en at b) f)
