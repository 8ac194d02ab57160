-- A bucket without the flag is sound exactly where its upper levels are and its counts stay within the total.
use mathlib.Core.Path.{◌≡◌, refl, sym, ap, ap₂, ◌∙◌, subst, subst₂}
use mathlib.Core.Bool.{Bool, true, false, ◌&&◌}
use mathlib.Core.List.{List, [], ◌∷◌}
use Prim.Native.Nat.{ℕ, zero, suc, ◌+◌, ◌*◌, ◌/◌, ◌%◌, ◌^◌, ◌≤◌, ◌<◌, zero-le}
use native.Mathlib.Nat.{le_refl, le_trans, le_of_eq, mul_comm, mul_assoc, add-mul, div-eq_of_lt, zero-mul, not-suc-le-zero, mul-le-mul_left, mul-le-mul_right, mod-lt}
use native.Mathlib.Omega.{arith}
use lib.Dec.{T, leb, ltb, eqb, leb→le, le→leb, eqb→eq}
use lib.ListN.{length, get_or, take, drop, length-map, length-drop}
use lib.Seq.{length-take-le, get_or-drop}
use lib.Pow.{pow-add, pow_mono, pow_pos, split}
use lib.Count.{ones, ones-le}
use borrow.Author.Tests.{le-leb, lt-leb, lt-ltb, eq-eqb}
use Rattle.std.specs.Prelude.{Option, Some, None}
use Rattle.model.specs.Lists.{sum, every, by_mark}
use Rattle.model.specs.Packed.{pack, unpack, entry, bit, rank}
use Rattle.model.specs.Shapes.{Row, row, all_rows, mark_widths}
use Rattle.model.specs.Levels.{Level, level, parts, onward, encode, sound_levels}
use Rattle.model.specs.Walls.{Bucket, empty_full}
use Rattle.model.specs.Sound.{upper_marks, flag, full_number, levels_of, own_counts, bucket_counts, sound_bucket}
use Rattle.model.proofs.Lists.{Below, below-take}
use Rattle.model.proofs.Packing.{pack_lt, unpack-pack, rank-all}
use Rattle.model.proofs.Tools.{bool_eq, and_tests, tests_and}
use Rattle.model.proofs.Values.{below_parts, sum_level}
use Rattle.model.proofs.Coding.{Fits, used_coded}
use Rattle.model.proofs.Buckets.{bucket_facts, facts_bucket, levels_sound, sound-levels, own-fits, own_coded, counts-none, length-own, none-places}
use Rattle.cells.proofs.Crossing.{below_of}
use Rattle.packed.proofs.Words.{rank_le}
use Rattle.uppers.specs.Judge.{verdict, sum_levels}
use Rattle.uppers.proofs.Verdicts.{said-sound, said-not}
use Rattle.uppers.proofs.Judging.{sum_most}
use Rattle.sums.specs.Sums.{first_sum}
use Rattle.uppers.specs.Uppers.{rows_by, levels_by, marks_by, sound_by, sum_by, judged, Ahead, marks_of}
use Rattle.plain.specs.Plain.{bucket_in}
use Rattle.plain.proofs.Views.{bucket-here, levels-here}

-- ---- the sum of the upper levels stays within a word

pub sum_small : (left : ℕ) (ws : List ℕ) (at g e w n t : ℕ) → t ≤ 47 → Ahead left e w t → n ≤ 64 → (sum_by left ws at g e w n + 64) * 2 ^ t ≤ 64 * 2 ^ 47
unfolding sum_by sum_levels rows_by levels_by
sum_small zero ws at g e w n t k a h = mul-le-mul_left 64 (pow_mono k)
sum_small (suc l) ws at g e w n t k a h =
    let m : ℕ = marks_of l (e % 256) g in
    let r : ℕ = sum_by l ws (suc at) (g / 2 ^ (e % 256)) (e / 256) (w / 256) (rank m n) in
    let x : ℕ = sum (unpack (w % 256) n (get_or ws at 0)) in
    let i : (r + 64) * 2 ^ (t + w % 256) ≤ 64 * 2 ^ 47 = sum_small l ws (suc at) (g / 2 ^ (e % 256)) (e / 256) (w / 256) (rank m n) (t + w % 256) a.2 a.4 (le_trans (rank_le m n) h) in
    let s : r * 2 ^ (w % 256) + x + 64 ≤ (r + 64) * 2 ^ (w % 256) = rw add-mul (omega (arith, sum_most (w % 256) n 64 (get_or ws at 0) h)) in
    let d : (r + 64) * 2 ^ (w % 256) * 2 ^ t ≡ (r + 64) * 2 ^ (t + w % 256) = rw (pow-add 2 t (w % 256), mul_assoc, mul_comm (2 ^ (w % 256)) (2 ^ t)) in
    le_trans (mul-le-mul_right (2 ^ t) s) (le_trans (le_of_eq d) i)

-- level 1 has at most its largest entries
pub first_most : (w : ℕ) (ws : List ℕ) → first_sum w ws + 64 ≤ 64 * 2 ^ w
unfolding first_sum
first_most w ws = sum_most w 64 64 (pack 64 (take w ws)) (le_refl 64)

-- ---- the marks

pub under : (x k : ℕ) → x / 2 ^ k ≡ 0 → x < 2 ^ k
under x k e = let z : x / 2 ^ k * 2 ^ k ≡ 0 = ap (λ q. q * 2 ^ k) e ∙ zero-mul (2 ^ k) in omega (arith, split x k, mod-lt x (pow_pos k))

pub marks-sum : (n e v : ℕ) → sum (mark_widths (rows_by n e v)) ≡ marks_by n e
unfolding rows_by marks_by
marks-sum zero e v = refl
marks-sum (suc zero) e v = refl
marks-sum (suc (suc n)) e v = ap (λ k. e % 256 + k) (marks-sum (suc n) (e / 256) (v / 256))

-- ---- level 1 is always sound

lead : (n w x m : ℕ) (rs : List Row) (ls : List Level) → x < 2 ^ (w * n) → m < 2 ^ n → sound_levels 0 (row n w ∷ rs) n (level x m ∷ ls) ≡ sound_levels 1 rs (rank m n) ls
unfolding sound_levels
lead n w x m rs ls h k = rw (
  le-leb n n (le_refl n),
  lt-ltb x (2 ^ (w * n)) h,
  lt-ltb m (2 ^ n) k,
  every_true n (λ a. leb 0 (entry w x a + bit m a)) (λ i. le-leb 0 (entry w x i + bit m i) zero-le),
  and-true,
)
  where
    every_true : (n : ℕ) (p : ℕ → Bool) → ((i : ℕ) → p i ≡ true) → every n p ≡ true
    every_true zero p h = refl
    every_true (suc n) p h = rw (h 0) (every_true n (λ i. p (suc i)) (λ i. h (suc i)))

    and-true : (a : Bool) → a && true ≡ a
    and-true true = refl
    and-true false = refl

-- ---- the parts of counts

unpack-parts : (w : ℕ) (vs : List ℕ) → unpack w (length vs) (pack w (parts w vs)) ≡ parts w vs
unpack-parts w vs = rw length-map at (unpack-pack w (parts w vs) (below_parts w vs))

sum-encode : (rs : List Row) (vs : List ℕ) → Fits rs vs → sum_levels rs (length vs) (encode rs vs) ≡ sum vs
unfolding sum_levels encode
sum-encode [] [] f = refl
sum-encode [] (v ∷ vs) f = absurd (not-suc-le-zero f)
sum-encode (r ∷ rs) vs f = rw (unpack-parts r.width vs, used_coded r.width vs, sum-encode rs (onward r.width vs) f.1) (sym (sum_level r.width vs))

sum_two : (w n : ℕ) (rs : List Row) (c m : ℕ) (ls : List Level) → m < 2 ^ n → sum_levels (row n w ∷ rs) n (level c m ∷ ls) ≡ sum_levels rs (ones m) ls * 2 ^ w + sum (unpack w n c)
unfolding sum_levels
sum_two w n rs c m ls h = rw (rank-all m n h)

-- ---- a bucket in the words of a wall

module _ (w n e v : ℕ) (ws : List ℕ) (at : ℕ) (h : at + w + 1 + n ≤ length ws) (each : (i : ℕ) → get_or ws i 0 < 2 ^ 64) where
  abbrev rs : List Row
  rs = rows_by n e v

  abbrev b : Bucket
  b = bucket_in w n e v ws at

  abbrev g : ℕ
  g = upper_marks (get_or ws (at + w + 1 + n) 0)

  abbrev uppers : List Level
  uppers = levels_by n ws (at + w + 1) g e

  abbrev m1 : ℕ
  m1 = get_or ws (at + w) 0

  cells_fit : pack 64 (take w (drop at ws)) < 2 ^ (w * 64)
  cells_fit =
      let below : Below (2 ^ 64) (drop at ws) = below_of (2 ^ 64) (drop at ws) (λ i. rw get_or-drop (each (at + i))) in
      let k : length (take w (drop at ws)) ≡ w = length-take-le w (drop at ws) (rw length-drop (omega arith)) in
      rw (mul_comm w 64) (rw k at (pack_lt 64 (take w (drop at ws)) (below-take (2 ^ 64) (drop at ws) w below)))

  pub levels_same : sound_levels 0 (all_rows w rs) 64 (levels_of rs b) ≡ sound_levels 1 rs (ones m1) uppers
  levels_same =
      ap (sound_levels 0 (all_rows w rs) 64) (levels-here w n e v ws at h)
      ∙ lead 64 w (pack 64 (take w (drop at ws))) m1 rs uppers cells_fit (each (at + w))
      ∙ ap (λ k. sound_levels 1 rs k uppers) (rank-all m1 64 (each (at + w)))

  pub packed-here : b.packed ≡ get_or ws (at + w + 1 + n) 0
  packed-here = ap (λ (x : Bucket). x.packed) (bucket-here w n e v ws at)

  -- the sum of its counts
  pub sum-here : T (sound_levels 1 rs (ones m1) uppers) → sum (own_counts w rs b) ≡ sum_levels rs (ones m1) uppers * 2 ^ w + first_sum w (drop at ws)
  unfolding first_sum
  sum-here t =
      let s = levels_sound 0 (all_rows w rs) 64 (levels_of rs b) (subst T (sym levels_same) t) in
      let os : List ℕ = own_counts w rs b in
      sym (sum-encode (all_rows w rs) os (own-fits w rs b s))
      ∙ ap₂ (λ k ls. sum_levels (all_rows w rs) k ls) (length-own w rs b) (own_coded w rs b s ∙ levels-here w n e v ws at h)
      ∙ sum_two w 64 rs (pack 64 (take w (drop at ws))) m1 uppers (each (at + w))

  -- the tests that are left, where there is no flag, number or spare bit
  module _ (low : get_or ws (at + w + 1 + n) 0 < 2 ^ 40) (total used : ℕ) where
    above : b.packed / 2 ^ 40 ≡ 0
    above = ap (λ y. y / 2 ^ 40) packed-here ∙ div-eq_of_lt low

    plain_facts : T (sound_bucket w rs total used b empty_full) → T (sound_by n ws (at + w + 1) g e v (ones m1) && leb (sum (own_counts w rs b)) total)
    unfolding sound_by
    plain_facts t =
        let s = bucket_facts w rs total used b empty_full t in
        let q : sum (bucket_counts (own_counts w rs b) empty_full) ≡ sum (own_counts w rs b) = ap sum (counts-none (own_counts w rs b) (length-own w rs b)) in
        let m : g < 2 ^ marks_by n e = subst₂ (λ y k. upper_marks y < 2 ^ k) packed-here (marks-sum n e v) s.marks in
        tests_and (sound_levels 1 rs (ones m1) uppers && eqb (g / 2 ^ marks_by n e) 0) (leb (sum (own_counts w rs b)) total)
        (tests_and (sound_levels 1 rs (ones m1) uppers) (eqb (g / 2 ^ marks_by n e) 0) (subst T levels_same (sound-levels 0 (all_rows w rs) 64 (levels_of rs b) s.levels)) (subst T (sym (eq-eqb (g / 2 ^ marks_by n e) 0 (div-eq_of_lt m))) tt))
        (le→leb (sum (own_counts w rs b)) total (le_trans (le_of_eq (sym q)) s.most))

    facts_plain : T (sound_by n ws (at + w + 1) g e v (ones m1) && leb (sum (own_counts w rs b)) total) → T (sound_bucket w rs total used b empty_full)
    unfolding sound_by
    facts_plain t =
        let u = and_tests (sound_levels 1 rs (ones m1) uppers && eqb (g / 2 ^ marks_by n e) 0) (leb (sum (own_counts w rs b)) total) t in
        let l = and_tests (sound_levels 1 rs (ones m1) uppers) (eqb (g / 2 ^ marks_by n e) 0) u.0 in
        let q : sum (bucket_counts (own_counts w rs b) empty_full) ≡ sum (own_counts w rs b) = ap sum (counts-none (own_counts w rs b) (length-own w rs b)) in
        let m : g < 2 ^ marks_by n e = under g (marks_by n e) (eqb→eq (g / 2 ^ marks_by n e) 0 l.1) in
        let small : b.packed < 2 ^ 40 = subst (λ y. y < 2 ^ 40) (sym packed-here) low in
        let fl : flag b ≡ 0 = omega (arith, small) in
        let nu : full_number b ≡ 0 = omega (arith, small) in
        facts_bucket w rs total used b empty_full (record {
          levels = levels_sound 0 (all_rows w rs) 64 (levels_of rs b) (subst T (sym levels_same) l.0);
          marks = subst₂ (λ y k. upper_marks y < 2 ^ k) (sym packed-here) (sym (marks-sum n e v)) m;
          spare = omega (arith, small);
          number = subst₂ (λ m k. T (by_mark m (eqb k 0) (ltb k used))) (sym fl) (sym nu) tt;
          some = le_trans (le_of_eq fl) zero-le;
          places = none-places (own_counts w rs b);
          most = le_trans (le_of_eq q) (leb→le (sum (own_counts w rs b)) total u.1);
        })

    sound-here : sound_bucket w rs total used b empty_full ≡ sound_by n ws (at + w + 1) g e v (ones m1) && leb (sum (own_counts w rs b)) total
    sound-here = bool_eq (sound_bucket w rs total used b empty_full) (sound_by n ws (at + w + 1) g e v (ones m1) && leb (sum (own_counts w rs b)) total) plain_facts facts_plain

    -- as the code goes
    abbrev verdict_here : Option ℕ
    verdict_here = judged n ws (at + w + 1) g e v (ones m1) w 0

    pub unsound-here : verdict_here ≡ None → false ≡ sound_bucket w rs total used b empty_full
    unsound-here f =
        let k = said-not (sound_by n ws (at + w + 1) g e v (ones m1)) (0 + sum_by n ws (at + w + 1) g e v (ones m1) * 2 ^ w) f in
        sym (sound-here ∙ rw k)

    pub sound-within : {y : ℕ} → verdict_here ≡ Some y → leb (y + first_sum w (drop at ws)) total ≡ sound_bucket w rs total used b empty_full
    unfolding sound_by sum_by
    sound-within {y} f =
        let k = said-sound (sound_by n ws (at + w + 1) g e v (ones m1)) (0 + sum_by n ws (at + w + 1) g e v (ones m1) * 2 ^ w) f in
        let t : T (sound_levels 1 rs (ones m1) uppers && eqb (g / 2 ^ marks_by n e) 0) = subst T (sym k.0) tt in
        let l = and_tests (sound_levels 1 rs (ones m1) uppers) (eqb (g / 2 ^ marks_by n e) 0) t in
        let d : sum (own_counts w rs b) ≡ y + first_sum w (drop at ws) = omega (arith, sum-here l.0, k.1) in
        sym (sound-here ∙ rw (k.0, d))

    -- with the sum
    abbrev weighed : Option ℕ
    weighed = verdict (sound_bucket w rs total used b empty_full) (sum (own_counts w rs b))

    pub unsound_weighed : verdict_here ≡ None → None ≡ weighed
    unsound_weighed f = ap (λ k. verdict k (sum (own_counts w rs b))) (unsound-here f)

    module _ {y : ℕ} (f : verdict_here ≡ Some y) (own : ℕ) (d : own ≡ y + first_sum w (drop at ws)) where
      sum_weighed : own ≡ sum (own_counts w rs b)
      unfolding sound_by sum_by
      sum_weighed =
          let k = said-sound (sound_by n ws (at + w + 1) g e v (ones m1)) (0 + sum_by n ws (at + w + 1) g e v (ones m1) * 2 ^ w) f in
          let t : T (sound_levels 1 rs (ones m1) uppers && eqb (g / 2 ^ marks_by n e) 0) = subst T (sym k.0) tt in
          let l = and_tests (sound_levels 1 rs (ones m1) uppers) (eqb (g / 2 ^ marks_by n e) 0) t in
          omega (arith, sum-here l.0, k.1)

      test_weighed : leb own total ≡ sound_bucket w rs total used b empty_full
      test_weighed = ap (λ k. leb k total) d ∙ sound-within f

      pub over_weighed : total < own → None ≡ weighed
      over_weighed h = ap (λ k. verdict k (sum (own_counts w rs b))) (sym (lt-leb own total h) ∙ test_weighed)

      pub sound_weighed : own ≤ total → Some own ≡ weighed
      sound_weighed h = ap₂ verdict (sym (le-leb own total h) ∙ test_weighed) sum_weighed

    pub upper_small : Ahead n e v w → w ≤ 16 → {y : ℕ} → verdict_here ≡ Some y → y < 2 ^ 63
    upper_small a k {y} f =
        let d = (said-sound (sound_by n ws (at + w + 1) g e v (ones m1)) (0 + sum_by n ws (at + w + 1) g e v (ones m1) * 2 ^ w) f).1 in
        let m = sum_small n ws (at + w + 1) g e v (ones m1) w (omega arith) a (ones-le 64 m1 (each (at + w))) in
        omega (arith, add-mul (sum_by n ws (at + w + 1) g e v (ones m1)) 64 (2 ^ w))
