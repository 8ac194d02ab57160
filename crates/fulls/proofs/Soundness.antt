-- A flagged bucket is sound exactly where its upper levels are and its full-size bucket passes its tests.
use mathlib.Core.Path.{◌≡◌, sym, ap, ◌∙◌, subst, subst₂}
use mathlib.Core.Bool.{Bool, ◌&&◌}
use mathlib.Core.List.{List}
use Prim.Native.Nat.{ℕ, ◌+◌, ◌*◌, ◌/◌, ◌%◌, ◌^◌, ◌≤◌, ◌<◌}
use native.Mathlib.Nat.{le_trans, le_of_eq, add-mul, div-eq_of_lt}
use native.Mathlib.Omega.{arith}
use lib.Dec.{T, ltb, eqb, leb→le, le→leb, lt→ltb, eqb→eq}
use lib.ListN.{length, get_or, drop}
use lib.Count.{ones, ones-le}
use borrow.Author.Tests.{eq-eqb}
use Rattle.std.specs.Prelude.{Option, Some, None}
use Rattle.model.specs.Lists.{sum, all, by_mark}
use Rattle.model.specs.Packed.{rank}
use Rattle.model.specs.Shapes.{Row, all_rows}
use Rattle.model.specs.Levels.{Level, sound_levels}
use Rattle.model.specs.Walls.{Bucket, Full}
use Rattle.model.specs.Sound.{upper_marks, spare_bits, flag, full_number, levels_of, own_counts, bucket_counts, sound_place, sound_bucket}
use Rattle.model.proofs.Tests.{every-at, every_of}
use Rattle.model.proofs.Tools.{bool_eq, and_tests, tests_and, all_tests, tests_all}
use Rattle.model.proofs.Buckets.{bucket_facts, facts_bucket, levels_sound, sound-levels, length-own}
use Rattle.uppers.specs.Judge.{verdict}
use Rattle.fulls.specs.Fulls.{full_tests}
use Rattle.uppers.proofs.Verdicts.{said-sound, said-not}
use Rattle.sums.specs.Sums.{first_sum}
use Rattle.uppers.specs.Uppers.{rows_by, levels_by, marks_by, sound_by, sum_by, judged, Ahead}
use Rattle.plain.specs.Plain.{bucket_in}
use Rattle.plain.proofs.Soundness.{under, marks-sum, levels_same, packed-here, sum-here, sum_small}
use Rattle.fulls.proofs.Gains.{own_over}

module _ (w n e v : ℕ) (ws : List ℕ) (at : ℕ) (h : at + w + 1 + n ≤ length ws) (each : (i : ℕ) → get_or ws i 0 < 2 ^ 64) where
  abbrev rs : List Row
  rs = rows_by n e v

  abbrev b : Bucket
  b = bucket_in w n e v ws at

  abbrev os : List ℕ
  os = own_counts w rs b

  abbrev x : ℕ
  x = get_or ws (at + w + 1 + n) 0

  abbrev g : ℕ
  g = upper_marks x

  abbrev uppers : List Level
  uppers = levels_by n ws (at + w + 1) g e

  abbrev m1 : ℕ
  m1 = get_or ws (at + w) 0

  abbrev levels : Bool
  levels = sound_by n ws (at + w + 1) g e v (ones m1)

  same : sound_levels 0 (all_rows w rs) 64 (levels_of rs b) ≡ sound_levels 1 rs (ones m1) uppers
  same = levels_same w n e v ws at h each

  here : b.packed ≡ x
  here = packed-here w n e v ws at h each

  abbrev verdict_here : Option ℕ
  verdict_here = judged n ws (at + w + 1) g e v (ones m1) w 0

  pub upper_fits : Ahead n e v w → w ≤ 16 → {y : ℕ} → verdict_here ≡ Some y → y < 2 ^ 63
  upper_fits a k {y} f =
      let d = (said-sound levels (0 + sum_by n ws (at + w + 1) g e v (ones m1) * 2 ^ w) f).1 in
      let m = sum_small n ws (at + w + 1) g e v (ones m1) w (omega arith) a (ones-le 64 m1 (each (at + w))) in
      omega (arith, add-mul (sum_by n ws (at + w + 1) g e v (ones m1)) 64 (2 ^ w))

  pub own-sum : {y : ℕ} → verdict_here ≡ Some y → (own : ℕ) → own ≡ y + first_sum w (drop at ws) → own ≡ sum os
  unfolding sound_by sum_by
  own-sum f own d =
      let k = said-sound levels (0 + sum_by n ws (at + w + 1) g e v (ones m1) * 2 ^ w) f in
      let t : T (sound_levels 1 rs (ones m1) uppers && eqb (g / 2 ^ marks_by n e) 0) = subst T (sym k.0) tt in
      let l = and_tests (sound_levels 1 rs (ones m1) uppers) (eqb (g / 2 ^ marks_by n e) 0) t in
      omega (arith, sum-here w n e v ws at h each l.0, k.1)

  -- it has the flag, no spare bits, and its number is in use
  module _ (one : x / 2 ^ 40 % 256 ≡ 1) (f : Full) (total used : ℕ) (num : x / 2 ^ 48 < used) where
    flag-set : flag b ≡ 1
    flag-set = ap (λ y. y / 2 ^ 40 % 2) here ∙ omega arith

    spare_none : spare_bits b.packed ≡ 0
    spare_none = ap spare_bits here ∙ omega arith

    number-low : full_number b < used
    number-low = subst (λ y. y / 2 ^ 48 < used) (sym here) num

    abbrev tests : Bool
    tests = all (full_tests os f total)

    facts_out : T (sound_bucket w rs total used b f) → T (levels && tests)
    unfolding sound_by
    facts_out t =
        let s = bucket_facts w rs total used b f t in
        let m : g < 2 ^ marks_by n e = subst₂ (λ y k. upper_marks y < 2 ^ k) here (marks-sum n e v) s.marks in
        tests_and (sound_levels 1 rs (ones m1) uppers && eqb (g / 2 ^ marks_by n e) 0) tests
        (tests_and (sound_levels 1 rs (ones m1) uppers) (eqb (g / 2 ^ marks_by n e) 0) (subst T same (sound-levels 0 (all_rows w rs) 64 (levels_of rs b) s.levels)) (subst T (sym (eq-eqb (g / 2 ^ marks_by n e) 0 (div-eq_of_lt m))) tt))
        (tests_all (full_tests os f total) (le→leb 1 (rank f.moved 64) (le_trans (le_of_eq (sym flag-set)) s.some), (every_of 64 (sound_place os f) s.places, (le→leb (sum (bucket_counts os f)) total s.most, tt))))

    facts_in : T (levels && tests) → T (sound_bucket w rs total used b f)
    unfolding sound_by
    facts_in t =
        let u = and_tests (sound_levels 1 rs (ones m1) uppers && eqb (g / 2 ^ marks_by n e) 0) tests t in
        let l = and_tests (sound_levels 1 rs (ones m1) uppers) (eqb (g / 2 ^ marks_by n e) 0) u.0 in
        let m : g < 2 ^ marks_by n e = under g (marks_by n e) (eqb→eq (g / 2 ^ marks_by n e) 0 l.1) in
        let a = all_tests (full_tests os f total) u.1 in
        facts_bucket w rs total used b f (record {
          levels = levels_sound 0 (all_rows w rs) 64 (levels_of rs b) (subst T (sym same) l.0);
          marks = subst₂ (λ y k. upper_marks y < 2 ^ k) (sym here) (sym (marks-sum n e v)) m;
          spare = spare_none;
          number = subst (λ m. T (by_mark m (eqb (full_number b) 0) (ltb (full_number b) used))) (sym flag-set) (lt→ltb (full_number b) used number-low);
          some = le_trans (le_of_eq flag-set) (leb→le 1 (rank f.moved 64) a.0);
          places = every-at 64 (sound_place os f) a.1.0;
          most = leb→le (sum (bucket_counts os f)) total a.1.1.0;
        })

    sound_both : sound_bucket w rs total used b f ≡ levels && tests
    sound_both = bool_eq (sound_bucket w rs total used b f) (levels && tests) facts_out facts_in

    abbrev said : Option ℕ
    said = verdict (sound_bucket w rs total used b f) (sum (bucket_counts os f))

    -- as the code goes
    pub levels-unsound : verdict_here ≡ None → None ≡ said
    levels-unsound q =
        let k = said-not levels (0 + sum_by n ws (at + w + 1) g e v (ones m1) * 2 ^ w) q in
        sym (ap (λ k. verdict k (sum (bucket_counts os f))) (sound_both ∙ ap (λ k. k && tests) k))

    module _ {y : ℕ} (q : verdict_here ≡ Some y) (own : ℕ) (d : own ≡ y + first_sum w (drop at ws)) where
      pub tests_decide : (r : Option ℕ) → r ≡ verdict tests (sum (bucket_counts os f)) → r ≡ said
      tests_decide r z =
          let k = (said-sound levels (0 + sum_by n ws (at + w + 1) g e v (ones m1) * 2 ^ w) q).0 in
          z ∙ sym (ap (λ k. verdict k (sum (bucket_counts os f))) (sound_both ∙ ap (λ k. k && tests) k))

      pub own_over_total : total < own → None ≡ said
      own_over_total l = tests_decide None (own_over os f total (length-own w rs b) own (own-sum q own d) l)
