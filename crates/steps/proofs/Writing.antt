-- The step writes the words that the model's step has, or is refused with 12.
use mathlib.Core.Path.{◌≡◌, refl, sym, ap, ap₂, ◌∙◌, subst}
use mathlib.Core.Bool.{Bool, true, false, not, ◌&&◌}
use mathlib.Core.List.{List, [], ◌∷◌}
use Prim.Native.Nat.{ℕ, ◌+◌, ◌*◌, ◌/◌, ◌%◌, ◌^◌, ◌≤◌, ◌<◌}
use native.Mathlib.Nat.{le_trans}
use native.Mathlib.Omega.{arith}
use lib.Dec.{T, eqb, ltb, eqb→eq, ltb→lt}
use lib.Pow.{split, shr-shr}
use lib.ListN.{length, get_or, set}
use Rattle.model.specs.Lists.{by_mark, choose, splice}
use Rattle.model.specs.Packed.{join_fields}
use Rattle.model.specs.Shapes.{rows_of, counter_bits, bucket_size}
use Rattle.model.specs.Levels.{crowded}
use Rattle.model.specs.Walls.{Header, Bucket, buckets_in, bucket_length, count_end, word_at, full_fields, bucket_words, full_words, flatten, parse, empty_full}
use Rattle.model.specs.Sound.{upper_marks, packed_word, flag, full_number, bucket_at, own_at, full_for, counts_at, own_counts, sound_at}
use Rattle.model.specs.Calls.{outcome, holding, overflowed, move_in, no_room, overflows, step}
use Rattle.model.proofs.Steps.{eqb-false}
use Rattle.model.proofs.Headers.{eq-eqb}
use Rattle.model.proofs.Crowding.{T_true}
use Rattle.model.proofs.Buckets.{SoundB, bucket_facts, sound-levels, counts-none, length-own}
use Rattle.model.proofs.Written.{words_held, words_over, words-moved}
use Rattle.model.specs.Shapes.{all_rows}
use Rattle.model.specs.Sound.{levels_of}
use Rattle.layout.specs.declared.Wall.{Wall}
use Rattle.layout.specs.Views.{header_of}
use Rattle.shapes.specs.declared.Shape.{Shape}
use Rattle.shapes.specs.Shapes.{rows_in, shape_of}
use Rattle.shapes.proofs.Shapes.{table_rows}
use Rattle.bucket.specs.declared.Bucket as code
use Rattle.bucket.specs.Views.{as_bucket, bucket_in}
use Rattle.growth.specs.Levels.{Fit}
use Rattle.bucket.specs.Raise.{RaisesIn, Stays}
use Rattle.bucket.proofs.Stepping.{roomy}
use Rattle.moves.specs.Full.{full_at}
use Rattle.header.specs.Headers.{Known, Open}
use Rattle.header.proofs.Opening.{known-valid}
use Rattle.header.proofs.Places.{counter_47, open_good, open_known, open_limits, open_header, bucket-within, full-within, full-here, shape_size, taken}
use Rattle.found.proofs.Here.{sound-flag}
use Rattle.steps.specs.Step.{Ready, step_in}

and_no : (a : Bool) (m n : ℕ) → (m ≡ n → ⊥) → (a && eqb m n) ≡ false
and_no true m n z = eqb-false m n z
and_no false m n z = refl

-- a packed word with no flag, no number and no spare bit is its marks
packed-plain : (x : ℕ) → x / 2 ^ 40 % 2 ≡ 0 → x / 2 ^ 41 % 2 ^ 7 ≡ 0 → x / 2 ^ 48 ≡ 0 → x ≡ x % 2 ^ 40
packed-plain x f s n =
    let a : x / 2 ^ 40 / 2 ^ 1 ≡ x / 2 ^ 41 = shr-shr x 40 1 in
    let b : x / 2 ^ 40 / 2 ^ 8 ≡ x / 2 ^ 48 = shr-shr x 40 8 in
    let z : x / 2 ^ 40 ≡ 0 = zero_of (x / 2 ^ 40) f (ap (λ k. k % 128) a ∙ s) (b ∙ n) in
    sym (ap (λ k. k * 2 ^ 40 + x % 2 ^ 40) (sym z) ∙ split x 40) ∙ omega arith
  where
    zero_of : (y : ℕ) → y % 2 ≡ 0 → y / 2 % 128 ≡ 0 → y / 256 ≡ 0 → y ≡ 0
    zero_of y f s n = omega arith

-- the bucket was found sound, and its count at the place is m
pub ready : (ws : List ℕ) (v : Wall) (i a m : ℕ) → Open ws v → T (sound_at (parse ws) i) → i < buckets_in (header_of v) → a < 64 → m ≡ get_or (counts_at (parse ws) i) a 0
    → get_or (counts_at (parse ws) i) a 0 + 1 < count_end (header_of v) → Ready ws v i a (m + 1)
ready ws v i a m o t h k n f = record {
  header = o;
  sound = t;
  bucket = h;
  place = k;
  larger = omega arith;
  fits = subst (λ x. x + 1 < count_end (header_of v)) (sym n) f;
}

-- a shape of the table fits
table_fits : (v : Wall) → Known v → Fit (shape_of v.shape v.width)
table_fits v k = record {
  valid = known-valid v k;
  narrow = subst (λ rs. counter_bits v.width rs ≤ 47) (sym (table_rows v.shape v.width k.shape_low k.shape_high)) (counter_47 v k);
}

module _ (ws : List ℕ) (v : Wall) (i a c : ℕ) (r : Ready ws v i a c) where
  abbrev o : Open ws v
  o = r.header

  -- bucket i of the wall
  abbrev b : Bucket
  b = bucket_at (parse ws) i

  facts : SoundB (parse ws).header.width (parse ws).header.rows (parse ws).header.total (parse ws).header.used b (full_for (parse ws) i)
  unfolding sound_at
  facts = bucket_facts (parse ws).header.width (parse ws).header.rows (parse ws).header.total (parse ws).header.used b (full_for (parse ws) i) r.sound

  used-at : v.used ≡ (parse ws).header.used
  used-at = ap (λ (g : Header). g.used) (open_header ws v o)

  full-at : v.full ≡ (parse ws).header.full
  full-at = ap (λ (g : Header). g.full) (open_header ws v o)

  plain-number : flag b ≡ 0 → full_number b ≡ 0
  plain-number e = eqb→eq (full_number b) 0 (subst (λ m. T (by_mark m (eqb (full_number b) 0) (ltb (full_number b) (parse ws).header.used))) e facts.number)

  pub number-used : flag b ≡ 1 → full_number b < v.used
  number-used e = subst (λ u. full_number b < u) (sym used-at) (ltb→lt (full_number b) (parse ws).header.used (subst (λ m. T (by_mark m (eqb (full_number b) 0) (ltb (full_number b) (parse ws).header.used))) e facts.number))

  -- more than marks in the packed word of a sound bucket: the flag
  pub flag-here : (x : ℕ) → x ≡ b.packed → 0 < x / 2 ^ 40 → flag b ≡ 1
  flag-here x q l =
      let e : x / 2 ^ 40 % 256 ≡ 1 = (sound-flag ws v o i r.bucket x q l r.sound).0 in
      ap (λ y. y / 2 ^ 40 % 2) (sym q) ∙ omega arith

  -- without the flag the counts are the bucket's own
  plain-counts : flag b ≡ 0 → counts_at (parse ws) i ≡ own_at (parse ws) i
  unfolding counts_at
  plain-counts e =
      ap (λ m. Rattle.model.specs.Sound.bucket_counts (own_at (parse ws) i) (by_mark m empty_full (get_or (parse ws).fulls (full_number b) empty_full))) e
      ∙ counts-none (own_at (parse ws) i) (length-own (parse ws).header.width (parse ws).header.rows b)

  -- ---- in a shape that the table gives

  module _ (s : Shape) (es : s ≡ shape_of v.shape v.width) where
    pub shape-fits : Fit s
    shape-fits = subst Fit (sym es) (table_fits v (open_known ws v o))

    width_of : s.width ≡ (parse ws).header.width
    width_of = ap (λ (s : Shape). s.width) es ∙ ap (λ (h : Header). h.width) (open_header ws v o)

    rows-of : rows_in s ≡ (parse ws).header.rows
    rows-of =
        let k = open_known ws v o in
        ap rows_in es ∙ table_rows v.shape v.width k.shape_low k.shape_high ∙ ap (λ (h : Header). h.rows) (open_header ws v o)

    pub own-of : own_counts s.width (rows_in s) b ≡ own_at (parse ws) i
    own-of = ap₂ (λ w rs. own_counts w rs b) width_of rows-of

    counter : counter_bits s.width (rows_in s) ≡ counter_bits v.width (rows_of v.shape)
    counter =
        let k = open_known ws v o in
        ap (λ (s : Shape). counter_bits s.width (rows_in s)) es ∙ ap (counter_bits v.width) (table_rows v.shape v.width k.shape_low k.shape_high)

    -- where the bucket lies
    module _ (at : ℕ) (q : at ≡ 4 + i * bucket_length (header_of v)) where
      pub inside : at + bucket_size s.width (rows_in s) ≤ length ws
      inside = omega (arith, bucket-within ws v o i r.bucket, shape_size ws v o s es)

      pub lies : bucket_in s ws at ≡ b
      lies = ap (bucket_in s ws) q ∙ taken ws v o i s (bucket_in s ws (4 + i * bucket_length (header_of v))) r.bucket es refl

    -- what raising it asks
    module _ (e : flag b ≡ 0) where
      pub raises : RaisesIn s b a c
      raises =
          let own : get_or (own_counts s.width (rows_in s) b) a 0 ≡ get_or (counts_at (parse ws) i) a 0 = ap (λ (l : List ℕ). get_or l a 0) (own-of ∙ sym (plain-counts e)) in
          let p : b.packed ≡ b.packed % 2 ^ 40 = packed-plain b.packed e facts.spare (plain-number e) in
          record {
            fit = shape-fits;
            place = r.place;
            sound = subst T (ap₂ (λ w rs. Rattle.model.specs.Levels.sound_levels 0 (all_rows w rs) 64 (levels_of rs b)) (sym width_of) (sym rows-of)) (sound-levels 0 (all_rows (parse ws).header.width (parse ws).header.rows) 64 (levels_of (parse ws).header.rows b) facts.levels);
            larger = omega (arith, own, r.larger);
            counter = subst (λ n. c < 2 ^ n) (sym counter) r.fits;
            plain = subst (λ rs. b.packed < 2 ^ Rattle.model.specs.Lists.sum (Rattle.model.specs.Shapes.mark_widths rs)) (sym rows-of) (subst (λ x. x < 2 ^ Rattle.model.specs.Lists.sum (Rattle.model.specs.Shapes.mark_widths (parse ws).header.rows)) (sym p) facts.marks);
          }

      pub stays : (was : ℕ) → was ≡ get_or (counts_at (parse ws) i) a 0 → c / 2 ^ v.width ≡ was / 2 ^ v.width → Stays s b a c
      stays was q z =
          let w : s.width ≡ v.width = ap (λ (s : Shape). s.width) es in
          let own : was ≡ get_or (own_counts s.width (rows_in s) b) a 0 = q ∙ ap (λ (l : List ℕ). get_or l a 0) (plain-counts e ∙ sym own-of) in
          ap (λ n. c / 2 ^ n) w ∙ z ∙ ap₂ (λ n x. x / 2 ^ n) (sym w) own

    -- the room that was found is the model's
    room_at : no_room (parse ws) i a c ≡ crowded s.width (rows_in s) (set (own_counts s.width (rows_in s) b) a c)
    unfolding no_room
    room_at =
        sym (ap₂ (λ w rs. crowded w rs (set (own_counts s.width (rows_in s) b) a c)) width_of rows-of
        ∙ ap (λ os. crowded (parse ws).header.width (parse ws).header.rows (set os a c)) own-of)

    pub room_found : (f : Bool) → f ≡ not (crowded s.width (rows_in s) (set (own_counts s.width (rows_in s) b) a c)) → f ≡ true → no_room (parse ws) i a c ≡ false
    room_found f e z = room_at ∙ not-true_of (crowded s.width (rows_in s) (set (own_counts s.width (rows_in s) b) a c)) f e z
      where
        not-true_of : (b f : Bool) → f ≡ not b → f ≡ true → b ≡ false
        not-true_of true f e z = sym z ∙ e
        not-true_of false f e z = refl

    pub none_found : (f : Bool) → f ≡ not (crowded s.width (rows_in s) (set (own_counts s.width (rows_in s) b) a c)) → f ≡ false → no_room (parse ws) i a c ≡ true
    none_found f e z = room_at ∙ not-false_of (crowded s.width (rows_in s) (set (own_counts s.width (rows_in s) b) a c)) f e z
      where
        not-false_of : (b f : Bool) → f ≡ not b → f ≡ false → b ≡ true
        not-false_of true f e z = refl
        not-false_of false f e z = sym z ∙ e

    pub stays_room : flag b ≡ 0 → Stays s b a c → no_room (parse ws) i a c ≡ false
    stays_room e z = room_at ∙ roomy s b a c (raises e) z

    -- the flag and the number go in
    pub over_of : (k x : code.Bucket) (n : ℕ) → as_bucket s k ≡ b → x.first ≡ k.first → x.marks ≡ k.marks → x.upper.words ≡ k.upper.words → x.upper.packed ≡ packed_word (upper_marks k.upper.packed) 1 n
        → as_bucket s x ≡ overflowed b n
    unfolding overflowed
    over_of k x n e f m u p = rw (f, m, u, p) (ap (λ (y : Bucket). overflowed y n) e)

    pub held_of : (x : Bucket) → x ≡ holding s.width (rows_in s) (set (own_counts s.width (rows_in s) b) a c) → x ≡ holding (parse ws).header.width (parse ws).header.rows (set (own_at (parse ws) i) a c)
    held_of x e =
        e ∙ ap₂ (λ w rs. holding w rs (set (own_counts s.width (rows_in s) b) a c)) width_of rows-of
        ∙ ap (λ os. holding (parse ws).header.width (parse ws).header.rows (set os a c)) own-of

  -- ---- the words after the step, as the code has them, at the model's offsets and fields

  module _ (t : ℕ) (l : word_at ws 0 < 2 ^ 64) where
    in_wall : i < buckets_in (parse ws).header
    in_wall = subst (λ (g : Header). i < buckets_in g) (open_header ws v o) r.bucket

    totals_at : (x : List ℕ) (f : ℕ → ℕ)
        → set (set x 2 t) 3 (join_fields full_fields (v.full ∷ f v.used ∷ v.spread ∷ [])) ≡ set (set x 2 t) 3 (join_fields full_fields ((parse ws).header.full ∷ f (parse ws).header.used ∷ (parse ws).header.spread ∷ []))
    totals_at x f = ap (λ (g : Header). set (set x 2 t) 3 (join_fields full_fields (g.full ∷ f g.used ∷ g.spread ∷ []))) (open_header ws v o)

    bucket_offset : 4 + i * bucket_length (header_of v) ≡ 4 + i * bucket_length (parse ws).header
    bucket_offset = ap (λ (g : Header). 4 + i * bucket_length g) (open_header ws v o)

    full_offset : (q : ℕ) → 4 + (buckets_in (header_of v) * bucket_length (header_of v) + q * 65) ≡ 4 + (buckets_in (parse ws).header * bucket_length (parse ws).header + q * 65)
    full_offset q = ap (λ (g : Header). 4 + (buckets_in g * bucket_length g + q * 65)) (open_header ws v o)

    -- 12 is not met
    done : (overflows (parse ws) i a c && eqb (parse ws).header.used (parse ws).header.full) ≡ false → record { number = 0; value = c; words = flatten (step (parse ws) i a c t) } ≡ step_in ws i a c t
    done e = sym (ap (λ b. outcome (choose b 12 0) c (flatten (step (parse ws) i a c t)) ws) e)

    kept-plain : flag b ≡ 0 → no_room (parse ws) i a c ≡ false → (overflows (parse ws) i a c && eqb (parse ws).header.used (parse ws).header.full) ≡ false
    kept-plain e z = ap₂ (λ m x. by_mark m x false && eqb (parse ws).header.used (parse ws).header.full) e z

    pub step_held : (m : List ℕ) (at : ℕ) (x : Bucket) → flag b ≡ 0 → no_room (parse ws) i a c ≡ false
        → at ≡ 4 + i * bucket_length (header_of v) → x ≡ holding (parse ws).header.width (parse ws).header.rows (set (own_at (parse ws) i) a c) → m ≡ splice ws at (bucket_words x)
        → record { number = 0; value = c; words = set (set m 2 t) 3 (join_fields full_fields (v.full ∷ v.used ∷ v.spread ∷ [])) } ≡ step_in ws i a c t
    step_held m at x e z q held em =
        ap (λ (x : List ℕ). record { number = 0; value = c; words = x })
        (totals_at m (λ u. u) ∙ ap (λ x. set (set x 2 t) 3 (join_fields full_fields ((parse ws).header.full ∷ (parse ws).header.used ∷ (parse ws).header.spread ∷ []))) (em ∙ ap₂ (λ n b. splice ws n (bucket_words b)) (q ∙ bucket_offset) held)
        ∙ sym (words_held ws (open_good ws v o) l i a c t in_wall e z))
        ∙ done (kept-plain e z)

    pub step-twelve : flag b ≡ 0 → no_room (parse ws) i a c ≡ true → v.used ≡ v.full → record { number = 12; value = 0; words = ws } ≡ step_in ws i a c t
    step-twelve e z q =
        let full : eqb (parse ws).header.used (parse ws).header.full ≡ true = sym (T_true (eqb (parse ws).header.used (parse ws).header.full) (eq-eqb (sym used-at ∙ q ∙ full-at))) in
        sym (ap₂ (λ m x. outcome (choose (by_mark m x false && eqb (parse ws).header.used (parse ws).header.full) 12 0) c (flatten (step (parse ws) i a c t)) ws) e z
        ∙ ap (λ x. outcome (choose x 12 0) c (flatten (step (parse ws) i a c t)) ws) full)

    pub step_over : (m n : List ℕ) (at to : ℕ) (x : Bucket) → flag b ≡ 0 → no_room (parse ws) i a c ≡ true → (v.used ≡ v.full → ⊥)
        → at ≡ 4 + i * bucket_length (header_of v) → x ≡ overflowed b v.used → m ≡ splice ws at (bucket_words x)
        → to ≡ 4 + (buckets_in (header_of v) * bucket_length (header_of v) + v.used * 65) → n ≡ splice m to (full_words (move_in empty_full a c))
        → record { number = 0; value = c; words = set (set n 2 t) 3 (join_fields full_fields (v.full ∷ (v.used + 1) ∷ v.spread ∷ [])) } ≡ step_in ws i a c t
    step_over m n at to x e z f q eb em p en =
        let u : (parse ws).header.used < (parse ws).header.full = omega (arith, used-at, full-at, (open_limits ws v o).spare_full, (let y : ¬ (v.used ≡ v.full) = f in y)) in
        let over : x ≡ overflowed b (parse ws).header.used = eb ∙ ap (overflowed b) used-at in
        let words : n ≡ splice (splice ws (4 + i * bucket_length (parse ws).header) (bucket_words (overflowed b (parse ws).header.used)))
        (4 + (buckets_in (parse ws).header * bucket_length (parse ws).header + (parse ws).header.used * 65)) (full_words (move_in empty_full a c)) =
        en ∙ ap₂ (λ x k. splice x k (full_words (move_in empty_full a c))) (em ∙ ap₂ (λ n b. splice ws n (bucket_words b)) (q ∙ bucket_offset) over)
        (p ∙ full_offset v.used ∙ ap (λ u. 4 + (buckets_in (parse ws).header * bucket_length (parse ws).header + u * 65)) used-at) in
        ap (λ (x : List ℕ). record { number = 0; value = c; words = x })
        (totals_at n (λ u. u + 1) ∙ ap (λ x. set (set x 2 t) 3 (join_fields full_fields ((parse ws).header.full ∷ ((parse ws).header.used + 1) ∷ (parse ws).header.spread ∷ []))) words
        ∙ sym (words_over ws (open_good ws v o) l i a c t in_wall e z u))
        ∙ done (and_no (overflows (parse ws) i a c) (parse ws).header.used (parse ws).header.full (λ y. omega arith))

    -- with the flag: the full-size bucket stands at its offset
    pub full_inside : (at : ℕ) → flag b ≡ 1 → at ≡ 4 + (buckets_in (header_of v) * bucket_length (header_of v) + full_number b * 65) → at + 65 ≤ length ws
    full_inside at e q = omega (arith, full-within ws v o (full_number b) (le_trans (number-used e) (open_limits ws v o).spare_full))

    pub step-moved : (m : List ℕ) (at : ℕ) → flag b ≡ 1 → at ≡ 4 + (buckets_in (header_of v) * bucket_length (header_of v) + full_number b * 65)
        → m ≡ splice ws at (full_words (move_in (full_at ws at) a c))
        → record { number = 0; value = c; words = set (set m 2 t) 3 (join_fields full_fields (v.full ∷ v.used ∷ v.spread ∷ [])) } ≡ step_in ws i a c t
    step-moved m at e q em =
        let j : full_number b < v.full = le_trans (number-used e) (open_limits ws v o).spare_full in
        let f : full_at ws at ≡ full_for (parse ws) i =
        ap (full_at ws) q ∙ full-here ws v o (full_number b) j ∙ sym (ap (λ m. by_mark m empty_full (get_or (parse ws).fulls (full_number b) empty_full)) e) in
        let k : full_number b < (parse ws).header.full = omega (arith, full-at) in
        ap (λ (x : List ℕ). record { number = 0; value = c; words = x })
        (totals_at m (λ u. u) ∙ ap (λ x. set (set x 2 t) 3 (join_fields full_fields ((parse ws).header.full ∷ (parse ws).header.used ∷ (parse ws).header.spread ∷ [])))
        (em ∙ ap₂ (λ n g. splice ws n (full_words (move_in g a c))) (q ∙ full_offset (full_number b)) f)
        ∙ sym (words-moved ws (open_good ws v o) l i a c t in_wall 0 e k))
        ∙ done (ap (λ m. by_mark m (no_room (parse ws) i a c) false && eqb (parse ws).header.used (parse ws).header.full) e)
