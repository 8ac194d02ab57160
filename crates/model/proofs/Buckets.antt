-- One bucket: its own counts are what its levels hold, and a sound one stays sound.
use mathlib.Core.Logic.{◌≢◌}
use mathlib.Core.Path.{◌≡◌, refl, sym, ap, ap₂, ◌∙◌, subst, subst₂}
use mathlib.Core.Bool.{Bool, true, false}
use mathlib.Core.List.{List, [], ◌∷◌, map}
use Prim.Native.Nat.{ℕ, zero, suc, ◌+◌, ◌*◌, ◌/◌, ◌%◌, ◌^◌, ◌≤◌, ◌<◌, zero-le, suc-le-suc}
use native.Mathlib.Nat.{le_trans, le_of_eq, le_of_suc-le-suc, not-suc-le-zero, zero-lt-suc, one-mul, zero-mul, mod-eq_of_lt, mod-lt, mul_comm, mul-zero, mul-suc, zero-div, div-one, add_comm}
use native.Mathlib.Omega.{arith}
use lib.Dec.{T, leb, ltb, eqb, leb→le, le→leb, ltb→lt, lt→ltb, eqb→eq, eqb_refl, lit<}
use lib.Pow.{pow_pos, pow_mono, shr-shr}
use lib.ListN.{length, get_or, set, length-map, length-set, length-replicate, get_or-replicate}
use lib.Seq.{ext_get_or, get_or-set_same, get_or-set_other}
use Rattle.model.specs.Lists.{sum, tabulate, every, by_mark}
use Rattle.model.specs.Packed.{pack, unpack, entry, cut_fields, join_fields, bit, rank}
use Rattle.model.specs.Shapes.{Row, mark_bits, mark_widths, all_rows}
use Rattle.model.specs.Levels.{parts, marks, uppers, onward, Level, level, encode, read_at, sound_levels}
use Rattle.model.specs.Walls.{Bucket, Full, empty_full}
use Rattle.model.specs.Sound.{upper_marks, flag, spare_bits, full_number, packed_word, pair_levels, levels_of, own_counts, moved_at, full_count, bucket_counts, sound_place, sound_bucket}
use Rattle.model.specs.Calls.{holding, overflowed, move_in}
use Rattle.model.proofs.Lists.{Below, least_of, length_tab, get_or_tab}
use Rattle.model.proofs.Packing.{pack_lt, pack-unpack, unpack-pack, below-unpack, length-unpack, rank-ones, rank-all}
use Rattle.model.proofs.Ranks.{below-sign}
use Rattle.model.proofs.Values.{below_parts, length-onward}
use Rattle.model.proofs.Coding.{read, Fits, Sound, read_fits, encode-sound, sound_values, Values}
use Rattle.model.proofs.Fields.{Fill, cut_join, join_lt}
use Rattle.model.proofs.Tests.{every-at, every_of}
use Rattle.model.proofs.Tools.{all_tests, tests_all}
use Rattle.model.proofs.Headers.{Fine, eq-eqb}
use Rattle.model.proofs.Sums.{tab_ext, tab_set, tab_get_or, sum-at}

-- ---- the walk and the test are those of the levels

sign_mul : (m x : ℕ) → m < 2 → by_mark m 0 x ≡ m * x
sign_mul zero x h = sym (zero-mul x)
sign_mul (suc zero) x h = sym (one-mul x)
sign_mul (suc (suc m)) x h = absurd (not-suc-le-zero (le_of_suc-le-suc (le_of_suc-le-suc h)))

pub read_at_read : (rs : List Row) (ls : List Level) (a : ℕ) → read_at rs ls a ≡ read rs ls a
unfolding read_at read
read_at_read [] ls a = refl
read_at_read (r ∷ rs) [] a = refl
read_at_read (r ∷ rs) (l ∷ ls) a =
    ap (λ x. x * 2 ^ r.width + entry r.width l.cells a)
    (sign_mul (bit l.marks a) (read_at rs ls (rank l.marks a)) (mod-lt (l.marks / 2 ^ a) (lit< tt))
    ∙ ap (λ x. bit l.marks a * x) (read_at_read rs ls (rank l.marks a) ∙ ap (read rs ls) (sym (rank-ones l.marks a))))

abbrev level_tests : ℕ → Row → List Row → ℕ → Level → List Level → List Bool
level_tests lo r rs n l ls =
    leb n r.entries ∷ ltb l.cells (2 ^ (r.width * n)) ∷ ltb l.marks (2 ^ n)
    ∷ every n (λ a. leb lo (entry r.width l.cells a + bit l.marks a))
    ∷ sound_levels 1 rs (rank l.marks n) ls ∷ []

pub levels_sound : (lo : ℕ) (rs : List Row) (n : ℕ) (ls : List Level) → T (sound_levels lo rs n ls) → Sound lo rs n ls
unfolding sound_levels
levels_sound lo [] n [] t = leb→le n 0 t
levels_sound lo [] n (l ∷ ls) t = t
levels_sound lo (r ∷ rs) n [] t = t
levels_sound lo (r ∷ rs) n (l ∷ ls) t =
    let a = all_tests (level_tests lo r rs n l ls) t in
    let g : l.marks < 2 ^ n = ltb→lt l.marks (2 ^ n) a.1.1.0 in (
      leb→le n r.entries a.0,
      ltb→lt l.cells (2 ^ (r.width * n)) a.1.0,
      g,
      (λ i h. leb→le lo (entry r.width l.cells i + bit l.marks i) (every-at n (λ i. leb lo (entry r.width l.cells i + bit l.marks i)) a.1.1.1.0 i h)),
      rw (← rank-all l.marks n g) (levels_sound 1 rs (rank l.marks n) ls a.1.1.1.1.0),
    )

pub sound-levels : (lo : ℕ) (rs : List Row) (n : ℕ) (ls : List Level) → Sound lo rs n ls → T (sound_levels lo rs n ls)
unfolding sound_levels
sound-levels lo [] n [] s = le→leb n 0 s
sound-levels lo [] n (l ∷ ls) s = s
sound-levels lo (r ∷ rs) n [] s = s
sound-levels lo (r ∷ rs) n (l ∷ ls) s =
    tests_all (level_tests lo r rs n l ls) (
      le→leb n r.entries s.0,
      (
        lt→ltb l.cells (2 ^ (r.width * n)) s.1,
        (
          lt→ltb l.marks (2 ^ n) s.2,
          (
            every_of n (λ i. leb lo (entry r.width l.cells i + bit l.marks i)) (λ i h. le→leb lo (entry r.width l.cells i + bit l.marks i) (s.3 i h)),
            (
              sound-levels 1 rs (rank l.marks n) ls (rw (rank-all l.marks n s.2) s.4),
              tt,
            ),
          ),
        ),
      ),
    )

-- ---- what sound levels hold

pub length-own : (w : ℕ) (rs : List Row) (b : Bucket) → length (own_counts w rs b) ≡ 64
unfolding own_counts
length-own w rs b = length_tab 64 (read_at (all_rows w rs) (levels_of rs b))

pub own_read : (w : ℕ) (rs : List Row) (b : Bucket) → own_counts w rs b ≡ tabulate 64 (read (all_rows w rs) (levels_of rs b))
unfolding own_counts
own_read w rs b = tab_ext 64 (read_at (all_rows w rs) (levels_of rs b)) (read (all_rows w rs) (levels_of rs b)) (λ k l. read_at_read (all_rows w rs) (levels_of rs b) k)

own_values : (w : ℕ) (rs : List Row) (b : Bucket) (u : Values 0 (all_rows w rs) 64 (levels_of rs b)) → own_counts w rs b ≡ u.values
own_values w rs b u = own_read w rs b ∙ sym (ext_get_or 0 u.values (tabulate 64 (read (all_rows w rs) (levels_of rs b))) (u.number ∙ sym (length_tab 64 (read (all_rows w rs) (levels_of rs b)))) (λ i h.
    sym (read_fits (all_rows w rs) u.values i u.fits) ∙ ap (λ x. read (all_rows w rs) x i) u.coded ∙ sym (get_or_tab 64 (read (all_rows w rs) (levels_of rs b)) i (le_trans h (le_of_eq u.number)))))

pub own-fits : (w : ℕ) (rs : List Row) (b : Bucket) → Sound 0 (all_rows w rs) 64 (levels_of rs b) → Fits (all_rows w rs) (own_counts w rs b)
own-fits w rs b s = let u = sound_values 0 (all_rows w rs) 64 (levels_of rs b) s in rw (own_values w rs b u) u.fits

pub own_coded : (w : ℕ) (rs : List Row) (b : Bucket) → Sound 0 (all_rows w rs) 64 (levels_of rs b) → encode (all_rows w rs) (own_counts w rs b) ≡ levels_of rs b
own_coded w rs b s = let u = sound_values 0 (all_rows w rs) 64 (levels_of rs b) s in rw (own_values w rs b u) u.coded

-- ---- the packed word

pub packed_goes : (g f n : ℕ) → g < 2 ^ 40 → f < 2 → upper_marks (packed_word g f n) ≡ g
packed_goes g f n h k = omega arith

pub packed-flag : (g f n : ℕ) → g < 2 ^ 40 → f < 2 → packed_word g f n / 2 ^ 40 % 2 ≡ f
packed-flag g f n h k = omega arith

pub packed_spare : (g f n : ℕ) → g < 2 ^ 40 → f < 2 → spare_bits (packed_word g f n) ≡ 0
packed_spare g f n h k = omega arith

pub packed-number : (g f n : ℕ) → g < 2 ^ 40 → f < 2 → packed_word g f n / 2 ^ 48 ≡ n
packed-number g f n h k = omega arith

-- ---- the bucket that holds given values

pack-none : (ms : List ℕ) → Below 2 ms → sum ms ≤ 0 → pack 1 ms < 1
pack-none [] h z = zero-lt-suc 0
pack-none (m ∷ ms) h z = let e = pack-none ms h.1 (omega arith) in omega arith

goes_room : (r : Row) (rs : List Row) (us : List ℕ) → Fits (r ∷ rs) us → pack 1 (marks r.width us) < 2 ^ mark_bits r rs
goes_room r [] us f = pack-none (marks r.width us) (below-sign (uppers r.width us)) (rw (← length-onward r.width us) f.1)
goes_room r (s ∷ rs) us f =
    le_trans (pack_lt 1 (marks r.width us) (below-sign (uppers r.width us))) (pow_mono (simp (one-mul, length-map) f.0))

fill_encode : (rs : List Row) (us : List ℕ) → Fits rs us → Fill (mark_widths rs) (map (λ (x : Level). x.marks) (encode rs us))
unfolding encode
fill_encode [] us f = tt
fill_encode (r ∷ rs) us f = (goes_room r rs us f, fill_encode rs (onward r.width us) f.1)

pair_map : (ls : List Level) → pair_levels (map (λ (x : Level). x.cells) ls) (map (λ (x : Level). x.marks) ls) ≡ ls
pair_map [] = refl
pair_map (l ∷ ls) = ap (λ (r : List Level). l ∷ r) (pair_map ls)

pub length-encode : (rs : List Row) (us : List ℕ) → length (encode rs us) ≡ length rs
unfolding encode
length-encode [] us = refl
length-encode (r ∷ rs) us = ap suc (length-encode rs (onward r.width us))

module _ (w : ℕ) (rs : List Row) (fine : Fine rs) (vs : List ℕ) (f : Fits (all_rows w rs) vs) (n : length vs ≡ 64) where
  marks_of : ℕ
  marks_of = join_fields (mark_widths rs) (map (λ (x : Level). x.marks) (encode rs (onward w vs)))

  marks-low : marks_of < 2 ^ sum (mark_widths rs)
  unfolding marks_of
  marks-low = join_lt (mark_widths rs) (map (λ (x : Level). x.marks) (encode rs (onward w vs))) (fill_encode rs (onward w vs) f.1)

  marks_40 : marks_of < 2 ^ 40
  marks_40 = le_trans marks-low (pow_mono fine.room)

  pub hold_levels : levels_of rs (holding w rs vs) ≡ encode (all_rows w rs) vs
  unfolding holding encode marks_of
  hold_levels =
      let low : pack w (parts w vs) < 2 ^ (64 * w) = rw (mul_comm 64 w) (le_trans (pack_lt w (parts w vs) (below_parts w vs)) (pow_mono (le_of_eq (ap (λ k. w * k) (simp length-map n))))) in
      ap₂ ◌∷◌ (ap (λ c. level c (pack 1 (marks w vs))) (pack-unpack 64 w (pack w (parts w vs)) ∙ mod-eq_of_lt low))
      (ap (λ x. pair_levels (map (λ (x : Level). x.cells) (encode rs (onward w vs))) (cut_fields (mark_widths rs) x)) (packed_goes marks_of 0 0 marks_40 (lit< tt))
      ∙ ap (pair_levels (map (λ (x : Level). x.cells) (encode rs (onward w vs)))) (cut_join (mark_widths rs) (map (λ (x : Level). x.marks) (encode rs (onward w vs))) (fill_encode rs (onward w vs) f.1))
      ∙ pair_map (encode rs (onward w vs)))

  pub own_hold : own_counts w rs (holding w rs vs) ≡ vs
  own_hold =
      own_read w rs (holding w rs vs) ∙ ap (λ l. tabulate 64 (read (all_rows w rs) l)) hold_levels
      ∙ tab_ext 64 (read (all_rows w rs) (encode (all_rows w rs) vs)) (λ a. get_or vs a 0) (λ a l. read_fits (all_rows w rs) vs a f) ∙ tab_get_or vs 64 n

  pub hold_sound : Sound 0 (all_rows w rs) 64 (levels_of rs (holding w rs vs))
  hold_sound = subst₂ (λ k l. Sound 0 (all_rows w rs) k l) n (sym hold_levels) (encode-sound 0 (all_rows w rs) vs zero-le (least_of 0 vs (λ a l. zero-le)) f)

  pub hold_goes : upper_marks (holding w rs vs).packed < 2 ^ sum (mark_widths rs)
  unfolding holding encode marks_of
  hold_goes = rw (packed_goes marks_of 0 0 marks_40 (lit< tt)) marks-low

  pub hold_flag : flag (holding w rs vs) ≡ 0
  unfolding holding encode marks_of
  hold_flag = packed-flag marks_of 0 0 marks_40 (lit< tt)

  pub hold_spare : spare_bits (holding w rs vs).packed ≡ 0
  unfolding holding encode marks_of
  hold_spare = packed_spare marks_of 0 0 marks_40 (lit< tt)

  pub hold_number : full_number (holding w rs vs) ≡ 0
  unfolding holding encode marks_of
  hold_number = packed-number marks_of 0 0 marks_40 (lit< tt)

-- ---- the flag and the number go in: the levels stay

goes_40 : (b : Bucket) → upper_marks b.packed < 2 ^ 40
goes_40 b = mod-lt b.packed (pow_pos 40)

module _ (b : Bucket) (n : ℕ) where
  pub over_goes : upper_marks (overflowed b n).packed ≡ upper_marks b.packed
  unfolding overflowed
  over_goes = packed_goes (upper_marks b.packed) 1 n (goes_40 b) (lit< tt)

  pub over_flag : flag (overflowed b n) ≡ 1
  unfolding overflowed
  over_flag = packed-flag (upper_marks b.packed) 1 n (goes_40 b) (lit< tt)

  pub over_spare : spare_bits (overflowed b n).packed ≡ 0
  unfolding overflowed
  over_spare = packed_spare (upper_marks b.packed) 1 n (goes_40 b) (lit< tt)

  pub over_number : full_number (overflowed b n) ≡ n
  unfolding overflowed
  over_number = packed-number (upper_marks b.packed) 1 n (goes_40 b) (lit< tt)

  pub over_levels : (rs : List Row) → levels_of rs (overflowed b n) ≡ levels_of rs b
  unfolding overflowed
  over_levels rs = ap (λ x. level (pack 64 b.first) b.marks ∷ pair_levels b.uppers (cut_fields (mark_widths rs) x)) over_goes

  pub over_own : (w : ℕ) (rs : List Row) → own_counts w rs (overflowed b n) ≡ own_counts w rs b
  unfolding own_counts
  over_own w rs = ap (λ l. tabulate 64 (read_at (all_rows w rs) l)) (over_levels rs)

-- ---- the counts

-- a number's bits, taken apart, are its bits
pub unpack-at : (w n x a : ℕ) → a < n → get_or (unpack w n x) a 0 ≡ entry w x a
unpack-at w zero x a h = absurd (not-suc-le-zero h)
unpack-at w (suc n) x zero h = rw (mul-zero, div-one)
unpack-at w (suc n) x (suc a) h = rw (unpack-at w n (x / 2 ^ w) a (le_of_suc-le-suc h), shr-shr, mul-suc, add_comm w (w * a))

pub unpack-bit : (x a : ℕ) → a < 64 → get_or (unpack 1 64 x) a 0 ≡ bit x a
unpack-bit x a h = unpack-at 1 64 x a h ∙ ap (λ n. x / 2 ^ n % 2) (one-mul a)

moved_none : (a : ℕ) → moved_at empty_full a ≡ 0
moved_none a = ap (λ n. n % 2) (zero-div (2 ^ a))

pub counts-none : (os : List ℕ) → length os ≡ 64 → bucket_counts os empty_full ≡ os
unfolding bucket_counts
counts-none os e =
    tab_ext 64 (λ a. by_mark (moved_at empty_full a) (get_or os a 0) (full_count empty_full a)) (λ a. get_or os a 0)
    (λ a l. ap (λ m. by_mark m (get_or os a 0) (full_count empty_full a)) (moved_none a)) ∙ tab_get_or os 64 e

pub length-counts : (os : List ℕ) (f : Full) → length (bucket_counts os f) ≡ 64
unfolding bucket_counts
length-counts os f = length_tab 64 (λ a. by_mark (moved_at f a) (get_or os a 0) (full_count f a))

pub count_at : (os : List ℕ) (f : Full) (a : ℕ) → a < 64 → get_or (bucket_counts os f) a 0 ≡ by_mark (moved_at f a) (get_or os a 0) (full_count f a)
unfolding bucket_counts
count_at os f a l = get_or_tab 64 (λ a. by_mark (moved_at f a) (get_or os a 0) (full_count f a)) a l

below_set : (l : List ℕ) (a : ℕ) → Below 2 l → Below 2 (set l a 1)
below_set [] a h = tt
below_set (x ∷ l) zero h = (lit< tt, h.1)
below_set (x ∷ l) (suc a) h = (h.0, below_set l a h.1)

module _ (f : Full) (a v : ℕ) (l : a < 64) (n : length f.counts ≡ 64) where
  pub moved-bits : unpack 1 64 (move_in f a v).moved ≡ set (unpack 1 64 f.moved) a 1
  unfolding move_in
  moved-bits =
      ap (λ k. unpack 1 k (pack 1 (set (unpack 1 64 f.moved) a 1))) (sym (length-set (unpack 1 64 f.moved) a 1 ∙ length-unpack 1 64 f.moved))
      ∙ unpack-pack 1 (set (unpack 1 64 f.moved) a 1) (below_set (unpack 1 64 f.moved) a (below-unpack 1 64 f.moved))

  pub moved_here : moved_at (move_in f a v) a ≡ 1
  moved_here = sym (unpack-bit (move_in f a v).moved a l) ∙ ap (λ x. get_or x a 0) moved-bits ∙ get_or-set_same (unpack 1 64 f.moved) a 1 0 (rw length-unpack l)

  pub moved_other : (k : ℕ) → k < 64 → k ≢ a → moved_at (move_in f a v) k ≡ moved_at f k
  moved_other k m z =
      sym (unpack-bit (move_in f a v).moved k m) ∙ ap (λ x. get_or x k 0) moved-bits ∙ get_or-set_other (unpack 1 64 f.moved) a k 1 0 z ∙ unpack-bit f.moved k m

  pub full-here : full_count (move_in f a v) a ≡ v
  unfolding move_in
  full-here = get_or-set_same f.counts a v 0 (rw n l)

  pub full-other : (k : ℕ) → k ≢ a → full_count (move_in f a v) k ≡ full_count f k
  unfolding move_in
  full-other k z = get_or-set_other f.counts a k v 0 z

  pub counts-moved : (os : List ℕ) → bucket_counts os (move_in f a v) ≡ set (bucket_counts os f) a v
  unfolding bucket_counts
  counts-moved os =
      tab_set 64 (λ k. by_mark (moved_at f k) (get_or os k 0) (full_count f k)) (λ k. by_mark (moved_at (move_in f a v) k) (get_or os k 0) (full_count (move_in f a v) k)) a v
      (λ k m z. ap₂ (λ m c. by_mark m (get_or os k 0) c) (moved_other k m z) (full-other k z))
      (λ _. ap₂ (λ m c. by_mark m (get_or os a 0) c) moved_here full-here)

  pub moved-some : 1 ≤ rank (move_in f a v).moved 64
  moved-some = le_trans (le_of_eq (sym (unpack-bit (move_in f a v).moved a l ∙ moved_here))) (sum-at (unpack 1 64 (move_in f a v).moved) a)

  pub moved_length : length (move_in f a v).counts ≡ 64
  unfolding move_in
  moved_length = length-set f.counts a v ∙ n

  pub moved-places : (os : List ℕ) → ((k : ℕ) → k < 64 → T (sound_place os f k)) → get_or os a 0 < v → (k : ℕ) → k < 64 → T (sound_place os (move_in f a v) k)
  moved-places os p h k m = go (eqb k a) refl
    where
      go : (e : Bool) → eqb k a ≡ e → T (sound_place os (move_in f a v) k)
      go true e =
          let q : k ≡ a = eqb→eq k a (rw e tt) in
          subst (λ x. T (sound_place os (move_in f a v) x)) (sym q)
          (subst₂ (λ y c. T (by_mark y (eqb c 0) (ltb (get_or os a 0) c))) (sym moved_here) (sym full-here) (lt→ltb (get_or os a 0) v h))
      go false e =
          let z : k ≢ a = λ q. subst T (sym (sym e ∙ ap (λ x. eqb x a) q)) (eqb_refl a) in
          subst₂ (λ y c. T (by_mark y (eqb c 0) (ltb (get_or os k 0) c))) (sym (moved_other k m z)) (sym (full-other k z)) (p k m)

-- a bucket's own count is never above the count
pub own_le : (os : List ℕ) (f : Full) (a : ℕ) → a < 64 → T (sound_place os f a) → get_or os a 0 ≤ get_or (bucket_counts os f) a 0
own_le os f a l t = subst (λ x. get_or os a 0 ≤ x) (sym (count_at os f a l)) (go (moved_at f a) t)
  where
    go : (m : ℕ) → T (by_mark m (eqb (full_count f a) 0) (ltb (get_or os a 0) (full_count f a))) → get_or os a 0 ≤ by_mark m (get_or os a 0) (full_count f a)
    go zero t = omega arith
    go (suc m) t = omega (arith, ltb→lt (get_or os a 0) (full_count f a) t)

-- ---- a sound bucket, fact by fact

pub record SoundB (w : ℕ) (rs : List Row) (total used : ℕ) (b : Bucket) (f : Full) : Type 0 where
  pub levels : Sound 0 (all_rows w rs) 64 (levels_of rs b)
  pub marks : upper_marks b.packed < 2 ^ sum (mark_widths rs)
  pub spare : spare_bits b.packed ≡ 0
  pub number : T (by_mark (flag b) (eqb (full_number b) 0) (ltb (full_number b) used))
  pub some : flag b ≤ rank f.moved 64
  pub places : (a : ℕ) → a < 64 → T (sound_place (own_counts w rs b) f a)
  pub most : sum (bucket_counts (own_counts w rs b) f) ≤ total

module _ (w : ℕ) (rs : List Row) (total used : ℕ) (b : Bucket) (f : Full) where
  abbrev bucket_tests : List Bool
  bucket_tests =
      sound_levels 0 (all_rows w rs) 64 (levels_of rs b)
      ∷ ltb (upper_marks b.packed) (2 ^ sum (mark_widths rs)) ∷ eqb (spare_bits b.packed) 0
      ∷ by_mark (flag b) (eqb (full_number b) 0) (ltb (full_number b) used)
      ∷ leb (flag b) (rank f.moved 64)
      ∷ every 64 (sound_place (own_counts w rs b) f)
      ∷ leb (sum (bucket_counts (own_counts w rs b) f)) total ∷ []

  pub bucket_facts : T (sound_bucket w rs total used b f) → SoundB w rs total used b f
  unfolding sound_bucket
  bucket_facts t =
      let a = all_tests bucket_tests t in
      record {
        levels = levels_sound 0 (all_rows w rs) 64 (levels_of rs b) a.0;
        marks = ltb→lt (upper_marks b.packed) (2 ^ sum (mark_widths rs)) a.1.0;
        spare = eqb→eq (spare_bits b.packed) 0 a.1.1.0;
        number = a.1.1.1.0;
        some = leb→le (flag b) (rank f.moved 64) a.1.1.1.1.0;
        places = every-at 64 (sound_place (own_counts w rs b) f) a.1.1.1.1.1.0;
        most = leb→le (sum (bucket_counts (own_counts w rs b) f)) total a.1.1.1.1.1.1.0;
      }

  pub facts_bucket : SoundB w rs total used b f → T (sound_bucket w rs total used b f)
  unfolding sound_bucket
  facts_bucket s =
      tests_all bucket_tests (
        sound-levels 0 (all_rows w rs) 64 (levels_of rs b) s.levels,
        (
          lt→ltb (upper_marks b.packed) (2 ^ sum (mark_widths rs)) s.marks,
          (
            eq-eqb s.spare,
            (
              s.number,
              (
                le→leb (flag b) (rank f.moved 64) s.some,
                (
                  every_of 64 (sound_place (own_counts w rs b) f) s.places,
                  (
                    le→leb (sum (bucket_counts (own_counts w rs b) f)) total s.most,
                    tt,
                  ),
                ),
              ),
            ),
          ),
        ),
      )

-- ---- a sound bucket stays sound

number_more : (m n u x : ℕ) → u ≤ x → T (by_mark m (eqb n 0) (ltb n u)) → T (by_mark m (eqb n 0) (ltb n x))
number_more zero n u x h t = t
number_more (suc m) n u x h t = lt→ltb n x (le_trans (ltb→lt n u t) h)

pub flag_le : (b : Bucket) → flag b ≤ 1
flag_le b = le_of_suc-le-suc (mod-lt (b.packed / 2 ^ 40) (lit< tt))

pub sound_more : {w : ℕ} {rs : List Row} {t u : ℕ} {b : Bucket} {f : Full} (x y : ℕ) → t ≤ x → u ≤ y → SoundB w rs t u b f → SoundB w rs x y b f
sound_more {u = u} {b = b} x y h k s = record {
  levels = s.levels;
  marks = s.marks;
  spare = s.spare;
  number = number_more (flag b) (full_number b) u y k s.number;
  some = s.some;
  places = s.places;
  most = le_trans s.most h;
}

pub none-places : (os : List ℕ) (a : ℕ) → a < 64 → T (sound_place os empty_full a)
none-places os a l = subst₂ (λ m c. T (by_mark m (eqb c 0) (ltb (get_or os a 0) c))) (sym (moved_none a)) (sym (get_or-replicate 64 a 0 0 l)) tt

pub sound_hold : (w : ℕ) (rs : List Row) (fine : Fine rs) (vs : List ℕ) (f : Fits (all_rows w rs) vs) (n : length vs ≡ 64) (t u : ℕ)
    → sum vs ≤ t → SoundB w rs t u (holding w rs vs) empty_full
sound_hold w rs fine vs f n t u h = record {
  levels = hold_sound w rs fine vs f n;
  marks = hold_goes w rs fine vs f n;
  spare = hold_spare w rs fine vs f n;
  number = subst₂ (λ m k. T (by_mark m (eqb k 0) (ltb k u))) (sym (hold_flag w rs fine vs f n)) (sym (hold_number w rs fine vs f n)) tt;
  some = le_trans (le_of_eq (hold_flag w rs fine vs f n)) zero-le;
  places = none-places (own_counts w rs (holding w rs vs));
  most = le_trans (le_of_eq (ap sum (counts-none (own_counts w rs (holding w rs vs)) (length-own w rs (holding w rs vs)) ∙ own_hold w rs fine vs f n))) h;
}

pub sound_over : (w : ℕ) (rs : List Row) (t u x : ℕ) (b : Bucket) → SoundB w rs t u b empty_full → (a v : ℕ) → a < 64 → get_or (own_counts w rs b) a 0 < v
    → sum (set (own_counts w rs b) a v) ≤ x → SoundB w rs x (u + 1) (overflowed b u) (move_in empty_full a v)
sound_over w rs t u x b s a v l h m = record {
  levels = subst (Sound 0 (all_rows w rs) 64) (sym (over_levels b u rs)) s.levels;
  marks = subst (λ g. g < 2 ^ sum (mark_widths rs)) (sym (over_goes b u)) s.marks;
  spare = over_spare b u;
  number = subst₂ (λ m k. T (by_mark m (eqb k 0) (ltb k (u + 1)))) (sym (over_flag b u)) (sym (over_number b u)) (lt→ltb u (u + 1) (omega arith));
  some = le_trans (flag_le (overflowed b u)) (moved-some empty_full a v l (length-replicate {A = ℕ} 64 0));
  places = subst (λ os. (k : ℕ) → k < 64 → T (sound_place os (move_in empty_full a v) k)) (sym (over_own b u w rs)) (moved-places empty_full a v l (length-replicate {A = ℕ} 64 0) (own_counts w rs b) (none-places (own_counts w rs b)) h);
  most = le_trans (le_of_eq (ap sum (counts-moved empty_full a v l (length-replicate {A = ℕ} 64 0) (own_counts w rs (overflowed b u))
      ∙ ap (λ os. set (bucket_counts os empty_full) a v) (over_own b u w rs) ∙ ap (λ os. set os a v) (counts-none (own_counts w rs b) (length-own w rs b))))) m;
}

pub sound-moved : (w : ℕ) (rs : List Row) (t u x : ℕ) (b : Bucket) (f : Full) → SoundB w rs t u b f → (a v : ℕ) → a < 64 → length f.counts ≡ 64
    → get_or (bucket_counts (own_counts w rs b) f) a 0 < v → sum (set (bucket_counts (own_counts w rs b) f) a v) ≤ x → SoundB w rs x u b (move_in f a v)
sound-moved w rs t u x b f s a v l n h m = record {
  levels = s.levels;
  marks = s.marks;
  spare = s.spare;
  number = s.number;
  some = le_trans (flag_le b) (moved-some f a v l n);
  places = moved-places f a v l n (own_counts w rs b) s.places (le_trans (suc-le-suc (own_le (own_counts w rs b) f a l (s.places a l))) h);
  most = le_trans (le_of_eq (ap sum (counts-moved f a v l n (own_counts w rs b)))) m;
}
