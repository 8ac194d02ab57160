-- The fresh wall of a header is sound and holds nothing.
use mathlib.Core.Path.{◌≡◌, refl, sym, ap, ap₂, ◌∙◌, subst, subst₂}
use mathlib.Core.List.{List, [], ◌∷◌, ◌++◌, map}
use Prim.Native.Nat.{ℕ, zero, suc, ◌+◌, ◌*◌, ◌≤◌, zero-le}
use native.Mathlib.Nat.{zero-mul, suc-mul, zero-div, zero-mod, mul_comm, add_comm, not-suc-le-zero}
use lib.Dec.{T, lit≤}
use lib.Pow.{pow_pos}
use lib.ListN.{length, get_or, replicate, length-replicate, replicate-append-replicate}
use Rattle.model.specs.Lists.{sum, tabulate, concat}
use Rattle.model.specs.Packed.{pack, cut_fields}
use Rattle.model.specs.Shapes.{Row, bucket_size, mark_widths, all_rows}
use Rattle.model.specs.Levels.{parts, marks, onward, Level, level, encode}
use Rattle.model.specs.Walls.{Header, Full, Wall, buckets_in, header_words, bucket_words, full_words, flatten, empty_full, empty_bucket, with_totals, fresh}
use Rattle.model.specs.Sound.{is_empty_full, flag, pair_levels, levels_of, own_counts, full_of, bucket_counts, bucket_at, full_for, counts_at, all_counts}
use Rattle.model.proofs.Lists.{least_of}
use Rattle.model.proofs.Coding.{Fits, Sound, read, read_fits, encode-sound}
use Rattle.model.proofs.Tools.{Each}
use Rattle.model.proofs.Headers.{Limits}
use Rattle.model.proofs.Parsing.{Lengths, wall_of}
use Rattle.model.proofs.Sums.{tab_ext, tab_get_or, sum-zero}
use Rattle.model.proofs.Buckets.{SoundB, own_read, length-own, counts-none, none-places}
use Rattle.model.proofs.SoundWalls.{SoundWall}

abbrev zeros : ℕ → List ℕ
zeros n = replicate n 0

-- ---- the words

cat_replicate : (n k : ℕ) (c : List ℕ) → c ≡ zeros k → concat (replicate n c) ≡ zeros (n * k)
cat_replicate zero k c e = rw zero-mul
cat_replicate (suc n) k c e = ap₂ ◌++◌ e (cat_replicate n k c e) ∙ replicate-append-replicate k (n * k) 0 ∙ ap zeros (add_comm k (n * k) ∙ sym (suc-mul n k))

map-replicate : {A B : Type 0} (f : A → B) (n : ℕ) (x : A) → map f (replicate n x) ≡ replicate n (f x)
map-replicate f zero x = refl
map-replicate f (suc n) x = ap (λ l. f x ∷ l) (map-replicate f n x)

empty-words : (w : ℕ) (rs : List Row) → bucket_words (empty_bucket w rs) ≡ zeros (bucket_size w rs)
empty-words w rs =
    ap (λ (x : List ℕ). zeros w ++ 0 ∷ x) (replicate-append-replicate (length rs) 1 0) ∙ replicate-append-replicate w (suc (length rs + 1)) 0

unfoldable pub fresh_wall : Header → Wall
fresh_wall h = wall_of (with_totals h 0 0) (replicate (buckets_in h) (empty_bucket h.width h.rows)) (replicate h.full empty_full)

pub fresh-flatten : (h : Header) → flatten (fresh_wall h) ≡ fresh h
unfolding fresh flatten fresh_wall
fresh-flatten h =
    let n : ℕ = bucket_size h.width h.rows in
    ap (λ (x : List ℕ). header_words (with_totals h 0 0) ++ x) (
    ap₂ ◌++◌
    (ap concat (map-replicate bucket_words (buckets_in h) (empty_bucket h.width h.rows)) ∙ cat_replicate (buckets_in h) n (bucket_words (empty_bucket h.width h.rows)) (empty-words h.width h.rows))
    (ap concat (map-replicate full_words h.full empty_full) ∙ cat_replicate h.full 65 (full_words empty_full) refl ∙ ap zeros (mul_comm h.full 65))
    ∙ replicate-append-replicate (buckets_in h * n) (65 * h.full) 0)

-- ---- an empty bucket holds zeros

parts_zeros : (w n : ℕ) → pack w (parts w (zeros n)) ≡ 0
parts_zeros w zero = refl
parts_zeros w (suc n) = rw (parts_zeros w n, zero-mod, zero-mul)

marks_zeros : (w n : ℕ) → pack 1 (marks w (zeros n)) ≡ 0
marks_zeros w zero = refl
marks_zeros w (suc n) = rw (marks_zeros w n, zero-div)

onward_zeros : (w n : ℕ) → onward w (zeros n) ≡ []
onward_zeros w zero = refl
onward_zeros w (suc n) = rw (zero-div) (onward_zeros w n)

encode-none : (rs : List Row) → encode rs [] ≡ pair_levels (zeros (length rs)) (cut_fields (mark_widths rs) 0)
unfolding encode
encode-none [] = refl
encode-none (r ∷ rs) = rw (zero-mod, zero-div) (ap (λ (l : List Level). level 0 0 ∷ l) (encode-none rs))

pack_zeros : (w : ℕ) → pack 64 (zeros w) ≡ 0
pack_zeros zero = refl
pack_zeros (suc w) = rw (pack_zeros w)

empty-levels : (w : ℕ) (rs : List Row) → levels_of rs (empty_bucket w rs) ≡ encode (all_rows w rs) (zeros 64)
unfolding encode
empty-levels w rs = ap₂ ◌∷◌ (ap₂ level (pack_zeros w ∙ sym (parts_zeros w 64)) (sym (marks_zeros w 64))) (sym (encode-none rs) ∙ ap (encode rs) (sym (onward_zeros w 64)))

fits-none : (rs : List Row) → Fits rs []
fits-none [] = zero-le
fits-none (r ∷ rs) = (zero-le, fits-none rs)

fits_zeros : (w : ℕ) (rs : List Row) → Fits (all_rows w rs) (zeros 64)
fits_zeros w rs = (lit≤ tt, subst (Fits rs) (sym (onward_zeros w 64)) (fits-none rs))

pub own-empty : (w : ℕ) (rs : List Row) → own_counts w rs (empty_bucket w rs) ≡ zeros 64
own-empty w rs =
    own_read w rs (empty_bucket w rs) ∙ ap (λ l. tabulate 64 (read (all_rows w rs) l)) (empty-levels w rs)
    ∙ tab_ext 64 (read (all_rows w rs) (encode (all_rows w rs) (zeros 64))) (λ a. get_or (zeros 64) a 0) (λ a l. read_fits (all_rows w rs) (zeros 64) a (fits_zeros w rs)) ∙ tab_get_or (zeros 64) 64 refl

empty-counts : (w : ℕ) (rs : List Row) → bucket_counts (own_counts w rs (empty_bucket w rs)) empty_full ≡ zeros 64
empty-counts w rs = counts-none (own_counts w rs (empty_bucket w rs)) (length-own w rs (empty_bucket w rs)) ∙ own-empty w rs

empty-sound : (w : ℕ) (rs : List Row) (t u : ℕ) → SoundB w rs t u (empty_bucket w rs) empty_full
empty-sound w rs t u = record {
  levels = subst (Sound 0 (all_rows w rs) 64) (sym (empty-levels w rs)) (encode-sound 0 (all_rows w rs) (zeros 64) zero-le (least_of 0 (zeros 64) (λ a l. zero-le)) (fits_zeros w rs));
  marks = pow_pos (sum (mark_widths rs));
  spare = refl;
  number = tt;
  some = zero-le;
  places = none-places (own_counts w rs (empty_bucket w rs));
  most = subst (λ l. sum l ≤ t) (sym (empty-counts w rs)) zero-le;
}

-- ---- the fresh wall

get_or_same : {A : Type 0} (n k : ℕ) (x : A) → get_or (replicate n x) k x ≡ x
get_or_same zero k x = refl
get_or_same (suc n) zero x = refl
get_or_same (suc n) (suc k) x = get_or_same n k x

each_replicate : {A : Type 0} (P : A → Type 0) (n : ℕ) (x : A) → P x → Each P (replicate n x)
each_replicate P zero x p = tt
each_replicate P (suc n) x p = (p, each_replicate P n x p)

module _ (h : Header) where
  fresh-bucket : (k : ℕ) → bucket_at (fresh_wall h) k ≡ empty_bucket h.width h.rows
  unfolding fresh_wall
  fresh-bucket k = get_or_same (buckets_in h) k (empty_bucket h.width h.rows)

  pub fresh-flag : (k : ℕ) → flag (bucket_at (fresh_wall h) k) ≡ 0
  fresh-flag k = ap flag (fresh-bucket k)

  fresh-full : (k : ℕ) → full_for (fresh_wall h) k ≡ empty_full
  fresh-full k = ap (full_of (fresh_wall h).fulls) (fresh-bucket k)

  pub fresh-counts : (k : ℕ) → counts_at (fresh_wall h) k ≡ zeros 64
  unfolding counts_at fresh_wall
  fresh-counts k = ap₂ (λ b f. bucket_counts (own_counts h.width h.rows b) f) (fresh-bucket k) (fresh-full k) ∙ empty-counts h.width h.rows

  fresh-sum : all_counts (fresh_wall h) ≡ 0
  unfolding all_counts fresh_wall
  fresh-sum = sum-zero (buckets_in h) (λ k. sum (counts_at (fresh_wall h) k)) (λ k l. ap sum (fresh-counts k))

  pub fresh-sound : Limits (with_totals h 0 0) → SoundWall (fresh_wall h)
  unfolding fresh_wall
  fresh-sound l = record {
    shaped = record {
      buckets-number = length-replicate (buckets_in h) (empty_bucket h.width h.rows);
      fulls-number = length-replicate h.full empty_full;
      buckets = each_replicate (Lengths h.width (length h.rows)) (buckets_in h) (empty_bucket h.width h.rows) (record { first = length-replicate h.width 0; uppers = length-replicate (length h.rows) 0 });
      fulls = each_replicate (λ (f : Full). length f.counts ≡ 64) h.full empty_full refl;
    };
    limits = l;
    each = λ k _. subst₂ (λ b f. SoundB h.width h.rows 0 0 b f) (sym (fresh-bucket k)) (sym (fresh-full k)) (empty-sound h.width h.rows 0 0);
    sums = fresh-sum;
    held = λ q z. absurd (not-suc-le-zero z);
    zeros = λ q z y. subst (λ f. T (is_empty_full f)) (sym (get_or_same h.full q empty_full)) tt;
  }
