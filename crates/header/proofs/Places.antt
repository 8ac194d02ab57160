-- Where buckets and full-size buckets stand in the words of a good header, and that they are there.
use mathlib.Core.Path.{◌≡◌, sym, ap, ◌∙◌, subst}
use mathlib.Core.List.{List}
use Prim.Native.Nat.{ℕ, zero, suc, ◌+◌, ◌*◌, ◌^◌, ◌≤◌, ◌<◌}
use native.Mathlib.Nat.{suc-mul, add_assoc, mul-le-mul_right}
use native.Mathlib.Omega.{arith}
use lib.Dec.{lit≤}
use lib.Pow.{pow_mono}
use lib.ListN.{length, get_or, take, drop}
use Rattle.model.specs.Lists.{sum}
use Rattle.model.specs.Shapes.{bucket_size, counter_bits, rows_of}
use Rattle.model.specs.Walls.{Header, Bucket, Wall, buckets_in, bucket_length, count_end, wall_size, read_header, good, read_bucket, read_full, parse, empty_full}
use Rattle.model.specs.Sound.{bucket_at}
use Rattle.model.proofs.Headers.{Limits, good_of}
use Rattle.model.proofs.Headers as model
use Rattle.model.proofs.Slots.{spread-fits}
use Rattle.model.proofs.Parsing.{bucket-at, full_at}
use Rattle.model.proofs.SoundWalls.{parse-header}
use Rattle.shapes.specs.declared.Shape.{Shape}
use Rattle.layout.specs.declared.Wall as layout
use Rattle.shapes.specs.Shapes.{shape_of, rows_in}
use Rattle.layout.specs.Views.{header_of}
use Rattle.shapes.proofs.Shapes.{table_rows, counter-sum, widths_of}
use Rattle.header.specs.declared.Opened.{Opened}
use Rattle.header.specs.Headers.{Known, Open}
use Rattle.header.proofs.Opening.{good-known}

-- ---- what an opened wall is

abbrev pub opened : (w : Opened) → Open w.words.now w.header
opened w = record { fields = w.fields; good = w.good }

-- i of n pieces of m words, and the next
pub piece_within : (i n m : ℕ) → i < n → i * m + m ≤ n * m
piece_within i n m h = let p : suc i * m ≤ n * m = mul-le-mul_right m h in omega (arith, suc-mul i m)

module _ (ws : List ℕ) (v : layout.Wall) (o : Open ws v) where
  pub open_good : model.Good ws
  open_good = good_of ws o.good

  pub open_known : Known v
  open_known = subst Known (sym o.fields) (good-known ws open_good)

  pub open_limits : Limits (header_of v)
  open_limits = subst (λ (v : layout.Wall). Limits (header_of v)) (sym o.fields) open_good.limits

  pub open_spread : v.spread < 2 ^ 32
  open_spread = spread-fits v.bits v.spread open_limits.bits_high open_limits.spread-valid

  -- the header of the code is that of the wall
  pub open_header : header_of v ≡ (parse ws).header
  open_header = ap header_of o.fields ∙ sym (parse-header ws)

  pub open_length : length ws ≡ wall_size (header_of v)
  open_length = open_good.exact ∙ ap (λ (v : layout.Wall). wall_size (header_of v)) (sym o.fields)

  pub bucket-within : (i : ℕ) → i < buckets_in (header_of v) → 4 + i * bucket_length (header_of v) + bucket_length (header_of v) ≤ length ws
  bucket-within i h = omega (arith, open_length, piece_within i (buckets_in (header_of v)) (bucket_length (header_of v)) h)

  pub full-within : (q : ℕ) → q < v.full → 4 + (buckets_in (header_of v) * bucket_length (header_of v) + q * 65) + 65 ≤ length ws
  full-within q h = omega (arith, open_length)

  pub bucket-here : (i : ℕ) → i < buckets_in (header_of v)
      → read_bucket v.width (rows_of v.shape) (take (bucket_length (header_of v)) (drop (4 + i * bucket_length (header_of v)) ws)) ≡ bucket_at (parse ws) i
  bucket-here i h =
      let e : header_of v ≡ read_header ws = ap header_of o.fields in
      ap (λ (h : Header). read_bucket h.width h.rows (take (bucket_length h) (drop (4 + i * bucket_length h) ws))) e
      ∙ sym (bucket-at ws i (Rattle.model.specs.Walls.empty_bucket (parse ws).header.width (parse ws).header.rows) (subst (λ (h : Header). i < buckets_in h) e h))

  pub full-here : (q : ℕ) → q < v.full
      → read_full (take 65 (drop (4 + (buckets_in (header_of v) * bucket_length (header_of v) + q * 65)) ws)) ≡ get_or (parse ws).fulls q empty_full
  full-here q h =
      let e : header_of v ≡ read_header ws = ap header_of o.fields in
      ap (λ n. read_full (take 65 (drop n ws))) (sym (add_assoc 4 (buckets_in (header_of v) * bucket_length (header_of v)) (q * 65)))
      ∙ ap (λ (h : Header). read_full (take 65 (drop (4 + buckets_in h * bucket_length h + q * 65) ws))) e
      ∙ sym (full_at ws q empty_full (subst (λ (h : Header). q < h.full) e h))

  -- the bucket in hand, of the shape that the header names
  pub taken : (i : ℕ) (s : Shape) (b : Bucket) → i < buckets_in (header_of v) → s ≡ shape_of v.shape v.width
      → b ≡ read_bucket s.width (rows_in s) (take (bucket_size s.width (rows_in s)) (drop (4 + i * bucket_length (header_of v)) ws)) → b ≡ bucket_at (parse ws) i
  taken i s b h e q =
      let k = open_known in
      q ∙ ap (λ (s : Shape). read_bucket s.width (rows_in s) (take (bucket_size s.width (rows_in s)) (drop (4 + i * bucket_length (header_of v)) ws))) e
      ∙ ap (λ rs. read_bucket v.width rs (take (bucket_size v.width rs) (drop (4 + i * bucket_length (header_of v)) ws))) (table_rows v.shape v.width k.shape_low k.shape_high)
      ∙ bucket-here i h

  -- the shape's own length is the header's
  pub shape_size : (s : Shape) → s ≡ shape_of v.shape v.width → bucket_size s.width (rows_in s) ≡ bucket_length (header_of v)
  shape_size s e =
      let k = open_known in
      ap (λ (s : Shape). bucket_size s.width (rows_in s)) e ∙ ap (bucket_size v.width) (table_rows v.shape v.width k.shape_low k.shape_high)

-- ---- the counts are small

widths_18 : (p : ℕ) → 3 ≤ p → p ≤ 5 → sum (widths_of (rows_of p)) ≤ 18
widths_18 zero h k = absurd (omega arith)
widths_18 (suc zero) h k = absurd (omega arith)
widths_18 (suc (suc zero)) h k = absurd (omega arith)
widths_18 (suc (suc (suc zero))) h k = lit≤ tt
widths_18 (suc (suc (suc (suc zero)))) h k = lit≤ tt
widths_18 (suc (suc (suc (suc (suc zero))))) h k = lit≤ tt
widths_18 (suc (suc (suc (suc (suc (suc n)))))) h k = absurd (omega arith)

pub counter_47 : (v : layout.Wall) → Known v → counter_bits v.width (rows_of v.shape) ≤ 47
counter_47 v k = omega (arith, counter-sum v.width (rows_of v.shape), widths_18 v.shape k.shape_low k.shape_high, k.width_high)

pub count_end_most : (ws : List ℕ) (v : layout.Wall) → Open ws v → count_end (header_of v) ≤ 2 ^ 47
count_end_most ws v o = pow_mono (counter_47 v (open_known ws v o))
