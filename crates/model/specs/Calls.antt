-- Each call as a function of the words and its arguments: the number, the value, and the words after.
use Rattle.std.specs.Prelude.{Bool, false, ◌&&◌, not, List, [], ◌∷◌, ◌++◌, map, ℕ, zero, suc, ◌+◌, ◌*◌, ◌^◌, T, leb, ltb, eqb, length, set, take, drop}
use Rattle.model.specs.Lists.{choose, by_mark, lowest}
use Rattle.model.specs.Packed.{pack, unpack, join_fields}
use Rattle.model.specs.Shapes.{Row, rows_of, known_shape, width_asked, all_rows, counter_bits, mark_widths}
use Rattle.model.specs.Slots.{slot, known_bits, valid_spread}
use Rattle.model.specs.Levels.{Level, encode, crowded}
use Rattle.model.specs.Walls.{Header, Bucket, Full, Wall, wall, flows, buckets_in, count_end, wall_size, bucket_of, place_of, with_totals, read_header, limit_fits, full_fits, good, flatten, parse, empty_full, fresh}
use Rattle.model.specs.Sound.{upper_marks, flag, full_number, packed_word, bucket_at, own_at, full_for, count, sound_at, sound_buckets, sound_rest}

-- ---- refusals: the numbers in the call's own order, each with the test by which it is met

pub record Refusal : Type 0 where
  pub number : ℕ
  pub met : Bool

abbrev pub refuse : ℕ → Bool → Refusal
refuse n b = record { number = n; met = b }

-- the number of the first that is met, or 0
abbrev pub first_met : List Refusal → ℕ
first_met [] = 0
first_met (r ∷ rs) = choose r.met r.number (first_met rs)

-- none of them is met
abbrev pub Clear : List Refusal → Type 0
Clear [] = Unit {0}
Clear (r ∷ rs) = T (not r.met) × Clear rs

-- ---- the answer of a call on numbers, and the outcome of a call on words

pub record Reply : Type 0 where
  pub number : ℕ
  pub value : ℕ

pub record Outcome : Type 0 where
  pub number : ℕ
  pub value : ℕ
  pub words : List ℕ

-- a refusal gives its number and 0
abbrev pub reply : ℕ → ℕ → Reply
reply zero v = record { number = 0; value = v }
reply (suc n) v = record { number = suc n; value = 0 }

-- and leaves the words as they were
abbrev pub outcome : ℕ → ℕ → List ℕ → List ℕ → Outcome
outcome zero v done ws = record { number = 0; value = v; words = done }
outcome (suc n) v done ws = record { number = suc n; value = 0; words = ws }

-- ---- the calls on numbers and bytes

abbrev pub slot_refusals : ℕ → ℕ → ℕ → List Refusal
slot_refusals b m y = refuse 3 (not (known_bits b)) ∷ refuse 15 (not (valid_spread b m)) ∷ refuse 8 (leb (2 ^ b) y) ∷ []

unfoldable pub slot_call : ℕ → ℕ → ℕ → Reply
slot_call b m y = reply (first_met (slot_refusals b m y)) (slot b m y)

abbrev pub limits_refusals : ℕ → ℕ → List Refusal
limits_refusals p w = refuse 1 (not (known_shape p)) ∷ refuse 2 (ltb 16 w) ∷ []

-- L
unfoldable pub limits_call : ℕ → ℕ → Reply
limits_call p w = reply (first_met (limits_refusals p w)) (counter_bits (width_asked w) (rows_of p))

-- word n of an image: eight bytes, low byte first
abbrev pub image_refusals : List ℕ → ℕ → List Refusal
image_refusals bytes n = refuse 6 (ltb (length bytes) (8 * n + 8)) ∷ []

unfoldable pub image_call : List ℕ → ℕ → Reply
image_call bytes n = reply (first_met (image_refusals bytes n)) (pack 8 (take 8 (drop (8 * n) bytes)))

-- the image of words
abbrev pub image : List ℕ → List ℕ
image [] = []
image (w ∷ ws) = unpack 8 8 w ++ image ws

-- ---- raise and close

-- what a raise is asked
pub record Ask : Type 0 where
  pub shape : ℕ
  -- w1, or 0 for the default
  pub width : ℕ
  pub bits : ℕ
  pub limit : ℕ
  pub full : ℕ
  pub spread : ℕ

-- in the order of the call's arguments
abbrev pub ask : ℕ → ℕ → ℕ → ℕ → ℕ → ℕ → Ask
ask p w b l j m = record { shape = p; width = w; bits = b; limit = l; full = j; spread = m }

-- the header asked for
abbrev pub asked : Ask → Header
asked a = record {
  shape = a.shape;
  rows = rows_of a.shape;
  width = width_asked a.width;
  bits = a.bits;
  limit = a.limit;
  total = 0;
  full = a.full;
  used = 0;
  spread = a.spread;
}

-- of a header whose shape, width and bits are known, and of the words lent for it
abbrev pub sized_refusals : Header → List ℕ → List Refusal
sized_refusals h ws =
    refuse 4 (not (limit_fits h))
    ∷ refuse 5 (not (full_fits h))
    ∷ refuse 15 (not (valid_spread h.bits h.spread))
    ∷ refuse 6 (not (eqb (length ws) (wall_size h))) ∷ []

abbrev pub raise_refusals : Ask → List ℕ → List Refusal
raise_refusals a ws =
    refuse 1 (not (known_shape a.shape))
    ∷ refuse 2 (ltb 16 a.width)
    ∷ refuse 3 (not (known_bits a.bits))
    ∷ sized_refusals (asked a) ws

unfoldable pub raise : Ask → List ℕ → Outcome
raise a ws = outcome (first_met (raise_refusals a ws)) 0 (fresh (asked a)) ws

abbrev pub close_refusals : List ℕ → List Refusal
close_refusals ws = refuse 7 (not (good ws)) ∷ []

unfoldable pub close : List ℕ → Outcome
close ws = outcome (first_met (close_refusals ws)) 0 (fresh (read_header ws)) ws

-- ---- lookup and check

-- the flow's own bucket alone is judged
abbrev pub bucket_refusals : List ℕ → ℕ → List Refusal
bucket_refusals ws y =
    refuse 7 (not (good ws))
    ∷ refuse 8 (leb (flows (parse ws).header) y)
    ∷ refuse 9 (not (sound_at (parse ws) (bucket_of (parse ws).header y))) ∷ []

unfoldable pub lookup : List ℕ → ℕ → Outcome
lookup ws y = outcome (first_met (bucket_refusals ws y)) (count (parse ws) y) ws ws

abbrev pub check_refusals : List ℕ → List Refusal
check_refusals ws = refuse 7 (not (good ws)) ∷ refuse 9 (not (sound_buckets (parse ws))) ∷ refuse 13 (not (sound_rest (parse ws))) ∷ []

-- 9 comes with the lowest unsound bucket, any other number with 0
unfoldable pub check : List ℕ → Outcome
check ws =
    let n : ℕ = first_met (check_refusals ws) in
    record { number = n; value = choose (eqb n 9) (lowest (buckets_in (parse ws).header) (sound_at (parse ws))) 0; words = ws }

-- ---- the step: place a of bucket i comes to the count c, and the total to t

-- the bucket of these levels, with its flag and number
abbrev pub from_levels : ℕ → List Row → List Level → ℕ → ℕ → Bucket
from_levels w rs [] f n = record { first = []; marks = 0; uppers = []; packed = 0 }
from_levels w rs (l ∷ ls) f n = record {
  first = unpack 64 w l.cells;
  marks = l.marks;
  uppers = map (λ (x : Level). x.cells) ls;
  packed = packed_word (join_fields (mark_widths rs) (map (λ (x : Level). x.marks) ls)) f n;
}

-- the bucket whose levels hold the 64 counts vs
unfoldable pub holding : ℕ → List Row → List ℕ → Bucket
holding w rs vs = from_levels w rs (encode (all_rows w rs) vs) 0 0

-- the levels and marks stay, the flag and the number go in
unfoldable pub overflowed : Bucket → ℕ → Bucket
overflowed b n = record { first = b.first; marks = b.marks; uppers = b.uppers; packed = packed_word (upper_marks b.packed) 1 n }

-- place a of a full-size bucket is moved, with the count c
unfoldable pub move_in : Full → ℕ → ℕ → Full
move_in f a c = record { moved = pack 1 (set (unpack 1 64 f.moved) a 1); counts = set f.counts a c }

-- the bucket's own levels have no room for the count c at place a
unfoldable pub no_room : Wall → ℕ → ℕ → ℕ → Bool
no_room v i a c = crowded v.header.width v.header.rows (set (own_at v i) a c)

-- without the flag: the bucket overflows into full-size bucket U, or its levels hold the new count; with it: its full-size bucket does
unfoldable pub step : Wall → ℕ → ℕ → ℕ → ℕ → Wall
step v i a c t =
    let h : Header = v.header in
    let b : Bucket = bucket_at v i in
    by_mark (flag b)
    (choose (no_room v i a c)
    (wall (with_totals h t (h.used + 1)) (set v.buckets i (overflowed b h.used)) (set v.fulls h.used (move_in empty_full a c)))
    (wall (with_totals h t h.used) (set v.buckets i (holding h.width h.rows (set (own_at v i) a c))) v.fulls))
    (wall (with_totals h t h.used) v.buckets (set v.fulls (full_number b) (move_in (full_for v i) a c)))

-- ---- increment

-- the wall after d more of flow y
abbrev pub raised_by : Wall → ℕ → ℕ → Wall
raised_by v y d = step v (bucket_of v.header y) (place_of v.header y) (count v y + d) (v.header.total + d)

-- the bucket must overflow for place a to come to the count c
abbrev pub overflows : Wall → ℕ → ℕ → ℕ → Bool
overflows v i a c = by_mark (flag (bucket_at v i)) (no_room v i a c) false

abbrev pub step_refusals : Wall → ℕ → List Refusal
step_refusals v y =
    refuse 10 (eqb v.header.total v.header.limit)
    ∷ refuse 11 (eqb (count v y + 1) (count_end v.header))
    ∷ refuse 12 (overflows v (bucket_of v.header y) (place_of v.header y) (count v y + 1) && eqb v.header.used v.header.full) ∷ []

unfoldable pub increment : List ℕ → ℕ → Outcome
increment ws y = outcome (first_met (bucket_refusals ws y ++ step_refusals (parse ws) y)) (count (parse ws) y + 1) (flatten (raised_by (parse ws) y 1)) ws
