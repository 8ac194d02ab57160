-- What a bucket and a wall hold, and when they are sound.
use Rattle.std.specs.Prelude.{Bool, true, ◌&&◌, List, [], ◌∷◌, ℕ, ◌/◌, ◌%◌, ◌^◌, leb, ltb, eqb, get_or}
use Rattle.model.specs.Lists.{one_if, by_mark, all, every, sum, tabulate}
use Rattle.model.specs.Packed.{pack, bit, rank, join_fields, cut_fields}
use Rattle.model.specs.Shapes.{Row, all_rows, mark_widths}
use Rattle.model.specs.Levels.{Level, level, read_at, sound_levels}
use Rattle.model.specs.Walls.{Bucket, Full, Wall, buckets_in, bucket_of, place_of, empty_bucket, empty_full}

-- ---- the packed word: 40 bits of marks, the overflow flag, 7 spare bits, the full-size number

abbrev pub upper_marks : ℕ → ℕ
upper_marks x = x % 2 ^ 40

abbrev pub flag : Bucket → ℕ
flag b = b.packed / 2 ^ 40 % 2

abbrev pub spare_bits : ℕ → ℕ
spare_bits x = x / 2 ^ 41 % 2 ^ 7

abbrev pub full_number : Bucket → ℕ
full_number b = b.packed / 2 ^ 48

-- of marks, flag and number
abbrev pub packed_word : ℕ → ℕ → ℕ → ℕ
packed_word m f n = join_fields (40 ∷ 1 ∷ 7 ∷ 16 ∷ []) (m ∷ f ∷ 0 ∷ n ∷ [])

-- ---- the levels of a bucket, and its own counts

abbrev pub pair_levels : List ℕ → List ℕ → List Level
pair_levels [] ms = []
pair_levels (c ∷ cs) [] = []
pair_levels (c ∷ cs) (m ∷ ms) = level c m ∷ pair_levels cs ms

abbrev pub levels_of : List Row → Bucket → List Level
levels_of rs b = level (pack 64 b.first) b.marks ∷ pair_levels b.uppers (cut_fields (mark_widths rs) (upper_marks b.packed))

-- the 64 counts that the bucket's own levels hold
unfoldable pub own_counts : ℕ → List Row → Bucket → List ℕ
own_counts w rs b = tabulate 64 (read_at (all_rows w rs) (levels_of rs b))

-- ---- the full-size bucket of a bucket, and its counts

-- a bucket without the flag has none: it counts as an empty one
abbrev pub full_of : List Full → Bucket → Full
full_of fs b = by_mark (flag b) empty_full (get_or fs (full_number b) empty_full)

-- 1 where place a is moved
abbrev pub moved_at : Full → ℕ → ℕ
moved_at f a = bit f.moved a

abbrev pub full_count : Full → ℕ → ℕ
full_count f a = get_or f.counts a 0

-- the count of a moved place is the full-size one, of any other the bucket's own
unfoldable pub bucket_counts : List ℕ → Full → List ℕ
bucket_counts os f = tabulate 64 (λ a. by_mark (moved_at f a) (get_or os a 0) (full_count f a))

-- ---- a sound bucket

-- an unmoved place holds 0, a moved count exceeds the bucket's own
abbrev pub sound_place : List ℕ → Full → ℕ → Bool
sound_place os f a = by_mark (moved_at f a) (eqb (full_count f a) 0) (ltb (get_or os a 0) (full_count f a))

-- in a wall with this total and this U, f being its full-size bucket
unfoldable pub sound_bucket : ℕ → List Row → ℕ → ℕ → Bucket → Full → Bool
sound_bucket w rs total used b f =
    all (sound_levels 0 (all_rows w rs) 64 (levels_of rs b)
    ∷ ltb (upper_marks b.packed) (2 ^ sum (mark_widths rs)) ∷ eqb (spare_bits b.packed) 0
    ∷ by_mark (flag b) (eqb (full_number b) 0) (ltb (full_number b) used)
    ∷ leb (flag b) (rank f.moved 64)
    ∷ every 64 (sound_place (own_counts w rs b) f)
    ∷ leb (sum (bucket_counts (own_counts w rs b) f)) total ∷ [])

-- ---- in a wall

abbrev pub bucket_at : Wall → ℕ → Bucket
bucket_at v i = get_or v.buckets i (empty_bucket v.header.width v.header.rows)

abbrev pub own_at : Wall → ℕ → List ℕ
own_at v i = own_counts v.header.width v.header.rows (bucket_at v i)

abbrev pub full_for : Wall → ℕ → Full
full_for v i = full_of v.fulls (bucket_at v i)

-- the 64 counts of bucket i
unfoldable pub counts_at : Wall → ℕ → List ℕ
counts_at v i = bucket_counts (own_at v i) (full_for v i)

-- the count of a flow
unfoldable pub count : Wall → ℕ → ℕ
count v y = get_or (counts_at v (bucket_of v.header y)) (place_of v.header y) 0

unfoldable pub sound_at : Wall → ℕ → Bool
sound_at v i = sound_bucket v.header.width v.header.rows v.header.total v.header.used (bucket_at v i) (full_for v i)

-- ---- a sound wall

-- 1 where the bucket is flagged and holds the number q
abbrev pub holds_number : ℕ → Bucket → ℕ
holds_number q b = by_mark (flag b) 0 (one_if (eqb (full_number b) q))

unfoldable pub holders : Wall → ℕ → ℕ
holders v q = sum (tabulate (buckets_in v.header) (λ i. holds_number q (bucket_at v i)))

unfoldable pub all_counts : Wall → ℕ
all_counts v = sum (tabulate (buckets_in v.header) (λ i. sum (counts_at v i)))

abbrev pub is_empty_full : Full → Bool
is_empty_full f = eqb f.moved 0 && eqb (sum f.counts) 0

abbrev pub sound_buckets : Wall → Bool
sound_buckets v = every (buckets_in v.header) (sound_at v)

-- the full-size buckets from U up
abbrev pub fulls_zero : Wall → Bool
fulls_zero v = every v.header.full (λ q. by_mark (one_if (leb v.header.used q)) true (is_empty_full (get_or v.fulls q empty_full)))

-- besides its buckets: the counts add up to the total, each number below U has exactly one holder, and the full-size buckets from U up are zero
unfoldable pub sound_rest : Wall → Bool
sound_rest v =
    all (eqb (all_counts v) v.header.total ∷ every v.header.used (λ q. eqb (holders v q) 1) ∷ fulls_zero v ∷ [])
