-- The words of a wall: its header, its buckets and its full-size buckets.
use Rattle.std.specs.Prelude.{Bool, ◌&&◌, List, [], ◌∷◌, ◌++◌, map, ℕ, ◌+◌, ◌-◌, ◌*◌, ◌/◌, ◌%◌, ◌^◌, leb, ltb, eqb, length, get_or, take, drop, replicate}
use Rattle.model.specs.Lists.{all, pieces, concat}
use Rattle.model.specs.Packed.{join_fields, cut_fields}
use Rattle.model.specs.Shapes.{Row, rows_of, known_shape, valid_width, counter_bits, bucket_size}
use Rattle.model.specs.Slots.{slot, known_bits, valid_spread}

pub record Header : Type 0 where
  pub shape : ℕ
  -- of the levels from 2 on
  pub rows : List Row
  -- w1
  pub width : ℕ
  -- b
  pub bits : ℕ
  -- M
  pub limit : ℕ
  pub total : ℕ
  -- J
  pub full : ℕ
  -- U
  pub used : ℕ
  -- m
  pub spread : ℕ

pub record Bucket : Type 0 where
  -- the words of A1, I1, the words A2 and up, and the packed word
  pub first : List ℕ
  pub marks : ℕ
  pub uppers : List ℕ
  pub packed : ℕ

-- a full-size bucket: its moved flags, and its 64 counts
pub record Full : Type 0 where
  pub moved : ℕ
  pub counts : List ℕ

pub record Wall : Type 0 where
  pub header : Header
  pub buckets : List Bucket
  pub fulls : List Full

abbrev pub wall : Header → List Bucket → List Full → Wall
wall h bs fs = record { header = h; buckets = bs; fulls = fs }

-- ---- what a header says

-- N
abbrev pub flows : Header → ℕ
flows h = 2 ^ h.bits

-- h, the number of buckets
abbrev pub buckets_in : Header → ℕ
buckets_in h = 2 ^ (h.bits - 6)

-- 2 ^ L, the first count that no counter holds
abbrev pub count_end : Header → ℕ
count_end h = 2 ^ counter_bits h.width h.rows

abbrev pub bucket_length : Header → ℕ
bucket_length h = bucket_size h.width h.rows

abbrev pub wall_size : Header → ℕ
wall_size h = 4 + buckets_in h * bucket_length h + 65 * h.full

-- the slot of a flow, asked of the header
abbrev pub slot_of : Header → ℕ → ℕ
slot_of h y = slot h.bits h.spread y

abbrev pub bucket_of : Header → ℕ → ℕ
bucket_of h y = slot_of h y / 64

abbrev pub place_of : Header → ℕ → ℕ
place_of h y = slot_of h y % 64

abbrev pub with_totals : Header → ℕ → ℕ → Header
with_totals h t u = record {
  shape = h.shape;
  rows = h.rows;
  width = h.width;
  bits = h.bits;
  limit = h.limit;
  total = t;
  full = h.full;
  used = u;
  spread = h.spread;
}

-- ---- the header's words

-- the letters B, W, L from the low end, and the version
abbrev pub letters : ℕ
letters = 0x4C5742

abbrev pub version : ℕ
version = 1

-- the fields of word 0: letters, version, shape, w1, b; and of word 3: J, U, m
abbrev pub head_fields : List ℕ
head_fields = 24 ∷ 16 ∷ 8 ∷ 8 ∷ 8 ∷ []

abbrev pub full_fields : List ℕ
full_fields = 16 ∷ 16 ∷ 32 ∷ []

abbrev pub full_word : Header → ℕ
full_word h = join_fields full_fields (h.full ∷ h.used ∷ h.spread ∷ [])

abbrev pub header_words : Header → List ℕ
header_words h =
    join_fields head_fields (letters ∷ version ∷ h.shape ∷ h.width ∷ h.bits ∷ [])
    ∷ h.limit ∷ h.total ∷ full_word h ∷ []

abbrev pub word_at : List ℕ → ℕ → ℕ
word_at ws i = get_or ws i 0

abbrev pub head_field : List ℕ → ℕ → ℕ
head_field ws i = get_or (cut_fields head_fields (word_at ws 0)) i 0

abbrev pub read_header : List ℕ → Header
read_header ws = record {
  shape = head_field ws 2;
  rows = rows_of (head_field ws 2);
  width = head_field ws 3;
  bits = head_field ws 4;
  limit = word_at ws 1;
  total = word_at ws 2;
  full = word_at ws 3 % 2 ^ 16;
  used = word_at ws 3 / 2 ^ 16 % 2 ^ 16;
  spread = word_at ws 3 / 2 ^ 16 / 2 ^ 16;
}

-- ---- a good header

-- M is from 1 to 2 ^ L - 1
abbrev pub limit_fits : Header → Bool
limit_fits h = leb 1 h.limit && ltb h.limit (count_end h)

-- J is at most h and at most 4,096
abbrev pub full_fits : Header → Bool
full_fits h = leb h.full (buckets_in h) && leb h.full 4096

abbrev pub limits : Header → List Bool
limits h =
    known_shape h.shape ∷ valid_width h.width ∷ known_bits h.bits ∷ limit_fits h ∷ full_fits h
    ∷ leb h.total h.limit ∷ leb h.used h.full ∷ valid_spread h.bits h.spread ∷ []

abbrev pub good_tests : List ℕ → List Bool
good_tests ws =
    leb 4 (length ws) ∷ eqb (head_field ws 0) letters ∷ eqb (head_field ws 1) version
    ∷ eqb (length ws) (wall_size (read_header ws)) ∷ limits (read_header ws)

-- number 7 is not met
unfoldable pub good : List ℕ → Bool
good ws = all (good_tests ws)

-- ---- a bucket, a full-size bucket, the whole

abbrev pub bucket_words : Bucket → List ℕ
bucket_words b = b.first ++ b.marks ∷ (b.uppers ++ (b.packed ∷ []))

-- the words of level 1 are off; n words are those of the levels from 2 on
abbrev pub read_rest : ℕ → List ℕ → List ℕ → Bucket
read_rest n f ws = record { first = f; marks = word_at ws 0; uppers = take n (drop 1 ws); packed = word_at (drop n (drop 1 ws)) 0 }

abbrev pub read_bucket : ℕ → List Row → List ℕ → Bucket
read_bucket w rs ws = read_rest (length rs) (take w ws) (drop w ws)

abbrev pub full_words : Full → List ℕ
full_words f = f.moved ∷ f.counts

abbrev pub read_full : List ℕ → Full
read_full ws = record { moved = word_at ws 0; counts = drop 1 ws }

-- the words of a wall
unfoldable pub flatten : Wall → List ℕ
flatten v = header_words v.header ++ (concat (map bucket_words v.buckets) ++ concat (map full_words v.fulls))

-- the wall of words with this header
abbrev pub parse_as : Header → List ℕ → Wall
parse_as h ws = record {
  header = h;
  buckets = map (read_bucket h.width h.rows) (pieces (bucket_length h) (buckets_in h) (drop 4 ws));
  fulls = map read_full (pieces 65 h.full (drop (4 + buckets_in h * bucket_length h) ws));
}

unfoldable pub parse : List ℕ → Wall
parse ws = parse_as (read_header ws) ws

-- ---- empty

abbrev pub empty_bucket : ℕ → List Row → Bucket
empty_bucket w rs = record { first = replicate w 0; marks = 0; uppers = replicate (length rs) 0; packed = 0 }

abbrev pub empty_full : Full
empty_full = record { moved = 0; counts = replicate 64 0 }

-- the fresh wall of a header: the header, and zero in all the rest
unfoldable pub fresh : Header → List ℕ
fresh h = header_words (with_totals h 0 0) ++ replicate (buckets_in h * bucket_length h + 65 * h.full) 0
