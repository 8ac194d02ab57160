-- What the scheme and the layout say beside demand 2: how a bucket grows, the parts of a count, where a flow stands, which counters use a level, and
-- the bytes of an image.
use Rattle.std.specs.Prelude.{◌↔◌, ◌≡◌, Bool, not, List, ℕ, suc, ◌+◌, ◌-◌, ◌*◌, ◌^◌, ◌≤◌, ◌<◌, T, length, get_or}
use Rattle.model.specs.Lists.{sum, tabulate}
use Rattle.model.specs.Packed.{bit}
use Rattle.model.specs.Slots.{slot}
use Rattle.model.specs.Shapes.{rows_of, all_rows, counter_bits}
use Rattle.model.specs.Levels.{uses, part_at, start}
use Rattle.model.specs.Growing.{incremented, has_room}
use Rattle.model.specs.Walls.{Header, Bucket, Wall, flows, buckets_in, parse}
use Rattle.model.specs.Sound.{flag, levels_of, bucket_at, own_at, sound_at}
use Rattle.model.specs.Calls.{Clear, image_call, image, bucket_refusals, from_levels, increment}
use Rattle.demands.specs.DemandTwo.{Words, bucket_for, place_for, overflows_at}

-- in bucket i the counter at place a has an entry d levels above the first
abbrev pub UsesLevel : Wall → ℕ → ℕ → ℕ → Type 0
UsesLevel v i a d = T (uses (all_rows v.header.width v.header.rows) (levels_of v.header.rows (bucket_at v i)) a d)

-- the bits below the level that is d above the first
abbrev pub below : Wall → ℕ → ℕ
below v d = start (all_rows v.header.width v.header.rows) d

-- the part of the counter at place a in that level, 0 where it has none
abbrev pub part : Wall → ℕ → ℕ → ℕ → ℕ
part v i a d = part_at (all_rows v.header.width v.header.rows) (levels_of v.header.rows (bucket_at v i)) a d

-- the document's rule at place a of bucket i: whether the next level has room, and the bucket after one more
abbrev pub room_to_carry : Wall → ℕ → ℕ → Bool
room_to_carry v i a = has_room (all_rows v.header.width v.header.rows) 64 (levels_of v.header.rows (bucket_at v i)) a

abbrev pub carried_in : Wall → ℕ → ℕ → Bucket
carried_in v i a = from_levels v.header.width v.header.rows (incremented (all_rows v.header.width v.header.rows) (levels_of v.header.rows (bucket_at v i)) a) 0 0

-- how flow y of these words grows, its bucket having no flag: its levels have room exactly where the level that its counter would come into
-- has an entry free; then one is added to the lowest part and carried, entries and marks moving together
pub record Grows (ws : List ℕ) (y : ℕ) : Type 0 where
  pub room : T (room_to_carry (parse ws) (bucket_for ws y) (place_for ws y)) ↔ T (not (overflows_at ws y))
  pub carried : (increment ws y).number ≡ 0 → T (room_to_carry (parse ws) (bucket_for ws y) (place_for ws y))
      → bucket_at (parse (increment ws y).words) (bucket_for ws y) ≡ carried_in (parse ws) (bucket_for ws y) (place_for ws y)

pub record Layouts : Type 0 where
  -- the document's rule of an increment, where none of 7 to 10 is met
  pub grows : (ws : List ℕ) (y : ℕ) → Clear (bucket_refusals ws y) → (parse ws).header.total < (parse ws).header.limit → flag (bucket_at (parse ws) (bucket_for ws y)) ≡ 0 → Grows ws y
  -- a bucket's own count is the sum of the parts of its p levels, each weighted by the bits below its level
  pub weighted : (ws : List ℕ) (i a : ℕ) → a < 64 → get_or (own_at (parse ws) i) a 0 ≡ sum (tabulate (suc (length (parse ws).header.rows)) (λ d. part (parse ws) i a d * 2 ^ below (parse ws) d))
  -- the slot of a flow at spread 0 is its b bits in reverse order, and the slot of its slot is the flow
  pub reversed : (b y k : ℕ) → k < b → bit (slot b 0 y) k ≡ bit y (b - 1 - k)
  pub slot_back : (b y : ℕ) → y < 2 ^ b → slot b 0 (slot b 0 y) ≡ y
  -- h = N / 64, and a shape has as many levels as its number
  pub buckets : (h : Header) → 6 ≤ h.bits → buckets_in h * 64 ≡ flows h
  pub shapes : (suc (length (rows_of 3)) ≡ 3) × (suc (length (rows_of 4)) ≡ 4) × (suc (length (rows_of 5)) ≡ 5)
  -- L of the three shapes
  pub counters : (w : ℕ) → (counter_bits w (rows_of 3) ≡ w + 17) × (counter_bits w (rows_of 4) ≡ w + 18) × (counter_bits w (rows_of 5) ≡ w + 18)
  -- in a sound bucket a level is used by exactly the counters of a value that does not fit below it
  pub levels : (ws : List ℕ) (i : ℕ) → T (sound_at (parse ws) i) → (a d : ℕ) → d < length (parse ws).header.rows
      → UsesLevel (parse ws) i a (suc d) ↔ (2 ^ below (parse ws) (suc d) ≤ get_or (own_at (parse ws) i) a 0)
  -- reading word n of the image of words gives that word, and 6 from their number on
  pub image_word : (ws : List ℕ) (n : ℕ) → Words ws → n < length ws → image_call (image ws) n ≡ record { number = 0; value = get_or ws n 0 }
  pub image_past : (ws : List ℕ) (n : ℕ) → length ws ≤ n → image_call (image ws) n ≡ record { number = 6; value = 0 }
