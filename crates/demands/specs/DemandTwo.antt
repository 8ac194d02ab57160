-- Demand 2: lookup and increment do exactly what the scheme and the layout say.
use Rattle.std.specs.Prelude.{◌≢◌, ◌≡◌, Bool, List, [], ◌∷◌, ◌++◌, ℕ, ◌+◌, ◌^◌, ◌<◌, get_or}
use Rattle.model.specs.Lists.{one_if}
use Rattle.model.specs.Walls.{Wall, bucket_of, place_of, flows, buckets_in, with_totals, parse}
use Rattle.model.specs.Sound.{flag, full_number, bucket_at, own_at, counts_at, full_for, moved_at, full_count, count}
use Rattle.model.specs.Calls.{Outcome, Clear, bucket_refusals, step_refusals, overflows, raised_by, holding, overflowed, lookup, increment, check}
use Rattle.model.specs.After.{own_after, full_after}

abbrev pub Accepted : List ℕ → Type 0
Accepted ws = (check ws).number ≡ 0

-- every word is one of 64 bits, as the words of a slice are
abbrev pub Words : List ℕ → Type 0
Words [] = Unit {0}
Words (w ∷ ws) = (w < 2 ^ 64) × Words ws

-- the bucket of flow y and its place there
abbrev pub bucket_for : List ℕ → ℕ → ℕ
bucket_for ws y = bucket_of (parse ws).header y

abbrev pub place_for : List ℕ → ℕ → ℕ
place_for ws y = place_of (parse ws).header y

-- one more of flow y has no room in its bucket, which has no flag
abbrev pub overflows_at : List ℕ → ℕ → Bool
overflows_at ws y = overflows (parse ws) (bucket_for ws y) (place_for ws y) (count (parse ws) y + 1)

-- what an accepted increment of flow y leaves of a wall that the check accepts: one count and the total one more, every other count as it
-- was, and a wall that the check accepts; U one more exactly where the bucket must overflow; the flow's bucket and its full-size bucket as
-- the step makes them, and every other bucket and its full-size bucket as they were
pub record Raised (ws : List ℕ) (y : ℕ) (r : Outcome) : Type 0 where
  pub value : r.value ≡ count (parse ws) y + 1
  pub here : count (parse r.words) y ≡ count (parse ws) y + 1
  pub there : (z : ℕ) → z < flows (parse ws).header → z ≢ y → count (parse r.words) z ≡ count (parse ws) z
  pub header : (parse r.words).header ≡ with_totals (parse ws).header ((parse ws).header.total + 1) ((parse ws).header.used + one_if (overflows_at ws y))
  pub accepted : Accepted r.words
  pub own : bucket_at (parse r.words) (bucket_for ws y) ≡ own_after (parse ws) (bucket_for ws y) (place_for ws y) (count (parse ws) y + 1)
  pub own_full : full_for (parse r.words) (bucket_for ws y) ≡ full_after (parse ws) (bucket_for ws y) (place_for ws y) (count (parse ws) y + 1)
  pub others : (i : ℕ) → i < buckets_in (parse ws).header → i ≢ bucket_for ws y → (bucket_at (parse r.words) i ≡ bucket_at (parse ws) i) × (full_for (parse r.words) i ≡ full_for (parse ws) i)

-- the words of a bucket of such a wall are the only ones that the layout allows: without the flag the encoding of its counts; with it that
-- of its own counts with the flag and the number, and in its full-size bucket a count for each moved place and 0 for each other
pub record Laid (v : Wall) (i : ℕ) : Type 0 where
  pub plain : flag (bucket_at v i) ≡ 0 → bucket_at v i ≡ holding v.header.width v.header.rows (counts_at v i)
  pub flagged : flag (bucket_at v i) ≡ 1 → bucket_at v i ≡ overflowed (holding v.header.width v.header.rows (own_at v i)) (full_number (bucket_at v i))
  pub moved : (a : ℕ) → a < 64 → moved_at (full_for v i) a ≡ 1 → full_count (full_for v i) a ≡ get_or (counts_at v i) a 0
  pub unmoved : (a : ℕ) → a < 64 → moved_at (full_for v i) a ≡ 0 → (full_count (full_for v i) a ≡ 0) × (get_or (own_at v i) a 0 ≡ get_or (counts_at v i) a 0)

-- two accepted walls of one header, without flags and with the same counts
pub record Alike (ws us : List ℕ) : Type 0 where
  pub header : (parse ws).header ≡ (parse us).header
  pub plain : (i : ℕ) → i < buckets_in (parse ws).header → (flag (bucket_at (parse ws) i) ≡ 0) × (flag (bucket_at (parse us) i) ≡ 0)
  pub counts : (y : ℕ) → y < flows (parse ws).header → count (parse ws) y ≡ count (parse us) y

-- two accepted walls of one header with the same counts, and in each bucket the same own counts and number: which buckets are flagged and which
-- places are moved follows
pub record Agree (ws us : List ℕ) : Type 0 where
  pub header : (parse ws).header ≡ (parse us).header
  pub numbers : (i : ℕ) → i < buckets_in (parse ws).header → full_number (bucket_at (parse ws) i) ≡ full_number (bucket_at (parse us) i)
  pub own : (i : ℕ) → i < buckets_in (parse ws).header → own_at (parse ws) i ≡ own_at (parse us) i
  pub counts : (y : ℕ) → y < flows (parse ws).header → count (parse ws) y ≡ count (parse us) y

pub record DemandTwo : Type 0 where
  pub reads : (ws : List ℕ) (y : ℕ) → Accepted ws → y < flows (parse ws).header → lookup ws y ≡ record { number = 0; value = count (parse ws) y; words = ws }
  pub raises : (ws : List ℕ) (y : ℕ) → Accepted ws → (increment ws y).number ≡ 0 → Raised ws y (increment ws y)
  pub laid : (ws : List ℕ) → Words ws → Accepted ws → (i : ℕ) → i < buckets_in (parse ws).header → Laid (parse ws) i
  pub same_words : (ws us : List ℕ) → Words ws → Words us → Accepted ws → Accepted us → Alike ws us → ws ≡ us
  -- with flags too: nothing else is left open
  pub determined : (ws us : List ℕ) → Words ws → Words us → Accepted ws → Accepted us → Agree ws us → ws ≡ us
  -- on any words whose header, flow and own bucket are good, accepted by the check or not
  pub own_reads : (ws : List ℕ) (y : ℕ) → Clear (bucket_refusals ws y) → lookup ws y ≡ record { number = 0; value = count (parse ws) y; words = ws }
  pub own_raises : (ws : List ℕ) (y : ℕ) → Clear (bucket_refusals ws y ++ step_refusals (parse ws) y)
      → ((increment ws y).number ≡ 0) × ((increment ws y).value ≡ count (parse ws) y + 1) × (count (parse (increment ws y).words) y ≡ count (parse ws) y + 1)
      × (parse (increment ws y).words ≡ raised_by (parse ws) y 1)
