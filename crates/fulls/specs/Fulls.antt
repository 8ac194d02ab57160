-- A flagged bucket in the words of a wall.
use Rattle.std.specs.Prelude.{◌≡◌, Bool, List, [], ◌∷◌, ℕ, zero, suc, ◌+◌, ◌-◌, ◌/◌, ◌^◌, ◌<◌, eqb, leb, get_or, Option}
use Rattle.model.specs.Lists.{sum, one_if, every}
use Rattle.model.specs.Packed.{rank}
use Rattle.model.specs.Walls.{Full}
use Rattle.model.specs.Sound.{full_count, bucket_counts, sound_bucket, sound_place}
use Rattle.uppers.specs.Judge.{verdict}
use Rattle.moves.specs.Full.{full_at}
use Rattle.plain.specs.Plain.{bucket_of, own_of, packed_of, rows_of}
use Rattle.fulls.specs.declared.flagged.Flagged.{Flagged}

-- the tests of sound_bucket that a flagged bucket with the own counts os has to pass besides
abbrev pub full_tests : List ℕ → Full → ℕ → List Bool
full_tests os f total = leb 1 (rank f.moved 64) ∷ every 64 (sound_place os f) ∷ leb (sum (bucket_counts os f)) total ∷ []

-- by how much the count of place a exceeds the own one
abbrev pub gained : List ℕ → Full → ℕ → ℕ
gained os f a = get_or (bucket_counts os f) a 0 - get_or os a 0

-- how many of its first k places hold 0
unfoldable pub zero_places : Full → ℕ → ℕ
zero_places f zero = 0
zero_places f (suc k) = zero_places f k + one_if (eqb (full_count f k) 0)

-- its full-size bucket
abbrev pub full_of : Flagged → Full
full_of b = full_at b.site.words.now b.full

-- r is the verdict on it, with the sum of its counts, in a wall with this total and any U above its number
abbrev pub Judges : Flagged → ℕ → Option ℕ → Type 0
Judges b total r =
    (used : ℕ) → packed_of b.site / 2 ^ 48 < used
    → r ≡ verdict (sound_bucket b.site.shape.width (rows_of b.site) total used (bucket_of b.site) (full_of b)) (sum (bucket_counts (own_of b.site) (full_of b)))
