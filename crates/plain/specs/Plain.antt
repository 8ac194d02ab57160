-- A bucket in the words of a wall.
use Rattle.std.specs.Prelude.{◌≡◌, Bool, List, Option, ℕ, ◌+◌, ◌%◌, ◌^◌, take, drop, get_or}
use Rattle.std.specs.Int.Count.{ones}
use Rattle.model.specs.Lists.{sum}
use Rattle.model.specs.Shapes.{Row, bucket_size}
use Rattle.model.specs.Walls.{Bucket, read_bucket, empty_full}
use Rattle.model.specs.Sound.{own_counts, sound_bucket}
use Rattle.uppers.specs.Judge.{verdict}
use Rattle.uppers.specs.Uppers.{rows_by, judged}
use Rattle.plain.specs.declared.site.Site.{Site}

-- the bucket of n upper levels whose words begin at `at`
abbrev pub bucket_in : ℕ → ℕ → ℕ → ℕ → List ℕ → ℕ → Bucket
bucket_in w n e v ws at = read_bucket w (rows_by n e v) (take (bucket_size w (rows_by n e v)) (drop at ws))

-- that of a site, its rows and the counts of its own levels
abbrev pub bucket_of : Site → Bucket
bucket_of s = bucket_in s.shape.width s.shape.uppers s.shape.entries s.shape.widths s.words.now s.at

abbrev pub rows_of : Site → List Row
rows_of s = rows_by s.shape.uppers s.shape.entries s.shape.widths

abbrev pub own_of : Site → List ℕ
own_of s = own_counts s.shape.width (rows_of s) (bucket_of s)

-- its packed word, and the verdict on its upper levels
abbrev pub packed_of : Site → ℕ
packed_of s = get_or s.words.now (s.at + s.shape.width + 1 + s.shape.uppers) 0

abbrev pub upper_of : Site → Option ℕ
upper_of s = judged s.shape.uppers s.words.now (s.at + s.shape.width + 1) (packed_of s % 2 ^ 40) s.shape.entries s.shape.widths (ones (get_or s.words.now (s.at + s.shape.width) 0)) s.shape.width 0

-- r says whether it is sound, as a bucket without a full-size one, in a wall with this total and any U
abbrev pub SaysSound : Site → ℕ → Bool → Type 0
SaysSound s total r = (used : ℕ) → r ≡ sound_bucket s.shape.width (rows_of s) total used (bucket_of s) empty_full

-- r is the verdict on it, with the sum of its counts
abbrev pub Weighs : Site → ℕ → Option ℕ → Type 0
Weighs s total r = (used : ℕ) → r ≡ verdict (sound_bucket s.shape.width (rows_of s) total used (bucket_of s) empty_full) (sum (own_of s))
