-- The upper levels of a bucket where they lie in the words of a wall; entries and widths of a shape are bytes of a number each, level 2 lowest.
use Rattle.std.specs.Prelude.{Bool, ◌&&◌, List, [], ◌∷◌, ℕ, zero, suc, ◌+◌, ◌*◌, ◌/◌, ◌%◌, ◌^◌, ◌≤◌, ◌<◌, eqb, get_or, Option}
use Rattle.model.specs.Shapes.{Row, row}
use Rattle.model.specs.Levels.{Level, level, read_at, sound_levels}
use Rattle.uppers.specs.Judge.{verdict, sum_levels}

-- the rows of n levels
unfoldable pub rows_by : ℕ → ℕ → ℕ → List Row
rows_by zero e w = []
rows_by (suc n) e w = row (e % 256) (w % 256) ∷ rows_by n (e / 256) (w / 256)

-- the marks at the low end of g; n levels come after this one, and the last level has none
abbrev pub marks_of : ℕ → ℕ → ℕ → ℕ
marks_of zero k g = 0
marks_of (suc n) k g = g % 2 ^ k

-- n levels, whose words of entries begin at `at`; g has their marks
unfoldable pub levels_by : ℕ → List ℕ → ℕ → ℕ → ℕ → List Level
levels_by zero ws at g e = []
levels_by (suc n) ws at g e = level (get_or ws at 0) (marks_of n (e % 256) g) ∷ levels_by n ws (suc at) (g / 2 ^ (e % 256)) (e / 256)

-- the bits of their marks
unfoldable pub marks_by : ℕ → ℕ → ℕ
marks_by zero e = 0
marks_by (suc zero) e = 0
marks_by (suc (suc n)) e = e % 256 + marks_by (suc n) (e / 256)

-- the levels are sound with n entries of the first used, and g has nothing above their marks
unfoldable pub sound_by : ℕ → List ℕ → ℕ → ℕ → ℕ → ℕ → ℕ → Bool
sound_by left ws at g e w n = sound_levels 1 (rows_by left e w) n (levels_by left ws at g e) && eqb (g / 2 ^ marks_by left e) 0

unfoldable pub sum_by : ℕ → List ℕ → ℕ → ℕ → ℕ → ℕ → ℕ → ℕ
sum_by left ws at g e w n = sum_levels (rows_by left e w) n (levels_by left ws at g e)

-- the verdict on them, with their parts at weight 2 ^ t added to s
abbrev pub judged : ℕ → List ℕ → ℕ → ℕ → ℕ → ℕ → ℕ → ℕ → ℕ → Option ℕ
judged left ws at g e w n t s = verdict (sound_by left ws at g e w n) (s + sum_by left ws at g e w n * 2 ^ t)

-- what the counter at entry a has in them
unfoldable pub read_by : ℕ → List ℕ → ℕ → ℕ → ℕ → ℕ → ℕ → ℕ
read_by left ws at g e w a = read_at (rows_by left e w) (levels_by left ws at g e) a

-- what a walk over n levels from weight t on asks of the shape: a level that is not the last has marks in a word, and L stays within a word
abbrev pub MarksFit : ℕ → ℕ → Type 0
MarksFit zero k = Unit {0}
MarksFit (suc n) k = k < 64

abbrev pub Ahead : ℕ → ℕ → ℕ → ℕ → Type 0
Ahead zero e w t = Unit {0}
Ahead (suc n) e w t = (1 ≤ w % 256) × (w % 256 ≤ 16) × (t + w % 256 ≤ 47) × MarksFit n (e % 256) × Ahead n (e / 256) (w / 256) (t + w % 256)
