-- Shapes: the width w1 of the first level, and a row for each level from 2 on.
use Rattle.std.specs.Prelude.{Bool, true, ◌&&◌, List, [], ◌∷◌, map, ℕ, suc, ◌+◌, ◌*◌, leb, length, get_or}
use Rattle.model.specs.Lists.{sum, all, by_mark}

-- how many entries a level has, and their width
pub record Row : Type 0 where
  pub entries : ℕ
  pub width : ℕ

abbrev pub row : ℕ → ℕ → Row
row k w = record { entries = k; width = w }

-- ---- the table of shapes: the rows of levels 2 and up

abbrev pub shape3 : List Row
shape3 = row 15 4 ∷ row 3 13 ∷ []

abbrev pub shape4 : List Row
shape4 = row 25 2 ∷ row 10 4 ∷ row 2 12 ∷ []

abbrev pub shape5 : List Row
shape5 = row 25 2 ∷ row 10 3 ∷ row 3 4 ∷ row 1 9 ∷ []

-- by shape number; a number that is not in the table has no rows
abbrev pub rows_of : ℕ → List Row
rows_of p = get_or ([] ∷ [] ∷ [] ∷ shape3 ∷ shape4 ∷ shape5 ∷ []) p []

abbrev pub known_shape : ℕ → Bool
known_shape p = leb 3 p && leb p 5

-- the width of a wall for which the caller asked w: 0 asks for the default
abbrev pub width_asked : ℕ → ℕ
width_asked w = by_mark w 7 w

-- ---- of any shape

-- all rows of a bucket: level 1 has 64 entries of width w
abbrev pub all_rows : ℕ → List Row → List Row
all_rows w rs = row 64 w ∷ rs

-- L: the bits of a counter whose levels from these rows on start at bit l
abbrev pub counter_bits : ℕ → List Row → ℕ
counter_bits l [] = l
counter_bits l (r ∷ rs) = counter_bits (l + r.width) rs

-- the bits of marks of a row in the packed word: one an entry, and none for the last row
abbrev pub mark_bits : Row → List Row → ℕ
mark_bits r [] = 0
mark_bits r (s ∷ rs) = r.entries

abbrev pub mark_widths : List Row → List ℕ
mark_widths [] = []
mark_widths (r ∷ rs) = mark_bits r rs ∷ mark_widths rs

-- words of a bucket: w1 + p + 1
abbrev pub bucket_size : ℕ → List Row → ℕ
bucket_size w rs = w + suc (length rs + 1)

-- ---- the rule of a valid shape

abbrev pub valid_row : Row → Bool
valid_row r = all (leb 1 r.entries ∷ leb 1 r.width ∷ leb r.width 16 ∷ leb (r.entries * r.width) 64 ∷ [])

-- each row is valid, and no level has more entries than the one below it, which has k
abbrev pub falling : ℕ → List Row → Bool
falling k [] = true
falling k (r ∷ rs) = leb r.entries k && (valid_row r && falling r.entries rs)

abbrev pub valid_rows : List Row → Bool
valid_rows rs =
    all (leb 1 (length rs) ∷ leb (length rs) 4 ∷ falling 64 rs ∷ leb (sum (mark_widths rs)) 40
    ∷ leb (sum (map (λ (r : Row). r.width) rs)) 47 ∷ [])

abbrev pub valid_width : ℕ → Bool
valid_width w = leb 1 w && leb w 16
