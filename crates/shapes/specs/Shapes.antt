-- A shape of the code as the model's rows, and the shape that the table gives.
use Rattle.std.specs.Prelude.{Bool, List, [], ◌∷◌, map, ℕ, zero, suc, ◌-◌, ◌*◌, ◌/◌, ◌%◌, ◌^◌, T, get_or, ltb}
use Rattle.model.specs.Lists.{every}
use Rattle.model.specs.Packed.{pack}
use Rattle.model.specs.Shapes.{Row, row, rows_of, valid_rows, valid_width}
use Rattle.shapes.specs.declared.Shape.{Shape}

-- entries and width of the upper level j, counted from 0: byte j of a number each
abbrev pub entries_at : Shape → ℕ → ℕ
entries_at s j = s.entries / 2 ^ (8 * j) % 256

abbrev pub width_at : Shape → ℕ → ℕ
width_at s j = s.widths / 2 ^ (8 * j) % 256

-- the rows of n upper levels from j on
unfoldable pub rows_from : ℕ → Shape → ℕ → List Row
rows_from zero s j = []
rows_from (suc n) s j = row (entries_at s j) (width_at s j) ∷ rows_from n s (suc j)

abbrev pub rows_in : Shape → List Row
rows_in s = rows_from s.uppers s 0

-- a shape that a wall can have
pub record Valid (s : Shape) : Type 0 where
  pub rows : T (valid_rows (rows_in s))
  pub width : T (valid_width s.width)

-- ---- the table

abbrev pub table_entries : ℕ → ℕ → ℕ
table_entries p j = get_or (map (λ (r : Row). r.entries) (rows_of p)) j 0

abbrev pub table_width : ℕ → ℕ → ℕ
table_width p j = get_or (map (λ (r : Row). r.width) (rows_of p)) j 0

-- each entry of such a table is a byte
abbrev pub byte_table : List (List ℕ) → Bool
byte_table t = every 3 (λ i. every 4 (λ j. ltb (get_or (get_or t i []) j 0) 256))

-- a row of the table as bytes of a number, level 2 lowest
abbrev pub entry_bytes : ℕ → ℕ
entry_bytes p = pack 8 (map (λ (r : Row). r.entries) (rows_of p))

abbrev pub width_bytes : ℕ → ℕ
width_bytes p = pack 8 (map (λ (r : Row). r.width) (rows_of p))

-- shape p of the table at width w
abbrev pub shape_of : ℕ → ℕ → Shape
shape_of p w = record { uppers = p - 1; width = w; entries = entry_bytes p; widths = width_bytes p }
