-- What growing asks of the shape, and the upper levels of a bucket from one of them on.
use Rattle.std.specs.Prelude.{◌≡◌, List, [], ◌∷◌, ℕ, zero, suc, ◌+◌, ◌/◌, ◌^◌, ◌≤◌, get_or}
use Rattle.model.specs.Shapes.{counter_bits}
use Rattle.model.specs.Levels.{Level, level}
use Rattle.shapes.specs.declared.Shape.{Shape}
use Rattle.shapes.specs.Shapes.{rows_in, entries_at, Valid}
use Rattle.uppers.specs.Uppers.{marks_of}
use Rattle.growth.specs.declared.Upper.{Upper}

-- a valid shape whose 64 counts add up within a word: with the table's rows L is at most 34
pub record Fit (s : Shape) : Type 0 where
  pub valid : Valid s
  pub narrow : counter_bits s.width (rows_in s) ≤ 47

-- a walk stands at the upper level j, counted from 0, and left levels are ahead of it, this one counted
pub record At (s : Shape) (left j : ℕ) : Type 0 where
  pub fit : Fit s
  pub place : j + left ≡ s.uppers

-- the n upper levels from j on: us has their words of entries, g is the packed word from the marks of level j on
unfoldable pub levels_from : ℕ → Shape → List ℕ → ℕ → ℕ → List Level
levels_from zero s us g j = []
levels_from (suc n) s us g j = level (get_or us j 0) (marks_of n (entries_at s j) g) ∷ levels_from n s us (g / 2 ^ entries_at s j) (suc j)

-- those of a bucket, where the marks of level j begin at bit o
abbrev pub levels_in : ℕ → Shape → Upper → ℕ → ℕ → List Level
levels_in n s b o j = levels_from n s b.words (b.packed / 2 ^ o) j
