-- The upper levels of a bucket while a counter grows into them or in them.
use Rattle.std.specs.Prelude.{◌≡◌, List, ℕ, ◌+◌, ◌/◌, ◌%◌, ◌^◌, ◌≤◌, ◌<◌, T, get_or, set}
use Rattle.model.specs.Lists.{sum}
use Rattle.model.specs.Shapes.{mark_widths}
use Rattle.model.specs.Levels.{Level, sound_levels}
use Rattle.shapes.specs.declared.Shape.{Shape}
use Rattle.shapes.specs.Shapes.{rows_from}
use Rattle.rooms.specs.Growth.{room_to_enter, room_to_raise}
use Rattle.growth.specs.declared.Upper.{Upper}
use Rattle.growth.specs.Levels.{At, levels_in}

-- r is b but for the upper level j, whose k marks begin at bit o: its word is x, and its marks are m
pub record Redone (b : Upper) (j o k x m : ℕ) (r : Upper) : Type 0 where
  pub words : r.words ≡ set b.words j x
  pub low : r.packed % 2 ^ o ≡ b.packed % 2 ^ o
  pub own : r.packed / 2 ^ o % 2 ^ k ≡ m
  pub high : r.packed / 2 ^ o / 2 ^ k ≡ b.packed / 2 ^ o / 2 ^ k

-- r holds the levels ls from j on, whose marks begin at bit o, and is b before and past them
pub record Grown (s : Shape) (left j o : ℕ) (b : Upper) (ls : List Level) (r : Upper) : Type 0 where
  pub levels : levels_in left s r o j ≡ ls
  pub below : (i : ℕ) → i < j → get_or r.words i 0 ≡ get_or b.words i 0
  pub low : r.packed % 2 ^ o ≡ b.packed % 2 ^ o
  pub above : r.packed / 2 ^ o / 2 ^ sum (mark_widths (rows_from left s j)) ≡ b.packed / 2 ^ o / 2 ^ sum (mark_widths (rows_from left s j))

-- left levels from j on, whose marks begin at bit o, are sound with n entries of the first in use
pub record Stands (s : Shape) (left j o : ℕ) (b : Upper) (n : ℕ) : Type 0 where
  pub at : At s left j
  pub some : 0 < left
  pub bits : o + sum (mark_widths (rows_from left s j)) ≤ 40
  pub sound : T (sound_levels 1 (rows_from left s j) n (levels_in left s b o j))

-- a counter of value v can come in at entry a of the first
pub record Comes (s : Shape) (left j o : ℕ) (b : Upper) (a v : ℕ) : Type 0 where
  pub number : ℕ
  pub stands : Stands s left j o b number
  pub within : a ≤ number
  pub room : T (room_to_enter (rows_from left s j) number (levels_in left s b o j) v)

-- the counter at entry a of the first can come to the value v
pub record Rises (s : Shape) (left j o : ℕ) (b : Upper) (a v : ℕ) : Type 0 where
  pub number : ℕ
  pub stands : Stands s left j o b number
  pub within : a < number
  pub room : T (room_to_raise (rows_from left s j) (levels_in left s b o j) a v)
