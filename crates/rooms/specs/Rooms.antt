-- Room for a counter, by the marks of the levels.
use Rattle.std.specs.Prelude.{◌≡◌, Bool, List, ℕ}
use Rattle.std.specs.Int.Count.{ones}
use Rattle.rooms.specs.Growth.{room_to_enter, room_to_raise}
use Rattle.uppers.specs.Uppers.{rows_by, levels_by}

-- room for a counter of value v that comes into n levels under the marks m
unfoldable pub room_by : ℕ → List ℕ → ℕ → ℕ → ℕ → ℕ → ℕ → ℕ → Bool
room_by n ws at g e w m v = room_to_enter (rows_by n e w) (ones m) (levels_by n ws at g e) v

-- whatever entries the levels hold
abbrev pub SaysRoom : ℕ → ℕ → ℕ → ℕ → ℕ → ℕ → Bool → Type 0
SaysRoom n g e w m v r = (ws : List ℕ) (at : ℕ) → r ≡ room_by n ws at g e w m v

-- room for the counter at entry a of n levels to come to the value v
unfoldable pub raise_by : ℕ → List ℕ → ℕ → ℕ → ℕ → ℕ → ℕ → ℕ → Bool
raise_by n ws at g e w a v = room_to_raise (rows_by n e w) (levels_by n ws at g e) a v

abbrev pub SaysRaise : ℕ → ℕ → ℕ → ℕ → ℕ → ℕ → Bool → Type 0
SaysRaise n g e w a v r = (ws : List ℕ) (at : ℕ) → r ≡ raise_by n ws at g e w a v
