-- A full-size bucket where it lies in the words of a wall.
use Rattle.std.specs.Prelude.{List, ℕ, take, drop}
use Rattle.model.specs.Walls.{Full, read_full}

abbrev pub full_at : List ℕ → ℕ → Full
full_at ws at = read_full (take 65 (drop at ws))
