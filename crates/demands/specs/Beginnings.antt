-- Where walls begin: every flow reads 0.
use Rattle.std.specs.Prelude.{◌≡◌, List, ℕ, ◌^◌, ◌<◌}
use Rattle.model.specs.Walls.{flows, read_header}
use Rattle.model.specs.Calls.{Ask, raise, close, lookup}

pub record Beginnings : Type 0 where
  -- every flow of a wall raised or closed, which is the fresh wall of its header (demand 1: `done`), reads 0
  pub raised_reads : (a : Ask) (ws : List ℕ) → (raise a ws).number ≡ 0 → (y : ℕ) → y < 2 ^ a.bits
      → lookup (raise a ws).words y ≡ record { number = 0; value = 0; words = (raise a ws).words }
  pub closed_reads : (ws : List ℕ) → (close ws).number ≡ 0 → (y : ℕ) → y < flows (read_header ws)
      → lookup (close ws).words y ≡ record { number = 0; value = 0; words = (close ws).words }
