-- Raise behind its refusals 1, 2 and 3.
use Rattle.std.specs.Prelude.{List, ℕ}
use Rattle.model.specs.Walls.{Header, fresh}
use Rattle.model.specs.Calls.{first_met, Outcome, outcome, sized_refusals}

unfoldable pub raise_sized : Header → List ℕ → Outcome
raise_sized h ws = outcome (first_met (sized_refusals h ws)) 0 (fresh h) ws
