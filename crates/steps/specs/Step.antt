-- The step: what is left to do when the flow's own bucket is found sound and has no flag.
use Rattle.std.specs.Prelude.{◌&&◌, List, [], ◌∷◌, ℕ, ◌<◌, T, eqb, get_or}
use Rattle.model.specs.Walls.{buckets_in, count_end, flatten, parse}
use Rattle.model.specs.Sound.{counts_at, sound_at}
use Rattle.model.specs.Calls.{Outcome, refuse, first_met, outcome, overflows, step}
use Rattle.layout.specs.declared.Wall.{Wall}
use Rattle.layout.specs.Views.{header_of}
use Rattle.header.specs.Headers.{Open}

-- bucket i of these words is sound, and place a is to come to the count c, which a counter can hold and which is larger
pub record Ready (ws : List ℕ) (v : Wall) (i a c : ℕ) : Type 0 where
  pub header : Open ws v
  pub sound : T (sound_at (parse ws) i)
  pub bucket : i < buckets_in (header_of v)
  pub place : a < 64
  pub larger : get_or (counts_at (parse ws) i) a 0 < c
  pub fits : c < count_end (header_of v)

-- number 12, or the words after, with the total t
abbrev pub step_in : List ℕ → ℕ → ℕ → ℕ → ℕ → Outcome
step_in ws i a c t =
    outcome (first_met (refuse 12 (overflows (parse ws) i a c && eqb (parse ws).header.used (parse ws).header.full) ∷ []))
    c (flatten (step (parse ws) i a c t)) ws
