-- One more at a place of a bucket, where the header is good and the flow known.
use Rattle.std.specs.Prelude.{not, ◌&&◌, List, [], ◌∷◌, ℕ, ◌+◌, eqb, get_or}
use Rattle.model.specs.Walls.{flatten, parse}
use Rattle.model.specs.Sound.{counts_at, sound_at}
use Rattle.model.specs.Calls.{Outcome, refuse, first_met, outcome, overflows, step}

-- numbers 9, 10 and 12, or the words after one more at place a of bucket i
unfoldable pub one_more : List ℕ → ℕ → ℕ → Outcome
one_more ws i a =
    let c : ℕ = get_or (counts_at (parse ws) i) a 0 + 1 in
    outcome (first_met
    (refuse 9 (not (sound_at (parse ws) i))
    ∷ refuse 10 (eqb (parse ws).header.total (parse ws).header.limit)
    ∷ refuse 12 (overflows (parse ws) i a c && eqb (parse ws).header.used (parse ws).header.full) ∷ []))
    c (flatten (step (parse ws) i a c ((parse ws).header.total + 1))) ws
