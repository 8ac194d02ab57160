-- Lists of increments, and what they come to, said of the list alone.
use Rattle.std.specs.Prelude.{List, [], ◌∷◌, map, ℕ, ◌+◌, ◌*◌, eqb}
use Rattle.model.specs.Lists.{one_if, by_mark, sum, tabulate}
use Rattle.model.specs.Shapes.{Row}
use Rattle.model.specs.Levels.{crowded}
use Rattle.model.specs.Walls.{Header, buckets_in, slot_of}
use Rattle.model.specs.Calls.{Outcome, increment}

-- the flows incremented in turn: the number of the first refusal, or 0, and the words then
unfoldable pub run : List ℕ → List ℕ → Outcome
run ws [] = record { number = 0; value = 0; words = ws }
run ws (y ∷ ys) =
    let r : Outcome = increment ws y in
    by_mark r.number (run r.words ys) (record { number = r.number; value = 0; words = r.words })

-- how often x is listed
abbrev pub listed : ℕ → List ℕ → ℕ
listed x [] = 0
listed x (y ∷ ys) = one_if (eqb x y) + listed x ys

abbrev pub slots : Header → List ℕ → List ℕ
slots h ys = map (slot_of h) ys

-- the counts of bucket i, of k places, when the slots xs are listed
abbrev pub tallies_of : ℕ → ℕ → List ℕ → List ℕ
tallies_of k i xs = tabulate k (λ a. listed (i * k + a) xs)

-- how many of n buckets of k places are crowded; the rows are those from level 2 on, which starts at bit l
abbrev pub crowded_of : ℕ → ℕ → ℕ → List Row → List ℕ → ℕ
crowded_of k n l rs xs = sum (tabulate n (λ i. one_if (crowded l rs (tallies_of k i xs))))

-- the same at a wall's 64 places
abbrev pub tallies : ℕ → List ℕ → List ℕ
tallies i xs = tallies_of 64 i xs

abbrev pub crowded_after : Header → List ℕ → ℕ
crowded_after h xs = crowded_of 64 (buckets_in h) h.width h.rows xs

-- how many buckets the flows ys crowd
abbrev pub crowded_buckets : Header → List ℕ → ℕ
crowded_buckets h ys = crowded_after h (slots h ys)
