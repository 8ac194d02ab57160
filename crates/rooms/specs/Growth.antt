-- A count that comes to a larger value: what the levels from one on become, and when they have room.
use Rattle.std.specs.Prelude.{Bool, true, false, ◌&&◌, List, [], ◌∷◌, ℕ, ◌/◌, ◌%◌, ◌^◌, ltb}
use Rattle.std.specs.Int.Count.{ones}
use Rattle.model.specs.Lists.{by_mark}
use Rattle.model.specs.Packed.{bit, rank, replaced, put_in}
use Rattle.model.specs.Shapes.{Row}
use Rattle.model.specs.Levels.{Level, level, sign}

-- a counter of value v comes in at entry a: the entries at and above it move up by one, and their marks likewise
unfoldable pub entering : List Row → List Level → ℕ → ℕ → List Level
entering [] ls a v = ls
entering (r ∷ rs) [] a v = []
entering (r ∷ rs) (l ∷ ls) a v =
    level (put_in r.width l.cells a (v % 2 ^ r.width)) (put_in 1 l.marks a (sign (v / 2 ^ r.width)))
    ∷ by_mark (v / 2 ^ r.width) ls (entering rs ls (rank l.marks a) (v / 2 ^ r.width))

-- each level that it comes into has an entry free; n of the first are used
unfoldable pub room_to_enter : List Row → ℕ → List Level → ℕ → Bool
room_to_enter [] n ls v = false
room_to_enter (r ∷ rs) n [] v = false
room_to_enter (r ∷ rs) n (l ∷ ls) v = ltb n r.entries && by_mark (v / 2 ^ r.width) true (room_to_enter rs (ones l.marks) ls (v / 2 ^ r.width))

-- the counter at entry a comes to the value v
unfoldable pub raising : List Row → List Level → ℕ → ℕ → List Level
raising [] ls a v = ls
raising (r ∷ rs) [] a v = []
raising (r ∷ rs) (l ∷ ls) a v =
    let c : ℕ = replaced r.width l.cells a (v % 2 ^ r.width) in
    let k : ℕ = rank l.marks a in
    by_mark (v / 2 ^ r.width) (level c l.marks ∷ ls)
    (by_mark (bit l.marks a) (level c (replaced 1 l.marks a 1) ∷ entering rs ls k (v / 2 ^ r.width)) (level c l.marks ∷ raising rs ls k (v / 2 ^ r.width)))

unfoldable pub room_to_raise : List Row → List Level → ℕ → ℕ → Bool
room_to_raise [] ls a v = false
room_to_raise (r ∷ rs) [] a v = false
room_to_raise (r ∷ rs) (l ∷ ls) a v =
    by_mark (v / 2 ^ r.width) true
    (by_mark (bit l.marks a) (room_to_enter rs (ones l.marks) ls (v / 2 ^ r.width)) (room_to_raise rs ls (rank l.marks a) (v / 2 ^ r.width)))
