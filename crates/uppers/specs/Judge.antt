-- The verdict on the upper levels of a bucket, and the sum of their parts.
use Rattle.std.specs.Prelude.{Bool, true, false, ◌&&◌, List, [], ◌∷◌, ℕ, ◌+◌, ◌*◌, ◌^◌, leb, ltb, Option, Some, None}
use Rattle.model.specs.Lists.{every, sum}
use Rattle.model.specs.Packed.{unpack, entry, bit, rank}
use Rattle.model.specs.Shapes.{Row}
use Rattle.model.specs.Levels.{Level}

abbrev pub verdict : Bool → ℕ → Option ℕ
verdict true n = Some n
verdict false n = None

-- n entries of width w are used, each nonzero or going on, and nothing is set above them: the tests of one level in sound_levels
unfoldable pub filled : ℕ → ℕ → ℕ → ℕ → Bool
filled w n x m = ltb x (2 ^ (w * n)) && (ltb m (2 ^ n) && every n (λ a. leb 1 (entry w x a + bit m a)))

-- the parts in the n used entries of the first of the levels ls, and in the levels after it, each at its weight
unfoldable pub sum_levels : List Row → ℕ → List Level → ℕ
sum_levels [] n ls = 0
sum_levels (r ∷ rs) n [] = 0
sum_levels (r ∷ rs) n (l ∷ ls) = sum_levels rs (rank l.marks n) ls * 2 ^ r.width + sum (unpack r.width n l.cells)
