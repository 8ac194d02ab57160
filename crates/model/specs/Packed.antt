-- Packed words: entries of w bits side by side, the first lowest.
use Rattle.std.specs.Prelude.{List, [], ◌∷◌, ℕ, zero, suc, ◌+◌, ◌*◌, ◌/◌, ◌%◌, ◌^◌}
use Rattle.model.specs.Lists.{sum}

-- the number that holds these entries, each below 2 ^ w
abbrev pub pack : ℕ → List ℕ → ℕ
pack w [] = 0
pack w (e ∷ es) = pack w es * 2 ^ w + e

-- the first n entries of x
abbrev pub unpack : ℕ → ℕ → ℕ → List ℕ
unpack w zero x = []
unpack w (suc n) x = x % 2 ^ w ∷ unpack w n (x / 2 ^ w)

-- entry a: bits a * w to a * w + w - 1
abbrev pub entry : ℕ → ℕ → ℕ → ℕ
entry w x a = x / 2 ^ (w * a) % 2 ^ w

-- x with v in place of entry a
abbrev pub replaced : ℕ → ℕ → ℕ → ℕ → ℕ
replaced w x a v = (x / 2 ^ (w * suc a) * 2 ^ w + v) * 2 ^ (w * a) + x % 2 ^ (w * a)

-- x with v put in at entry a, and the entries at and above it moved up by one
abbrev pub put_in : ℕ → ℕ → ℕ → ℕ → ℕ
put_in w x a v = (x / 2 ^ (w * a) * 2 ^ w + v) * 2 ^ (w * a) + x % 2 ^ (w * a)

-- mark a of a word of one-bit marks
abbrev pub bit : ℕ → ℕ → ℕ
bit x a = x / 2 ^ a % 2

-- the count of ones strictly below bit a
abbrev pub rank : ℕ → ℕ → ℕ
rank x a = sum (unpack 1 a x)

-- a word of fields of the given widths, the first lowest
abbrev pub join_fields : List ℕ → List ℕ → ℕ
join_fields [] vs = 0
join_fields (w ∷ ws) [] = 0
join_fields (w ∷ ws) (v ∷ vs) = join_fields ws vs * 2 ^ w + v

abbrev pub cut_fields : List ℕ → ℕ → List ℕ
cut_fields [] x = []
cut_fields (w ∷ ws) x = x % 2 ^ w ∷ cut_fields ws (x / 2 ^ w)
