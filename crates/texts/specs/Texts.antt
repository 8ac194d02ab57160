-- Numbers in decimal and the lines of the output, as bytes.
use Rattle.std.specs.Prelude.{List, [], ◌∷◌, ◌++◌, ℕ, zero, suc, ◌^◌, ltb}
use Prim.Native.Char.{code}
use Prim.Native.String.{String, [] as none, ◌∷◌ as ◌before◌}
use Rattle.io.specs.Digits.{last_digits}
use Rattle.model.specs.Lists.{choose}

-- the bytes of a text, each of whose characters is one byte
abbrev pub bytes_of : String → List ℕ
bytes_of none = []
bytes_of (c before s) = code c ∷ bytes_of s

abbrev pub space : List ℕ
space = bytes_of " "

abbrev pub newline : List ℕ
newline = bytes_of "\n"

-- ---- numbers

-- the fewest digits that hold n, of k to k + f
abbrev pub places_from : ℕ → ℕ → ℕ → ℕ
places_from zero k n = k
places_from (suc f) k n = choose (ltb n (10 ^ k)) k (places_from f (suc k) n)

-- n has at most n + 1 digits
unfoldable pub places : ℕ → ℕ
places n = places_from n 1 n

-- n in decimal, without leading zeros
unfoldable pub decimal : ℕ → List ℕ
decimal n = last_digits 10 (places n) n

-- ---- lines of the output

-- the flow, the number and the count
unfoldable pub answer_line : ℕ → ℕ → ℕ → List ℕ
answer_line flow number count = (decimal flow ++ space) ++ ((decimal number ++ space) ++ (decimal count ++ newline))

abbrev pub total_text : List ℕ
total_text = bytes_of "total "

abbrev pub full_text : List ℕ
full_text = bytes_of " full "

abbrev pub bad_text : List ℕ
bad_text = bytes_of "bad line "

unfoldable pub total_line : ℕ → ℕ → List ℕ
total_line total used = total_text ++ ((decimal total ++ full_text) ++ (decimal used ++ newline))

unfoldable pub bad_line : ℕ → List ℕ
bad_line n = bad_text ++ (decimal n ++ newline)
