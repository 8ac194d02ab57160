-- What the program writes for the bytes that it reads and the words of its wall, and the words that it leaves.
use Rattle.std.specs.Prelude.{Bool, ◌&&◌, List, [], ◌∷◌, ◌++◌, map, ℕ, ◌+◌, ◌-◌, ◌*◌, leb, ltb, eqb, length, Option, Some, None}
use Rattle.model.specs.Lists.{choose, all}
use Rattle.model.specs.Walls.{read_header}
use Rattle.model.specs.Calls.{Outcome, increment}
use Rattle.texts.specs.Texts.{bytes_of, answer_line, total_line, bad_line}

-- ---- lines of the input

-- c stands in front of the first line
abbrev pub in_front : ℕ → List (List ℕ) → List (List ℕ)
in_front c [] = (c ∷ []) ∷ []
in_front c (l ∷ ls) = (c ∷ l) ∷ ls

-- each line without its newline; after the last newline there is no further line
unfoldable pub lines_of : List ℕ → List (List ℕ)
lines_of [] = []
lines_of (c ∷ s) = choose (eqb c 10) ([] ∷ lines_of s) (in_front c (lines_of s))

abbrev pub is_digit : ℕ → Bool
is_digit c = leb 48 c && leb c 57

-- 1 to 7 decimal digits
unfoldable pub is_flow : List ℕ → Bool
is_flow l = leb 1 (length l) && (leb (length l) 7 && all (map is_digit l))

-- the digits of a line after the number v
abbrev pub value_after : ℕ → List ℕ → ℕ
value_after v [] = v
value_after v (c ∷ l) = value_after (v * 10 + (c - 48)) l

unfoldable pub value_of : List ℕ → ℕ
value_of l = value_after 0 l

-- what the code finds in a line
abbrev pub flow_of : List ℕ → Option ℕ
flow_of l = choose (is_flow l) (Some (value_of l)) None

-- ---- the whole

abbrev pub bad_input : List ℕ
bad_input = bytes_of "bad input\n"

-- the lines from line n on: each flow is incremented in turn, up to the first line that is none
unfoldable pub answers : ℕ → List (List ℕ) → List ℕ → List ℕ
answers n [] ws = total_line (read_header ws).total (read_header ws).used
answers n (l ∷ ls) ws =
    let r : Outcome = increment ws (value_of l) in
    choose (is_flow l) (answer_line (value_of l) r.number r.value ++ answers (n + 1) ls r.words) (bad_line n)

unfoldable pub words_of : List (List ℕ) → List ℕ → List ℕ
words_of [] ws = ws
words_of (l ∷ ls) ws = choose (is_flow l) (words_of ls (increment ws (value_of l)).words) ws

abbrev pub too_long : List ℕ → Bool
too_long input = ltb 65536 (length input)

unfoldable pub transcript : List ℕ → List ℕ → List ℕ
transcript input ws = choose (too_long input) bad_input (answers 1 (lines_of input) ws)

unfoldable pub words_after : List ℕ → List ℕ → List ℕ
words_after input ws = choose (too_long input) ws (words_of (lines_of input) ws)
