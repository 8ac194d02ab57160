-- How long the output is: four bytes for each byte of input, and a last line.
use mathlib.Core.Logic.{◌⊎◌, inl, inr}
use mathlib.Core.Path.{◌≡◌, refl}
use mathlib.Core.Bool.{Bool, true, false, ◌&&◌}
use mathlib.Core.List.{List, [], ◌∷◌, ◌++◌, map}
use Prim.Native.Nat.{ℕ, suc, ◌+◌, ◌-◌, ◌*◌, ◌^◌, ◌≤◌, ◌<◌}
use native.Mathlib.Nat.{pow-suc, add-zero, add-suc, suc-add, zero-add, eq-zero-or-pos}
use native.Mathlib.Omega.{arith}
use borrow.Author.Tests.{ltb-false, leb-true}
use lib.Dec.{leb, eqb}
use lib.ListN.{length, length-append}
use Rattle.model.specs.Lists.{choose, all}
use Rattle.model.specs.Walls.{read_header, word_at}
use Rattle.model.specs.Calls.{Outcome, increment}
use Rattle.texts.specs.Texts.{decimal, answer_line, bad_line}
use Rattle.texts.proofs.Lengths.{few_digits, total-short, bad_short, answer_long}
use Rattle.lines.specs.Transcript.{in_front, lines_of, is_digit, is_flow, value_after, value_of, answers, bad_input, too_long, transcript}
use Rattle.std.proofs.lemmas.Bool.{and_parts}
use Rattle.lines.proofs.Kept.{Small, number_small, done_counted, refused_same}

-- ---- a flow

value_small : (l : List ℕ) (v i : ℕ) → all (map is_digit l) ≡ true → v < 10 ^ i → value_after v l < 10 ^ (i + length l)
value_small [] v i d h = rw (add-zero i) h
value_small (c ∷ l) v i d h =
    let p = and_parts (is_digit c) (all (map is_digit l)) d in
    let q = and_parts (leb 48 c) (leb c 57) p.0 in
    let s : v * 10 + (c - 48) < 10 ^ suc i = rw (pow-suc 10 i) (omega (arith, leb-true 48 c q.0, leb-true c 57 q.1)) in
    rw (add-suc i (length l), ← suc-add i (length l)) (value_small l (v * 10 + (c - 48)) (suc i) p.1 s)

-- a flow is no longer without its leading zeros
pub record FlowLine (l : List ℕ) : Type 0 where
  pub long : 1 ≤ length l
  pub short : length (decimal (value_of l)) ≤ length l

flow_line : (l : List ℕ) → is_flow l ≡ true → FlowLine l
unfolding is_flow value_of
flow_line [] e = let z : ◌≡◌ {A = ℕ} 0 1 = cc in absurd (omega arith)
flow_line (c ∷ l) e =
    let q = and_parts (leb (length (c ∷ l)) 7) (all (map is_digit (c ∷ l))) (and_parts (leb 1 (length (c ∷ l))) (leb (length (c ∷ l)) 7 && all (map is_digit (c ∷ l))) e).1 in
    record {
      long = omega arith;
      short = few_digits (length l) (value_after 0 (c ∷ l)) (rw (zero-add (suc (length l))) at (value_small (c ∷ l) 0 0 q.1 (omega arith)));
    }

-- ---- lines

-- each line with its newline
abbrev weight : List (List ℕ) → ℕ
weight [] = 0
weight (l ∷ ls) = length l + 1 + weight ls

weight_front : (c : ℕ) (ls : List (List ℕ)) (n : ℕ) → weight ls ≤ n + 1 → weight (in_front c ls) ≤ suc n + 1
weight_front c [] n h = omega arith
weight_front c (l ∷ ls) n h = omega arith

weight_lines : (s : List ℕ) → weight (lines_of s) ≤ length s + 1
unfolding lines_of
weight_lines [] = omega arith
weight_lines (c ∷ s) = by (eqb c 10) (weight_lines s)
  where
    by : (b : Bool) → weight (lines_of s) ≤ length s + 1 → weight (choose b ([] ∷ lines_of s) (in_front c (lines_of s))) ≤ suc (length s) + 1
    by true h = omega arith
    by false h = weight_front c (lines_of s) (length s) h

-- ---- an answer

-- the number and the count: `0` and up to three digits, or up to two and `0`
module _ (ws : List ℕ) (y : ℕ) (s : Small 999 ws) where
  abbrev r : Outcome
  r = increment ws y

  pub record Short : Type 0 where
    pub digits_most : length (decimal r.number) + length (decimal r.value) ≤ 4
    pub small : Small 999 r.words

  answer_short : Short
  answer_short = by (eq-zero-or-pos r.number)
    where
      by : (r.number ≡ 0) ⊎ (0 < r.number) → Short
      by (inl e) =
          let c = done_counted 999 ws s y e in
          record { digits_most = omega (arith, few_digits 0 r.number (omega arith), few_digits 2 r.value (omega (arith, c.value))); small = c.small }
      by (inr h) =
          let c = refused_same 999 ws s y h in
          record { digits_most = omega (arith, few_digits 1 r.number (omega (arith, number_small ws y)), few_digits 0 r.value (omega (arith, c.0))); small = c.1 }

-- ---- the whole

size_answers : (ls : List (List ℕ)) (n : ℕ) (ws : List ℕ) → n + weight ls < 100000 → Small 999 ws → length (answers n ls ws) ≤ 4 * weight ls + 21
unfolding answers
size_answers [] n ws h s = omega (arith, total-short (word_at ws 2) (read_header ws).used (omega (arith, s.total)) (omega arith))
size_answers (l ∷ ls) n ws h s = by (is_flow l) refl (λ k. size_answers ls (n + 1) (increment ws (value_of l)).words (omega arith) k)
  where
    by : (b : Bool) → is_flow l ≡ b → (Small 999 (increment ws (value_of l)).words → length (answers (n + 1) ls (increment ws (value_of l)).words) ≤ 4 * weight ls + 21) → length (choose b (answer_line (value_of l) (increment ws (value_of l)).number (increment ws (value_of l)).value ++ answers (n + 1) ls (increment ws (value_of l)).words) (bad_line n)) ≤ 4 * weight (l ∷ ls) + 21
    by true e go =
        let f = flow_line l e in
        let a = answer_short ws (value_of l) s in
        rw (length-append (answer_line (value_of l) (increment ws (value_of l)).number (increment ws (value_of l)).value), answer_long (value_of l))
        (omega (arith, go a.small, f.long, f.short, a.digits_most))
    by false e go = omega (arith, bad_short n (omega arith))

-- the buffer that the program lends
pub size : (input ws : List ℕ) → Small 999 ws → length (transcript input ws) ≤ 262208
unfolding transcript
size input ws s = by (too_long input) refl
  where
    by : (b : Bool) → too_long input ≡ b → length (choose b bad_input (answers 1 (lines_of input) ws)) ≤ 262208
    by true e = omega arith
    by false e =
        let h = ltb-false 65536 (length input) e in
        let w = weight_lines input in
        omega (arith, size_answers (lines_of input) 1 ws (omega arith) s)
