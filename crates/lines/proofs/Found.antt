-- Lines in what is left of the input, and the number in a line.
use borrow.Author.Tests.{le-leb}
use Rattle.std.proofs.Common.{◌≡◌, ◌≢◌, refl, ap, ◌∙◌, Bool, true, false, cond, not, List, [], ◌∷◌, map, ℕ, ◌+◌, ◌-◌, ◌^◌, ◌≤◌, ◌<◌, add-one, one-add, arith, eqb, leb, ◌&&◌, length, get_or, take, drop, Some, None, length-drop, drop_of_length-le}
use Rattle.std.proofs.Math.Seq.{drop-cons, drop-length, take_all}
use Rattle.std.proofs.lemmas.List.Sums.{position_or_len_is}
use Rattle.std.specs.List.{position_or_len, AllWithin, HoldsAt}
use Rattle.model.specs.Lists.{choose, all}
use Rattle.lines.specs.Transcript.{lines_of, in_front, is_digit, is_flow, value_after, value_of, flow_of}

-- ---- the first line

-- how long it is
abbrev pub line_end : List ℕ → ℕ
line_end s = position_or_len (λ c. eqb c 10) s

-- b says whether c is a newline, and k where the first newline of s stands
by-newline : (c : ℕ) (s : List ℕ) (k : ℕ) (b : Bool) → in_front c (lines_of s) ≡ (c ∷ take k s) ∷ lines_of (drop (k + 1) s) → choose b ([] ∷ lines_of s) (in_front c (lines_of s)) ≡ take (cond (not b) (1 + k) 0) (c ∷ s) ∷ lines_of (drop (cond (not b) (1 + k) 0 + 1) (c ∷ s))
by-newline c s k true e = refl
by-newline c s k false e = rw (add-one (1 + k), one-add k) (rw (add-one k) at e)

in-front : (c : ℕ) (s : List ℕ) → in_front c (lines_of s) ≡ (c ∷ take (line_end s) s) ∷ lines_of (drop (line_end s + 1) s)
unfolding lines_of
in-front c [] = refl
in-front c (d ∷ s) = ap (in_front c) (by-newline d s (line_end s) (eqb d 10) (in-front d s))

pub lines_cut : (s : List ℕ) → 0 < length s → lines_of s ≡ take (line_end s) s ∷ lines_of (drop (line_end s + 1) s)
unfolding lines_of
lines_cut [] h = absurd (omega arith)
lines_cut (c ∷ s) h = by-newline c s (line_end s) (eqb c 10) (in-front c s)

pub lines_none : (s : List ℕ) → length s ≡ 0 → lines_of s ≡ []
unfolding lines_of
lines_none [] h = refl
lines_none (c ∷ s) h = absurd (omega arith)

-- n bytes stand before the first newline, or before the end
pub ends : (s : List ℕ) (n : ℕ) → n ≤ length s → AllWithin (λ c. c ≢ 10) s 0 n → (n < length s → HoldsAt (λ c. c ≡ 10) s n) → line_end s ≡ n
ends s n h b f = position_or_len_is (λ c. eqb c 10) s n 0 h (λ k l. grind (arith, b k 0 (omega arith) l)) (λ l. grind (arith, f l 0))

-- the first newline ends the first line, and the rest is from k on, one byte behind it
pub at_newline : (s : List ℕ) (n k : ℕ) → (n < length s) × HoldsAt (λ c. c ≡ 10) s n × AllWithin (λ c. c ≢ 10) s 0 n → k ≡ n + 1 → lines_of s ≡ take n s ∷ lines_of (take (length s - k) (drop k s))
at_newline s n k (h, f, b) e =
    rw (take_all (length s - k) (drop k s) (simp length-drop (omega arith)), e)
    (rw (ends s n (omega arith) b (λ _. f)) at (lines_cut s (omega arith)))

-- without one all is the first line, and the last
pub no_newline : (s : List ℕ) → 0 < length s → AllWithin (λ c. c ≢ 10) s 0 (length s) → lines_of s ≡ s ∷ lines_of []
no_newline s h b =
    rw (ends s (length s) (omega arith) b (λ l. absurd (omega arith))) at (lines_cut s h)
    ∙ rw (take_all (length s) s (omega arith), drop_of_length-le s {i = length s + 1} (omega arith)) refl

front-length : (c : ℕ) (ls : List (List ℕ)) (n : ℕ) → length ls ≤ n → length (in_front c ls) ≤ n + 1
front-length c [] n h = omega arith
front-length c (l ∷ ls) n h = omega arith

-- no more lines than bytes
pub lines_fewer : (s : List ℕ) → length (lines_of s) ≤ length s
unfolding lines_of
lines_fewer [] = omega arith
lines_fewer (c ∷ s) = by (eqb c 10) (lines_fewer s)
  where
    by : (b : Bool) → length (lines_of s) ≤ length s → length (choose b ([] ∷ lines_of s) (in_front c (lines_of s))) ≤ length (c ∷ s)
    by true h = omega arith
    by false h = omega (arith, front-length c (lines_of s) (length s) h)

-- ---- the number in a line

-- the first i bytes of a line are digits, and make the number v
pub record Read (l : List ℕ) (i v : ℕ) : Type 0 where
  pub within : i ≤ length l
  pub short : length l ≤ 7
  pub long : 1 ≤ length l
  pub digits : all (map is_digit l) ≡ all (map is_digit (drop i l))
  pub value : value_after 0 l ≡ value_after v (drop i l)
  pub small : v < 10 ^ i

pub flow-not : (l : List ℕ) → leb 1 (length l) && leb (length l) 7 ≡ false → None ≡ flow_of l
unfolding is_flow
flow-not l e = by (leb 1 (length l)) (leb (length l) 7) e
  where
    by : (a b : Bool) → a && b ≡ false → None ≡ choose (a && (b && all (map is_digit l))) (Some (value_of l)) None
    by true true e = cc
    by true false e = refl
    by false b e = refl

module _ (l : List ℕ) (i v : ℕ) (r : Read l i v) where
  pub flow-other : i < length l → is_digit (get_or l i 0) ≡ false → None ≡ flow_of l
  unfolding is_flow
  flow-other h e = rw (le-leb 1 (length l) r.long, le-leb (length l) 7 r.short, r.digits, drop-cons l i 0 h, e)

  pub flow_is : i ≡ length l → Some v ≡ flow_of l
  unfolding is_flow value_of
  flow_is e = rw (le-leb 1 (length l) r.long, le-leb (length l) 7 r.short, r.digits, r.value, e, drop-length l)
