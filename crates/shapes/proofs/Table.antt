-- A table of tables is the model's: one test that antt computes over all its entries, and a law that carries it to each.
use mathlib.Core.Path.{◌≡◌, sym, ◌∙◌, subst}
use mathlib.Core.Bool.{Bool}
use mathlib.Core.List.{List, [], ◌∷◌, map}
use Prim.Native.Nat.{ℕ, ◌+◌, ◌-◌, ◌*◌, ◌≤◌, ◌<◌}
use native.Mathlib.Omega.{arith}
use lib.Dec.{T, eqb, eqb→eq}
use lib.ListN.{get_or, length}
use Rattle.model.specs.Lists.{every}
use Rattle.model.specs.Packed.{pack}
use Rattle.model.specs.Shapes.{Row, rows_of}
use Rattle.model.proofs.Tests.{every-at}
use Rattle.std.proofs.lemmas.List.{length-map}
use Rattle.shapes.proofs.Shapes.{table_length}

-- the entries of shapes 3 to 5 and levels 2 to 5 are those of the rule
abbrev pub right_table : List (List ℕ) → (ℕ → ℕ → ℕ) → Bool
right_table t rule = every 3 (λ i. every 4 (λ j. eqb (get_or (get_or t i []) j 0) (rule (i + 3) j)))

pub right_at : (t : List (List ℕ)) (rule : ℕ → ℕ → ℕ) → T (right_table t rule) → (p j : ℕ) → 3 ≤ p → p ≤ 5 → j < 4 → get_or (get_or t (p - 3) []) j 0 ≡ rule p j
right_at t rule ok p j l m k =
    let e : p - 3 + 3 ≡ p = omega arith in
    subst (λ n. get_or (get_or t (p - 3) []) j 0 ≡ rule n j) e
    (eqb→eq (get_or (get_or t (p - 3) []) j 0) (rule (p - 3 + 3) j)
    (every-at 4 (λ j. eqb (get_or (get_or t (p - 3) []) j 0) (rule (p - 3 + 3) j)) (every-at 3 (λ i. every 4 (λ j. eqb (get_or (get_or t i []) j 0) (rule (i + 3) j))) ok (p - 3) (omega arith)) j k))

-- each row of it has four levels
abbrev pub four_wide : List (List ℕ) → Bool
four_wide t = every 3 (λ i. eqb (length (get_or t i [])) 4)

-- a row of at most four levels as one number, level by level
bytes-of : (r : List ℕ) → length r ≤ 4 → pack 8 r ≡ get_or r 0 0 + get_or r 1 0 * 256 + get_or r 2 0 * 65536 + get_or r 3 0 * 16777216
bytes-of [] l = omega arith
bytes-of (a ∷ []) l = omega arith
bytes-of (a ∷ b ∷ []) l = omega arith
bytes-of (a ∷ b ∷ c ∷ []) l = omega arith
bytes-of (a ∷ b ∷ c ∷ d ∷ []) l = omega arith
bytes-of (a ∷ b ∷ c ∷ d ∷ e ∷ r) l = absurd (omega arith)

-- a row of it is, as one number, the model's row of what f has of a level
pub right_row : (t : List (List ℕ)) (f : Row → ℕ) → T (right_table t (λ p j. get_or (map f (rows_of p)) j 0)) → T (four_wide t) → (p : ℕ) → 3 ≤ p → p ≤ 5 → pack 8 (get_or t (p - 3) []) ≡ pack 8 (map f (rows_of p))
right_row t f ok four p l m =
    let rule : ℕ → ℕ → ℕ = λ p j. get_or (map f (rows_of p)) j 0 in
    let wide : length (get_or t (p - 3) []) ≡ 4 =
    eqb→eq (length (get_or t (p - 3) [])) 4 (every-at 3 (λ i. eqb (length (get_or t i [])) 4) four (p - 3) (omega arith)) in
    bytes-of (get_or t (p - 3) []) (omega (arith, wide))
    ∙ rw (right_at t rule ok p 0 l m (omega arith), right_at t rule ok p 1 l m (omega arith), right_at t rule ok p 2 l m (omega arith), right_at t rule ok p 3 l m (omega arith)) (sym (bytes-of (map f (rows_of p)) (omega (arith, length-map (rows_of p) f, table_length p l m))))
