-- The shape that the table gives is the model's, and valid; what a valid shape says, fact by fact.
use mathlib.Core.Path.{◌≡◌, refl, sym, ap, ◌∙◌, subst}
use mathlib.Core.Bool.{Bool}
use mathlib.Core.List.{List, [], ◌∷◌, map}
use Prim.Native.Nat.{ℕ, zero, suc, ◌+◌, ◌-◌, ◌≤◌}
use native.Mathlib.Omega.{arith}
use lib.Dec.{T, leb, leb→le, le→leb}
use lib.ListN.{length}
use Rattle.model.specs.Lists.{sum}
use Rattle.model.specs.Shapes.{Row, rows_of, known_shape, falling, mark_widths, valid_rows, counter_bits}
use Rattle.model.proofs.Tools.{AllT, all_tests, and_tests, tests_and}
use Rattle.model.proofs.Headers.{table_valid}
use Rattle.shapes.specs.declared.Shape.{Shape}
use Rattle.shapes.specs.Shapes.{rows_from, rows_in, shape_of, Valid}

-- ---- the table

pub table_rows : (p w : ℕ) → 3 ≤ p → p ≤ 5 → rows_in (shape_of p w) ≡ rows_of p
unfolding rows_from
table_rows zero w h k = absurd (omega arith)
table_rows (suc zero) w h k = absurd (omega arith)
table_rows (suc (suc zero)) w h k = absurd (omega arith)
table_rows (suc (suc (suc zero))) w h k = refl
table_rows (suc (suc (suc (suc zero)))) w h k = refl
table_rows (suc (suc (suc (suc (suc zero))))) w h k = refl
table_rows (suc (suc (suc (suc (suc (suc n)))))) w h k = absurd (omega arith)

pub rows-length : (n : ℕ) (s : Shape) (j : ℕ) → length (rows_from n s j) ≡ n
unfolding rows_from
rows-length zero s j = refl
rows-length (suc n) s j = ap suc (rows-length n s (suc j))

pub table_length : (p : ℕ) → 3 ≤ p → p ≤ 5 → length (rows_of p) ≡ p - 1
table_length p h k = sym (ap length (table_rows p 1 h k)) ∙ rows-length (p - 1) (shape_of p 1) 0

pub table_shape : (p w : ℕ) → 3 ≤ p → p ≤ 5 → 1 ≤ w → w ≤ 16 → Valid (shape_of p w)
table_shape p w h k l m =
    let known : T (known_shape p) = tests_and (leb 3 p) (leb p 5) (le→leb 3 p h) (le→leb p 5 k) in
    record {
      rows = subst (λ rs. T (valid_rows rs)) (sym (table_rows p w h k)) (table_valid p known);
      width = tests_and (leb 1 w) (leb w 16) (le→leb 1 w l) (le→leb w 16 m);
    }

-- L by shape
pub counter_17 : (p w : ℕ) → p ≡ 3 → w + 17 ≡ counter_bits w (rows_of p)
counter_17 p w e = let c : w + 17 ≡ counter_bits w (rows_of 3) = omega arith in c ∙ ap (λ p. counter_bits w (rows_of p)) (sym e)

pub counter_18 : (p w : ℕ) → 4 ≤ p → p ≤ 5 → w + 18 ≡ counter_bits w (rows_of p)
counter_18 zero w h k = absurd (omega arith)
counter_18 (suc zero) w h k = absurd (omega arith)
counter_18 (suc (suc zero)) w h k = absurd (omega arith)
counter_18 (suc (suc (suc zero))) w h k = absurd (omega arith)
counter_18 (suc (suc (suc (suc zero)))) w h k = omega arith
counter_18 (suc (suc (suc (suc (suc zero))))) w h k = omega arith
counter_18 (suc (suc (suc (suc (suc (suc n)))))) w h k = absurd (omega arith)

-- ---- of any valid shape

abbrev pub widths_of : List Row → List ℕ
widths_of rs = map (λ (r : Row). r.width) rs

-- L is what the widths add to its start
pub counter-sum : (l : ℕ) (rs : List Row) → counter_bits l rs ≡ l + sum (widths_of rs)
counter-sum l [] = omega arith
counter-sum l (r ∷ rs) = rw (counter-sum (l + r.width) rs) (omega arith)

abbrev shape_tests : Shape → List Bool
shape_tests s =
    leb 1 (length (rows_in s)) ∷ leb (length (rows_in s)) 4 ∷ falling 64 (rows_in s)
    ∷ leb (sum (mark_widths (rows_in s))) 40 ∷ leb (sum (widths_of (rows_in s))) 47 ∷ []

pub record Facts (s : Shape) : Type 0 where
  pub levels : (1 ≤ s.uppers) × (s.uppers ≤ 4)
  pub first : (1 ≤ s.width) × (s.width ≤ 16)
  pub falls : T (falling 64 (rows_in s))
  pub marks : sum (mark_widths (rows_in s)) ≤ 40
  pub widths : sum (widths_of (rows_in s)) ≤ 47

pub facts : (s : Shape) → Valid s → Facts s
facts s v =
    let t : AllT (shape_tests s) = all_tests (shape_tests s) v.rows in
    let w = and_tests (leb 1 s.width) (leb s.width 16) v.width in
    let n : length (rows_in s) ≡ s.uppers = rows-length s.uppers s 0 in
    record {
      levels = (subst (λ k. 1 ≤ k) n (leb→le 1 (length (rows_in s)) t.0), subst (λ k. k ≤ 4) n (leb→le (length (rows_in s)) 4 t.1.0));
      first = (leb→le 1 s.width w.0, leb→le s.width 16 w.1);
      falls = t.1.1.0;
      marks = leb→le (sum (mark_widths (rows_in s))) 40 t.1.1.1.0;
      widths = leb→le (sum (widths_of (rows_in s))) 47 t.1.1.1.1.0;
    }
