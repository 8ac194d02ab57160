-- What is known of the levels ahead of a walk over the upper levels of a shape that fits.
use mathlib.Core.Path.{◌≡◌, refl, sym, ◌∙◌, subst}
use mathlib.Core.Bool.{◌&&◌}
use mathlib.Core.List.{List, [], ◌∷◌}
use Prim.Native.Nat.{ℕ, zero, suc, ◌+◌, ◌-◌, ◌*◌, ◌≤◌, ◌<◌}
use native.Mathlib.Nat.{not-suc-le-zero, mul_comm, zero-add}
use native.Mathlib.Numerals.{add-one, sub-one}
use native.Mathlib.Omega.{arith}
use lib.Dec.{T, leb, leb→le}
use Rattle.model.specs.Lists.{sum}
use Rattle.model.specs.Shapes.{Row, valid_row, falling, all_rows, mark_widths}
use Rattle.model.proofs.Tools.{Each, all_tests, and_tests}
use Rattle.model.proofs.Coding.{height}
use Rattle.shapes.specs.declared.Shape.{Shape}
use Rattle.shapes.specs.Shapes.{rows_from, rows_in, entries_at, width_at}
use Rattle.shapes.proofs.Shapes.{facts, counter-sum, widths_of}
use Rattle.growth.specs.Levels.{Fit, At}

-- the bits of marks of the levels ahead
abbrev pub marks_ahead : ℕ → Shape → ℕ → ℕ
marks_ahead left s j = sum (mark_widths (rows_from left s j))

-- a valid row, fact by fact
pub record RowFacts (r : Row) : Type 0 where
  pub some : 1 ≤ r.entries
  pub wide : 1 ≤ r.width
  pub most : r.width ≤ 16
  pub word : r.width * r.entries ≤ 64

pub row_facts : (r : Row) → T (valid_row r) → RowFacts r
row_facts r t =
    let v = all_tests (leb 1 r.entries ∷ leb 1 r.width ∷ leb r.width 16 ∷ leb (r.entries * r.width) 64 ∷ []) t in
    record {
      some = leb→le 1 r.entries v.0;
      wide = leb→le 1 r.width v.1.0;
      most = leb→le r.width 16 v.1.1.0;
      word = subst (λ n. n ≤ 64) (mul_comm r.entries r.width) (leb→le (r.entries * r.width) 64 v.1.1.1.0);
    }

rows_facts : (k : ℕ) (rs : List Row) → T (falling k rs) → Each RowFacts rs
rows_facts k [] t = tt
rows_facts k (r ∷ rs) t =
    let u = and_tests (valid_row r) (falling r.entries rs) (and_tests (leb r.entries k) (valid_row r && falling r.entries rs) t).1 in
    (row_facts r u.0, rows_facts r.entries rs u.1)

height_widths : (rs : List Row) → height rs ≡ sum (widths_of rs)
height_widths [] = refl
height_widths (r ∷ rs) = omega (arith, height_widths rs)

-- L of the whole bucket
pub height_all : (s : Shape) → Fit s → height (all_rows s.width (rows_in s)) ≤ 47
height_all s f = omega (arith, height_widths (rows_in s), counter-sum s.width (rows_in s), f.narrow)

pub record Ahead (s : Shape) (left j : ℕ) : Type 0 where
  pub low : height (rows_from left s j) ≤ 47
  pub marks : marks_ahead left s j ≤ 40
  pub rows : Each RowFacts (rows_from left s j)

ahead_suc : {s : Shape} {left j : ℕ} → Ahead s (suc left) j → Ahead s left (suc j)
unfolding rows_from
ahead_suc a = record { low = omega (arith, a.low); marks = omega (arith, a.marks); rows = a.rows.1 }

ahead_from : (s : Shape) → Fit s → (j left : ℕ) → j + left ≡ s.uppers → Ahead s left j
ahead_from s f zero left e =
    let n : s.uppers ≡ left = sym e ∙ zero-add left in
    subst (λ k. Ahead s k 0) n (record {
      low = omega (arith, height_all s f);
      marks = (facts s f.valid).marks;
      rows = rows_facts 64 (rows_in s) (facts s f.valid).falls;
    })
ahead_from s f (suc j) left e = ahead_suc (ahead_from s f j (suc left) (omega arith))

pub ahead : {s : Shape} {left j : ℕ} → At s left j → Ahead s left j
ahead {s} {left} {j} p = ahead_from s p.fit j left p.place

-- ---- this level and the next

pub at-start : {s : Shape} → Fit s → At s s.uppers 0
at-start {s} f = record { fit = f; place = zero-add s.uppers }

pub at_next : {s : Shape} {left j : ℕ} → At s left j → 0 < left → At s (left - 1) (j + 1)
at_next p h = record { fit = p.fit; place = omega (arith, p.place) }

pub marks-next : (s : Shape) (left j : ℕ) → 1 < left → marks_ahead left s j ≡ entries_at s j + marks_ahead (left - 1) s (j + 1)
unfolding rows_from
marks-next s zero j h = absurd (omega arith)
marks-next s (suc zero) j h = absurd (omega arith)
marks-next s (suc (suc n)) j h = rw (sub-one, add-one)

pub record Here (s : Shape) (left j : ℕ) : Type 0 where
  pub index : j < 4
  pub narrow : width_at s j ≤ 16
  pub wide : 1 ≤ width_at s j
  pub word : width_at s j * entries_at s j ≤ 64
  pub some : 1 ≤ entries_at s j

here-at : (s : Shape) (left j : ℕ) → At s left j → 0 < left → Here s left j
unfolding rows_from
here-at s zero j p h = absurd (not-suc-le-zero h)
here-at s (suc n) j p h =
    let r = (ahead p).rows.0 in
    record { index = omega (arith, p.place, (facts s p.fit.valid).levels); narrow = r.most; wide = r.wide; word = r.word; some = r.some }

pub here : {s : Shape} {left j : ℕ} → At s left j → 0 < left → Here s left j
here {s} {left} {j} p h = here-at s left j p h

-- a level that another one follows has its marks in the packed word
pub few : {s : Shape} {left j : ℕ} → At s left j → 1 < left → entries_at s j ≤ 40
few {s} {left} {j} p h = omega (arith, (ahead p).marks, marks-next s left j h)
