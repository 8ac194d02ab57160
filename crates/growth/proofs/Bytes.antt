-- The rows and levels of a shape by the bytes of its two numbers, as the crates that read a bucket in place have them.
use mathlib.Core.Path.{◌≡◌, refl, sym, ap, ap₂, ◌∙◌, subst₂}
use mathlib.Core.Bool.{Bool}
use mathlib.Core.List.{List, ◌∷◌}
use Prim.Native.Nat.{ℕ, zero, suc, ◌+◌, ◌*◌, ◌/◌, ◌%◌, ◌^◌, ◌≤◌}
use native.Mathlib.Nat.{mul-suc, div-one}
use native.Mathlib.Omega.{arith}
use lib.ListN.{get_or}
use lib.Count.{ones}
use lib.Pow.{shr-shr}
use Rattle.model.specs.Shapes.{row}
use Rattle.model.specs.Levels.{level}
use Rattle.model.proofs.Tools.{Each}
use Rattle.model.proofs.Coding.{height}
use Rattle.shapes.specs.declared.Shape.{Shape}
use Rattle.shapes.specs.Shapes.{rows_from, rows_in, entries_at, width_at}
use Rattle.uppers.specs.Uppers as uppers
use Rattle.rooms.specs.Growth.{room_to_enter, room_to_raise}
use Rattle.rooms.specs.Rooms.{room_by, raise_by, SaysRoom, SaysRaise}
use Rattle.growth.specs.Levels.{Fit, levels_from}
use Rattle.growth.proofs.Ahead.{RowFacts, marks_ahead, ahead, at-start}

-- the next byte
next_byte : (x j : ℕ) → x / 2 ^ (8 * j) / 256 ≡ x / 2 ^ (8 * suc j)
next_byte x j = shr-shr x (8 * j) 8 ∙ ap (λ n. x / 2 ^ n) (sym (mul-suc 8 j))

pub rows-by : (n : ℕ) (s : Shape) (j : ℕ) → uppers.rows_by n (s.entries / 2 ^ (8 * j)) (s.widths / 2 ^ (8 * j)) ≡ rows_from n s j
unfolding uppers.rows_by rows_from
rows-by zero s j = refl
rows-by (suc n) s j = rw (next_byte s.entries j, next_byte s.widths j) (ap (λ rs. row (entries_at s j) (width_at s j) ∷ rs) (rows-by n s (suc j)))

levels-by : (n : ℕ) (s : Shape) (us : List ℕ) (g j : ℕ) → uppers.levels_by n us j g (s.entries / 2 ^ (8 * j)) ≡ levels_from n s us g j
unfolding uppers.levels_by levels_from
levels-by zero s us g j = refl
levels-by (suc zero) s us g j = refl
levels-by (suc (suc n)) s us g j = rw (next_byte s.entries j) (ap (λ ls. level (get_or us j 0) (g % 2 ^ entries_at s j) ∷ ls) (levels-by (suc n) s us (g / 2 ^ entries_at s j) (suc j)))

ahead_by : (n : ℕ) (s : Shape) (j t : ℕ) → Each RowFacts (rows_from n s j) → t + height (rows_from n s j) ≤ 47 → marks_ahead n s j ≤ 40
    → uppers.Ahead n (s.entries / 2 ^ (8 * j)) (s.widths / 2 ^ (8 * j)) t
unfolding rows_from
ahead_by zero s j t f h k = tt
ahead_by (suc zero) s j t f h k = (f.0.wide, f.0.most, omega arith, tt, tt)
ahead_by (suc (suc n)) s j t f h k =
    (f.0.wide, f.0.most, omega arith, omega arith, subst₂ (λ e w. uppers.Ahead (suc n) e w (t + width_at s j)) (sym (next_byte s.entries j)) (sym (next_byte s.widths j)) (ahead_by (suc n) s (suc j) (t + width_at s j) f.1 (omega arith) (omega arith)))

-- ---- of a whole shape

module _ (s : Shape) where
  entries_0 : s.entries / 2 ^ (8 * 0) ≡ s.entries
  entries_0 = div-one s.entries

  widths_0 : s.widths / 2 ^ (8 * 0) ≡ s.widths
  widths_0 = div-one s.widths

  pub rows-in : uppers.rows_by s.uppers s.entries s.widths ≡ rows_in s
  rows-in = ap₂ (uppers.rows_by s.uppers) (sym entries_0) (sym widths_0) ∙ rows-by s.uppers s 0

  pub levels_in : (us : List ℕ) (g : ℕ) → uppers.levels_by s.uppers us 0 g s.entries ≡ levels_from s.uppers s us g 0
  levels_in us g = ap (uppers.levels_by s.uppers us 0 g) (sym entries_0) ∙ levels-by s.uppers s us g 0

  pub ahead_in : Fit s → uppers.Ahead s.uppers s.entries s.widths 0
  ahead_in f =
      let a = ahead (at-start f) in
      subst₂ (λ e w. uppers.Ahead s.uppers e w 0) entries_0 widths_0 (ahead_by s.uppers s 0 0 a.rows (omega (arith, a.low)) a.marks)

  -- ---- the room that was told of the marks alone

  pub said_enter : (us : List ℕ) (g m v : ℕ) (r : Bool) → SaysRoom s.uppers g s.entries s.widths m v r → r ≡ room_to_enter (rows_in s) (ones m) (levels_from s.uppers s us g 0) v
  unfolding room_by
  said_enter us g m v r h = h us 0 ∙ ap₂ (λ rs ls. room_to_enter rs (ones m) ls v) rows-in (levels_in us g)

  pub said-raise : (us : List ℕ) (g a v : ℕ) (r : Bool) → SaysRaise s.uppers g s.entries s.widths a v r → r ≡ room_to_raise (rows_in s) (levels_from s.uppers s us g 0) a v
  unfolding raise_by
  said-raise us g a v r h = h us 0 ∙ ap₂ (λ rs ls. room_to_raise rs ls a v) rows-in (levels_in us g)
