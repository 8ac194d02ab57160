-- One level, judged entry by entry; its sum by what stands above each entry.
use mathlib.Core.Path.{◌≡◌, refl, sym, ap, ◌∙◌, subst}
use Prim.Native.Nat.{ℕ, zero, suc, ◌+◌, ◌-◌, ◌*◌, ◌/◌, ◌%◌, ◌^◌, ◌≤◌, ◌<◌, zero-le}
use native.Mathlib.Nat.{div-one, div-eq_of_lt, mul-one, mul-add, add-mul, zero-mul, mul-le-mul_left, sub-zero}
use native.Mathlib.Numerals.{add-one}
use native.Mathlib.Omega.{arith}
use lib.Pow.{pow_mono, shr-shr, split, suc_ones}
use Rattle.std.specs.Prelude.{Option, Some, None}
use Rattle.model.specs.Lists.{sum}
use Rattle.model.specs.Packed.{unpack, bit}
use Rattle.uppers.specs.Judge.{verdict, filled}
use Rattle.uppers.proofs.Judging.{Judging, judging, empty, next, high-cells, all-judged}

pub some_left : (a b : ℕ) → (a ≡ 0 → ⊥) → 0 < a + b
some_left zero b f = absurd (f refl)
some_left (suc a) b f = omega arith

pub some_right : (a b r : ℕ) → r ≡ b → (r ≡ 0 → ⊥) → 0 < a + b
some_right a b zero e f = absurd (f refl)
some_right a b (suc r) e f = omega arith

-- i entries are judged, and x is those from i on: `above` is the sum of the numbers after the first
pub record Summing (w n cells marks x i above : ℕ) : Type 0 where
  pub total : ℕ
  pub judging : Judging w n cells marks total x (marks / 2 ^ i) (n - i)
  pub parts : total + above * (2 ^ w - 1) + x ≡ cells
  pub within : i ≤ n

pub summing : (w n cells marks : ℕ) → Summing w n cells marks cells 0 0
summing w n cells marks = record { total = 0; judging = rw (div-one, sub-zero) (judging w n cells marks); parts = rw zero-mul (omega arith); within = zero-le }

ones_low : (w : ℕ) → 1 ≤ w → 1 ≤ 2 ^ w - 1
ones_low w h = let e : 2 ^ 1 ≤ 2 ^ w = pow_mono h in omega arith

module _ {w n cells marks x i above : ℕ} (g : Summing w n cells marks x i above) where
  abbrev found : Option ℕ
  found = verdict (filled w n cells marks) (sum (unpack w n cells))

  pub level-empty : i < n → x % 2 ^ w ≡ 0 → bit marks i ≡ 0 → None ≡ found
  level-empty h e f = empty g.judging (omega arith) (omega (arith, e, f))

  pub level-next : i < n → 0 < x % 2 ^ w + bit marks i → Summing w n cells marks (x / 2 ^ w) (i + 1) (above + x / 2 ^ w)
  level-next h p =
      let up : marks / 2 ^ i / 2 ≡ marks / 2 ^ (i + 1) = shr-shr marks i 1 in
      let left : n - i - 1 ≡ n - (i + 1) = omega arith in
      let o : 2 ^ w - 1 + 1 ≡ 2 ^ w = rw add-one (suc_ones w) in
      let q : ℕ = x / 2 ^ w in
      let r : q * (2 ^ w - 1) + q ≡ q * 2 ^ w = sym (ap (λ k. q * k) (sym o) ∙ rw (mul-add, mul-one)) in
      record {
        total = g.total + x % 2 ^ w;
        judging = subst (λ k. Judging w n cells marks (g.total + x % 2 ^ w) (x / 2 ^ w) (marks / 2 ^ (i + 1)) k) left
            (subst (λ m. Judging w n cells marks (g.total + x % 2 ^ w) (x / 2 ^ w) m (n - i - 1)) up (next g.judging (omega arith) p));
        parts = rw (add-mul above q (2 ^ w - 1)) (omega (arith, g.parts, split x w));
        within = omega arith;
      }

  -- what stands above an entry is counted at least once in the number
  pub above_le : 1 ≤ w → above ≤ cells
  above_le h =
      let m : above * 1 ≤ above * (2 ^ w - 1) = mul-le-mul_left above (ones_low w h) in
      omega (arith, mul-one above, g.parts)

  pub taken_le : (p : ℕ) → p ≡ 2 ^ w → above * (p - 1) ≤ cells
  taken_le p e = rw e (omega (arith, g.parts))

  pub level-high : i ≡ n → 0 < x → None ≡ found
  level-high e h = high-cells g.judging (omega arith) h

  pub level-done : (p : ℕ) → p ≡ 2 ^ w → i ≡ n → x ≡ 0 → marks < 2 ^ n → Some (cells - above * (p - 1)) ≡ found
  level-done p f e z m =
      let t : cells - above * (p - 1) ≡ g.total = rw f (omega (arith, g.parts)) in
      ap Some t ∙ all-judged g.judging (omega arith) z (rw e (div-eq_of_lt m))
