-- Sums of the entries of a word: their bounds, and the steps of the loops.
use mathlib.Core.Path.{◌≡◌, sym, ap, ◌∙◌}
use mathlib.Core.List.{List}
use Prim.Native.Nat.{ℕ, zero, suc, ◌+◌, ◌-◌, ◌*◌, ◌/◌, ◌%◌, ◌^◌, ◌≤◌, ◌<◌, zero-le}
use native.Mathlib.Nat.{mod-lt, mul-one, suc-mul, mul_comm, add_comm, mul-le-mul, mul-le-mul_left}
use native.Mathlib.Omega.{arith}
use lib.ListN.{get_or, drop}
use lib.Seq.{get_or-drop}
use lib.Pow.{pow_pos, pow_mono, split}
use Rattle.model.specs.Lists.{sum}
use Rattle.model.specs.Packed.{pack, unpack, entry}
use Rattle.model.proofs.Lists.{Below}
use Rattle.model.proofs.Packing.{pack-take}
use Rattle.cells.proofs.Crossing.{below_of}
use Rattle.sums.specs.Sums.{first_sum}
use Rattle.sums.proofs.Lanes.{sum_more, unpack_mod}

-- ---- bounds

pub sum_most : (w n x : ℕ) → sum (unpack w n x) ≤ n * 2 ^ w
sum_most w zero x = zero-le
sum_most w (suc n) x = rw suc-mul (omega (arith, mod-lt x (pow_pos w), sum_most w n (x / 2 ^ w)))

-- digits add up to at most their number
pub sum_self : (v n x : ℕ) → sum (unpack v n x) ≤ x
sum_self v zero x = zero-le
sum_self v (suc n) x =
    let m : x / 2 ^ v * 1 ≤ x / 2 ^ v * 2 ^ v = mul-le-mul_left (x / 2 ^ v) (pow_pos v) in
    omega (arith, split x v, mul-one (x / 2 ^ v), sum_self v n (x / 2 ^ v))

pub small : (w a x : ℕ) → a ≤ 64 → w ≤ 16 → sum (unpack w a x) < 2 ^ 63
small w a x h k =
    let m : a * 2 ^ w ≤ 64 * 2 ^ 16 = mul-le-mul h (pow_mono k) in
    omega (arith, sum_most w a x)

-- ---- one entry more

pub sum_one : (w a x : ℕ) → sum (unpack w (a + 1) x) ≡ sum (unpack w a x) + entry w x a
sum_one w a x = ap (λ n. sum (unpack w n x)) (add_comm a 1) ∙ sum_more w a 1 x ∙ omega arith

-- the first of those that are left
pub left_one : (v n k y total s p : ℕ) → p ≡ 2 ^ v → k < n → total + sum (unpack v (n - k) y) ≡ s → total + y % p + sum (unpack v (n - (k + 1)) (y / 2 ^ v)) ≡ s
left_one v n k y total s p ep h so-far =
    let e : n - k ≡ suc (n - (k + 1)) = omega arith in
    let f = ap (λ i. sum (unpack v i y)) e in
    rw ep (omega arith)

-- ---- the words of level 1: those above do not matter

module _ (w : ℕ) (ws : List ℕ) (at : ℕ) (each : (i : ℕ) → get_or ws i 0 < 2 ^ 64) where
  below : Below (2 ^ 64) (drop at ws)
  below = below_of (2 ^ 64) (drop at ws) (λ i. rw get_or-drop (each (at + i)))

  pub first-sum : (n : ℕ) → n ≡ 64 → sum (unpack w n (pack 64 (drop at ws))) ≡ first_sum w (drop at ws)
  unfolding first_sum
  first-sum n e =
      rw e (ap sum (sym (unpack_mod w 64 (pack 64 (drop at ws))) ∙ ap (λ (k : ℕ). unpack w 64 (pack 64 (drop at ws) % 2 ^ k)) (mul_comm w 64) ∙ ap (unpack w 64) (pack-take 64 (drop at ws) w below)))
