-- The slot by its spread, and the tests of a spread, case by case.
use mathlib.Core.Logic.{◌≢◌}
use mathlib.Core.Path.{◌≡◌, refl, sym, ap, ◌∙◌}
use mathlib.Core.Bool.{true, ◌&&◌}
use Prim.Native.Nat.{ℕ, zero, suc, ◌*◌, ◌-◌, ◌%◌, ◌^◌, ◌≤◌, ◌<◌}
use native.Mathlib.Nat.{mul-le-mul, zero-mul, one-mul, mod-lt}
use native.Mathlib.Omega.{arith}
use lib.Dec.{ltb, eqb, lit<}
use lib.Pow.{pow_mono}
use borrow.Author.Tests.{lt-ltb, le-ltb}
use Rattle.model.specs.Slots.{reversed, slot, valid_spread}
use Rattle.model.proofs.Slots.{slot_lt}

pub every-below : (b x : ℕ) → 64 ≤ b → x < 2 ^ 64 → true ≡ ltb x (2 ^ b)
every-below b x h l = let m : 2 ^ 64 ≤ 2 ^ b = pow_mono h in sym (lt-ltb x (2 ^ b) (omega arith))

pub times_odd : (b m : ℕ) → b < 2 ^ 64 → m % 2 * b < 2 ^ 64
times_odd b m h = go (m % 2) (mod-lt m (lit< tt))
  where
    go : (r : ℕ) → r < 2 → r * b < 2 ^ 64
    go zero l = omega (arith, zero-mul b)
    go (suc zero) l = omega (arith, one-mul b, h)
    go (suc (suc r)) l = absurd (omega (arith, l))

-- an odd spread is below 2 ^ b, an even one below 2 ^ 0
pub one_test : (b m : ℕ) → ltb m (2 ^ (m % 2 * b)) ≡ valid_spread b m
one_test b zero = ap (λ n. ltb 0 (2 ^ n)) (zero-mul b)
one_test b (suc m) = go (suc m % 2) (mod-lt (suc m) (lit< tt))
  where
    go : (r : ℕ) → r < 2 → ltb (suc m) (2 ^ (r * b)) ≡ (eqb r 1 && ltb (suc m) (2 ^ b))
    go zero l = ap (λ n. ltb (suc m) (2 ^ n)) (zero-mul b) ∙ le-ltb (suc m) 1 (omega arith)
    go (suc zero) l = ap (λ n. ltb (suc m) (2 ^ n)) (one-mul b)
    go (suc (suc r)) l = absurd (omega (arith, l))

-- the product of a flow and a spread of at most 22 bits
pub product_lt : (b m y : ℕ) → b ≤ 22 → m < 2 ^ b → y < 2 ^ b → y * m < 2 ^ 44
product_lt b m y l hm hy =
    let e = pow_mono l in
    let u : y ≤ 2 ^ 22 - 1 = omega arith in
    let v : m ≤ 2 ^ 22 - 1 = omega arith in
    omega (arith, mul-le-mul u v)

pub slot-reversed : (b m y : ℕ) → m ≡ 0 → (reversed b y ≡ slot b m y) × (reversed b y < 2 ^ b)
slot-reversed b m y e = rw e (refl, slot_lt b 0 y)

pub slot-times : (b m y : ℕ) → m ≢ 0 → (y * m % 2 ^ b ≡ slot b m y) × (y * m % 2 ^ b < 2 ^ b)
slot-times b zero y n = absurd (n refl)
slot-times b (suc m) y n = (refl, slot_lt b (suc m) y)
