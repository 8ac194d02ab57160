-- The fewest digits that hold a number, and its decimal.
use mathlib.Core.Path.{◌≡◌, refl, ap, ◌∙◌}
use mathlib.Core.Bool.{Bool, true, false}
use mathlib.Core.List.{[], ◌∷◌}
use Prim.Native.Nat.{ℕ, zero, suc, ◌+◌, ◌-◌, ◌/◌, ◌%◌, ◌^◌, ◌≤◌, ◌<◌}
use native.Mathlib.Nat.{pow-suc, pow-le-pow_right, zero-lt-suc, le_antisymm, add-zero, add-suc, suc-add}
use native.Mathlib.Numerals.{add-one, one-add, sub-one}
use native.Mathlib.Decide.{dec_le}
use native.Mathlib.Omega.{arith}
use borrow.Author.Tests.{ltb-true, ltb-false}
use lib.Dec.{ltb}
use lib.ListN.{length, length-append}
use Rattle.io.specs.Digits.{hex_digit_ascii, last_digits, IsDigitCount}
use Rattle.model.specs.Lists.{choose}
use Rattle.texts.specs.Texts.{places_from, places, decimal}

pub length_digits : (b k n : ℕ) → length (last_digits b k n) ≡ k
length_digits b zero n = refl
length_digits b (suc k) n = length-append (last_digits b k (n / b)) (hex_digit_ascii (n % b) ∷ []) ∙ ap (λ m. m + 1) (length_digits b k (n / b)) ∙ add-one k

-- no more digits than any number of them that holds n
pub fewest_least : (n k m : ℕ) → IsDigitCount 10 1 n k → 1 ≤ m → n < 10 ^ m → k ≤ m
fewest_least n k m w p h = by (dec_le k m)
  where
    by : Dec (k ≤ m) → k ≤ m
    by (yes l) = l
    by (no l) = absurd (omega (arith, w.2 (omega arith), pow-le-pow_right {n = 10} (zero-lt-suc 9) {i = m} {j = k - 1} (omega arith)))

below_power : (n : ℕ) → n < 10 ^ n
below_power zero = omega arith
below_power (suc n) = rw (pow-suc 10 n) (omega (arith, below_power n))

fewest_from : (f k n : ℕ) → 1 ≤ k → (1 < k → 10 ^ (k - 1) ≤ n) → n < 10 ^ (k + f) → IsDigitCount 10 1 n (places_from f k n)
fewest_from zero k n p q h = (p, rw (add-zero k) at h, q)
fewest_from (suc f) k n p q h = by (ltb n (10 ^ k)) refl (λ l. fewest_from f (suc k) n (omega arith) (λ i. rw (sub-one (suc k)) l) (rw (suc-add k f, ← add-suc k f) h))
  where
    by : (b : Bool) → ltb n (10 ^ k) ≡ b → (10 ^ k ≤ n → IsDigitCount 10 1 n (places_from f (suc k) n)) → IsDigitCount 10 1 n (choose b k (places_from f (suc k) n))
    by true e go = (p, ltb-true n (10 ^ k) e, q)
    by false e go = go (ltb-false n (10 ^ k) e)

pub places_fewest : (n : ℕ) → IsDigitCount 10 1 n (places n)
unfolding places
places_fewest n = fewest_from n 1 n (omega arith) (λ i. absurd (omega arith)) (rw (one-add n, pow-suc 10 n) (omega (arith, below_power n)))

-- the fewest digits that hold n are its decimal
pub decimal_is : (n k : ℕ) → IsDigitCount 10 1 n k → last_digits 10 k n ≡ decimal n
unfolding decimal
decimal_is n k w =
    let p = places_fewest n in
    ap (λ m. last_digits 10 m n) (le_antisymm (fewest_least n k (places n) w p.0 p.1) (fewest_least n (places n) k p w.0 w.1))
