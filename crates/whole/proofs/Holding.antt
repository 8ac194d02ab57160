-- Numbers and their holders: each number has one holder exactly where no holder came second and there are as many holders as numbers.
use mathlib.Core.Logic.{◌≢◌}
use mathlib.Core.Path.{◌≡◌, refl, ap, ◌∙◌}
use Prim.Native.Nat.{ℕ, zero, suc, ◌+◌, ◌*◌, ◌≤◌, ◌<◌, suc-le-suc, zero-le}
use native.Mathlib.Nat.{le_of_suc-le-suc, not-suc-le-zero, zero-lt-suc, suc-mul}
use native.Mathlib.Numerals.{add-one}
use native.Mathlib.Omega.{arith}
use Rattle.model.specs.Lists.{sum, tabulate}
use Rattle.model.specs.Levels.{sign}
use Rattle.model.proofs.Ranks.{sign_lt}
use Rattle.model.proofs.Sums.{sum_change}

-- ---- sums of a rule

pub sum-last : (n : ℕ) (f : ℕ → ℕ) → sum (tabulate (n + 1) f) ≡ sum (tabulate n f) + f n
sum-last n f = ap (λ k. sum (tabulate k f)) (add-one n) ∙ go n f
  where
    go : (n : ℕ) (f : ℕ → ℕ) → sum (tabulate (suc n) f) ≡ sum (tabulate n f) + f n
    go zero f = omega arith
    go (suc n) f = omega (arith, go n (λ i. f (suc i)))

pub sum-within : (n m : ℕ) (f : ℕ → ℕ) → ((k : ℕ) → k < n → f k ≤ m) → sum (tabulate n f) ≤ n * m
sum-within zero m f h = zero-le
sum-within (suc n) m f h = omega (arith, h 0 (zero-lt-suc n), sum-within n m (λ i. f (suc i)) (λ k l. h (suc k) (suc-le-suc l)), suc-mul n m)

pub sum_units : (n : ℕ) (f : ℕ → ℕ) → ((k : ℕ) → k < n → f k ≡ 1) → sum (tabulate n f) ≡ n
sum_units zero f h = refl
sum_units (suc n) f h = omega (arith, h 0 (zero-lt-suc n), sum_units n (λ i. f (suc i)) (λ k l. h (suc k) (suc-le-suc l)))

-- ---- s q holders of the number q

sign_le : (n : ℕ) → sign n ≤ n
sign_le zero = zero-le
sign_le (suc n) = suc-le-suc zero-le

signs_le : (u : ℕ) (s : ℕ → ℕ) → sum (tabulate u (λ q. sign (s q))) ≤ sum (tabulate u s)
signs_le zero s = zero-le
signs_le (suc u) s = omega (arith, sign_le (s 0), signs_le u (λ q. s (suc q)))

signs_most : (u : ℕ) (s : ℕ → ℕ) → sum (tabulate u (λ q. sign (s q))) ≤ u
signs_most zero s = zero-le
signs_most (suc u) s = omega (arith, sign_lt (s 0), signs_most u (λ q. s (suc q)))

-- no second holder, and as many as numbers: each has one
pub each-one : (u : ℕ) (s : ℕ → ℕ) → sum (tabulate u s) ≤ sum (tabulate u (λ q. sign (s q))) → u ≤ sum (tabulate u s) → (q : ℕ) → q < u → s q ≡ 1
each-one zero s a b q h = absurd (not-suc-le-zero h)
each-one (suc u) s a b q h =
    let f0 = sign_le (s 0) in
    let f1 = sign_lt (s 0) in
    let f2 = signs_le u (λ q. s (suc q)) in
    let f3 = signs_most u (λ q. s (suc q)) in
    let e : s 0 ≡ 1 = omega arith in
    go q h e (each-one u (λ q. s (suc q)) (omega arith) (omega arith))
  where
    go : (q : ℕ) → q < suc u → s 0 ≡ 1 → ((k : ℕ) → k < u → s (suc k) ≡ 1) → s q ≡ 1
    go zero h e f = e
    go (suc q) h e f = f q (le_of_suc-le-suc h)

-- one holder more, of the number n
module _ (u n : ℕ) (s r : ℕ → ℕ) (l : n < u) (e : r n ≡ s n + 1) (z : (q : ℕ) → q ≢ n → r q ≡ s q) where
  pub one_more : sum (tabulate u r) ≡ sum (tabulate u s) + 1
  one_more = omega (arith, sum_change u s r n l (λ q k. z q))

  pub sign-here : sign (r n) ≡ 1
  sign-here = ap sign (e ∙ add-one (s n))

  pub one_first : sign (s n) + sum (tabulate u (λ q. sign (r q))) ≡ sum (tabulate u (λ q. sign (s q))) + 1
  one_first = omega (arith, sum_change u (λ q. sign (s q)) (λ q. sign (r q)) n l (λ q k d. ap sign (z q d)), sign-here)
