-- An odd number has an inverse modulo 2 ^ b, and multiplying by it undoes multiplying by the number.
use mathlib.Core.Path.{◌≡◌, sym, ap, ◌∙◌}
use Prim.Native.Nat.{ℕ, zero, suc, ◌+◌, ◌*◌, ◌/◌, ◌%◌, ◌^◌, ◌<◌}
use native.Mathlib.Nat.{mul_assoc, mul_comm, add-mul, mul-add, mul-one, mul_right_comm, pow-suc, mod-eq_of_lt, mul-add-mod_self_right, div-add-mod'}
use native.Mathlib.Omega.{arith}

-- m times by is 1 modulo p
pub record Inverse (p m : ℕ) : Type 0 where
  pub by : ℕ
  pub times : ℕ
  pub product : m * by ≡ times * p + 1

-- where m * n is x + 1, m * (n + x) is x * (m + 1) + 1, and half of m + 1 is k + 1
doubled : (k n x : ℕ) → (k * 2 + 1) * n ≡ x + 1 → (k * 2 + 1) * (n + x) ≡ x * (k + 1) * 2 + 1
doubled k n x e = omega (arith, e, mul-add (k * 2 + 1) n x, add-mul (k * 2) 1 x, mul_right_comm k 2 x, mul-add x k 1, mul_comm x k, mul-one x)

-- of an odd number, its half being k
pub inverse : (b k : ℕ) → Inverse (2 ^ b) (k * 2 + 1)
inverse zero k = record { by = 1; times = k * 2; product = omega arith }
inverse (suc b) k =
    let i = inverse b k in
    let q : ℕ = i.times in
    record {
      by = i.by + q * 2 ^ b;
      times = q * (k + 1);
      product = doubled k i.by (q * 2 ^ b) i.product ∙ ap (λ n. n + 1) (ap (λ n. n * 2) (mul_right_comm q (2 ^ b) (k + 1)) ∙ mul_assoc (q * (k + 1)) (2 ^ b) 2 ∙ ap (λ n. q * (k + 1) * n) (sym (pow-suc 2 b)));
    }

pub times_mod : (x n p : ℕ) → x % p * n % p ≡ x * n % p
times_mod x n p =
    sym (ap (λ z. z * n % p) (sym (div-add-mod' x p)) ∙ ap (λ z. z % p) (add-mul (x / p * p) (x % p) n ∙ ap (λ z. z + x % p * n) (mul_right_comm (x / p) p n))
    ∙ mul-add-mod_self_right (x / p * n) p (x % p * n))

-- multiplying by one undoes multiplying by the other
pub undone : (p m n q s : ℕ) → m * n ≡ q * p + 1 → s < p → s * m % p * n % p ≡ s
undone p m n q s e h =
    times_mod (s * m) n p ∙ ap (λ z. z % p) (mul_assoc s m n ∙ ap (λ z. s * z) e ∙ mul-add s (q * p) 1 ∙ ap (λ z. z + s * 1) (sym (mul_assoc s q p)))
    ∙ mul-add-mod_self_right (s * q) p (s * 1) ∙ ap (λ z. z % p) (mul-one s) ∙ mod-eq_of_lt h
