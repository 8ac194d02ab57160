-- A walk over the set marks of a word, lowest first.
use mathlib.Core.Path.{◌≡◌, refl, sym, ap, ◌∙◌, subst}
use Prim.Native.Nat.{ℕ, zero, suc, ◌+◌, ◌-◌, ◌*◌, ◌/◌, ◌%◌, ◌^◌, ◌≤◌, ◌<◌, suc-le-suc}
use native.Mathlib.Nat.{le_trans, le_of_eq, div-mul-le_self, zero-div, zero-lt-suc, lt_of_not-le, le_of_suc-le-suc, add-mul, mul-one, mul_comm, mul_assoc, mul-mod_left, div-one, div-div-eq-div-mul, pow-suc, pow-succ'}
use native.Mathlib.Numerals.{add-one}
use native.Mathlib.Omega.{arith}
use lib.Count.{count_trailing_zeros, under}
use lib.Pow.{pow-add, shl-shr, shr-shr}
use Rattle.model.specs.Packed.{bit}

-- t is the lowest set mark of n, of d
pub record Lowest (d n t : ℕ) : Type 0 where
  pub within : t < d
  pub set : bit n t ≡ 1
  pub rest : n / 2 ^ t * 2 ^ t ≡ n

pub lowest : (d n : ℕ) → 0 < n → n < 2 ^ d → Lowest d n (count_trailing_zeros d n)
unfolding count_trailing_zeros
lowest zero n h k = absurd (omega arith)
lowest (suc d) n h k = go (n % 2) refl (λ p. lowest d (n / 2) p (omega (arith, pow-suc 2 d)))
  where
    go : (r : ℕ) → n % 2 ≡ r → (0 < n / 2 → Lowest d (n / 2) (count_trailing_zeros d (n / 2))) → Lowest (suc d) n (under r (count_trailing_zeros d (n / 2)))
    go zero e ih =
        let t = count_trailing_zeros d (n / 2) in
        let l = ih (omega arith) in
        let q : n / 2 ^ suc t ≡ n / 2 / 2 ^ t = ap (λ x. n / x) (pow-succ' 2 t) ∙ sym (div-div-eq-div-mul n 2 (2 ^ t)) in
        record {
          within = suc-le-suc l.within;
          set = ap (λ x. x % 2) q ∙ l.set;
          rest = rw (q, pow-suc 2 t, ← mul_assoc, l.rest) (omega arith);
        }
    go (suc r) e ih = record { within = zero-lt-suc d; set = ap (λ x. x % 2) (div-one n) ∙ omega arith; rest = mul-one (n / 1) ∙ div-one n }

-- a multiple of 2 ^ k has no mark below k
low_clear : (q i j : ℕ) → bit (q * 2 ^ (i + suc j)) i ≡ 0
low_clear q i j =
    let e : q * 2 ^ (i + suc j) ≡ q * 2 ^ j * 2 * 2 ^ i = rw (pow-add 2 i (suc j), pow-suc 2 j, mul_comm (2 ^ i) (2 ^ j * 2)) (sym (mul_assoc q (2 ^ j * 2) (2 ^ i)) ∙ ap (λ y. y * 2 ^ i) (sym (mul_assoc q (2 ^ j) 2))) in
    ap (λ y. y / 2 ^ i % 2) e ∙ ap (λ y. y % 2) (shl-shr (q * 2 ^ j * 2) i) ∙ mul-mod_left (q * 2 ^ j) 2

clear_below : (q k i : ℕ) → i < k → bit (q * 2 ^ k) i ≡ 0
clear_below q k i h = subst (λ n. bit (q * 2 ^ n) i ≡ 0) (omega arith) (low_clear q i (k - suc i))

odd : (q p : ℕ) → q % 2 ≡ 1 → q * p ≡ q / 2 * (p * 2) + p
odd q p e =
    let d : q ≡ q / 2 * 2 + 1 = omega arith in
    ap (λ y. y * p) d ∙ rw (add-mul, mul_assoc (q / 2) 2 p, mul_comm 2 p) (omega arith)

-- m has the marks of x from k on
module _ (x k m : ℕ) (e : m ≡ x / 2 ^ k * 2 ^ k) where
  kept : (i : ℕ) → k ≤ i → m / 2 ^ i ≡ x / 2 ^ i
  kept i h =
      subst (λ n. m / 2 ^ n ≡ x / 2 ^ n) (omega arith)
      (sym (shr-shr m k (i - k)) ∙ ap (λ y. y / 2 ^ (i - k)) (ap (λ y. y / 2 ^ k) e ∙ shl-shr (x / 2 ^ k) k) ∙ shr-shr x k (i - k))

  pub no_more : m ≤ x
  no_more = le_trans (le_of_eq e) (div-mul-le_self x (2 ^ k))

  pub none_left : m ≡ 0 → (i : ℕ) → k ≤ i → bit x i ≡ 0
  none_left z i h = ap (λ y. y % 2) (sym (kept i h) ∙ ap (λ y. y / 2 ^ i) z ∙ zero-div (2 ^ i))

  module _ (d t : ℕ) (l : Lowest d m t) where
    pub passed : k ≤ t
    passed = le_of_suc-le-suc (lt_of_not-le (λ (h : suc t ≤ k). omega (arith, l.set, ap (λ y. bit y t) e ∙ clear_below (x / 2 ^ k) k t h)))

    pub between : (i : ℕ) → k ≤ i → i < t → bit x i ≡ 0
    between i h j = ap (λ y. y % 2) (sym (kept i h)) ∙ ap (λ y. bit y i) (sym l.rest) ∙ clear_below (m / 2 ^ t) t i j

    pub here : bit x t ≡ 1
    here = ap (λ y. y % 2) (sym (kept t passed)) ∙ l.set

    whole : m ≡ x / 2 ^ suc t * 2 ^ suc t + 2 ^ t
    whole =
        sym l.rest ∙ ap (λ y. y * 2 ^ t) (kept t passed) ∙ odd (x / 2 ^ t) (2 ^ t) here
        ∙ rw (pow-suc 2 t, ← div-div-eq-div-mul x (2 ^ t) 2)

    pub enough : 2 ^ t ≤ m
    enough = omega (arith, whole)

    pub taken : m - 2 ^ t ≡ x / 2 ^ (t + 1) * 2 ^ (t + 1)
    taken = rw add-one (omega (arith, whole))
