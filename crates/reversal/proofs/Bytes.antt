-- Bits reversed by parts of k: each part reversed by a table, and the parts in reverse order.
use mathlib.Core.Path.{◌≡◌, refl, sym, ap, ap₂, ◌∙◌}
use mathlib.Core.List.{List}
use Prim.Native.Nat.{ℕ, zero, suc, ◌+◌, ◌-◌, ◌*◌, ◌/◌, ◌%◌, ◌^◌, ◌≤◌, ◌<◌}
use native.Mathlib.Nat.{zero-add, suc-add, zero-mul, add-mul, mul_assoc, add_assoc, div-one, pow-zero, add-sub_of_le}
use native.Mathlib.Numerals.{one-add, add-one}
use lib.Dec.{T, eqb, eqb→eq}
use lib.ListN.{get_or}
use lib.Pow.{pow-add, shr-shr, high, mod-mod-pow, field}
use Rattle.model.specs.Lists.{every}
use Rattle.model.specs.Slots.{reversed}
use Rattle.model.proofs.Slots.{reversed_lt, reversed-suc}
use Rattle.model.proofs.Tests.{every-at}

-- a table that passes the test over its 2 ^ k entries holds the reversed k bits: three entries of it, for which the test is computed once
module _ (k : ℕ) (table : List ℕ) (right : T (every (2 ^ k) (λ i. eqb (get_or table i 0) (reversed k i)))) where
  entry-reversed : (y : ℕ) → y < 2 ^ k → get_or table y 0 ≡ reversed k y
  entry-reversed y h = eqb→eq (get_or table y 0) (reversed k y) (every-at (2 ^ k) (λ i. eqb (get_or table i 0) (reversed k i)) right y h)

  pub table_right : (m n x y z : ℕ) → x < 2 ^ k → y < 2 ^ k → z < 2 ^ k → get_or table x 0 * m + get_or table y 0 * n + get_or table z 0 ≡ reversed k x * m + reversed k y * n + reversed k z
  table_right m n x y z hx hy hz = ap₂ ◌+◌ (ap₂ (λ (u v : ℕ). u * m + v * n) (entry-reversed x hx) (entry-reversed y hy)) (entry-reversed z hz)

-- a + b bits reversed: the a low ones, above the others
reversed_add : (a b y : ℕ) → reversed (a + b) y ≡ reversed a y * 2 ^ b + reversed b (y / 2 ^ a)
reversed_add zero b y = simp (zero-add, zero-mul, pow-zero, div-one)
reversed_add (suc a) b y =
    ap (λ (n : ℕ). reversed n y) (suc-add a b)
    ∙ reversed-suc (a + b) y
    ∙ ap (λ (n : ℕ). y % 2 * 2 ^ (a + b) + n) (reversed_add a b (y / 2))
    ∙ ap (λ (n : ℕ). y % 2 * 2 ^ (a + b) + (reversed a (y / 2) * 2 ^ b + reversed b n)) (shr-shr y 1 a ∙ ap (λ (n : ℕ). y / 2 ^ n) (one-add a))
    ∙ parts (y % 2) (reversed a (y / 2)) (reversed b (y / 2 ^ suc a))
    ∙ ap (λ (n : ℕ). n * 2 ^ b + reversed b (y / 2 ^ suc a)) (sym (reversed-suc a y))
  where
    parts : (x u v : ℕ) → x * 2 ^ (a + b) + (u * 2 ^ b + v) ≡ (x * 2 ^ a + u) * 2 ^ b + v
    parts x u v = simp (pow-add, add-mul, mul_assoc, add_assoc)

-- b + c bits reversed end with the c bits above: cut off, the b bits reversed are left
reversed_shr : (b c y : ℕ) → reversed (b + c) y / 2 ^ c ≡ reversed b y
reversed_shr b c y = ap (λ (n : ℕ). n / 2 ^ c) (reversed_add b c y) ∙ high (reversed b y) c (reversed_lt c (y / 2 ^ b))

-- only the b low bits count
reversed_mod : (b y : ℕ) → reversed b (y % 2 ^ b) ≡ reversed b y
reversed_mod zero y = refl
reversed_mod (suc b) y =
    reversed-suc b (y % 2 ^ suc b)
    ∙ ap₂ (λ (u v : ℕ). u * 2 ^ b + reversed b v)
    (ap (λ (n : ℕ). y % 2 ^ n % 2) (sym (add-one b)) ∙ mod-mod-pow y b 1)
    (ap (λ (n : ℕ). y % 2 ^ n / 2) (sym (add-one b)) ∙ field y b 1)
    ∙ ap (λ (n : ℕ). y % 2 * 2 ^ b + n) (reversed_mod b (y / 2))
    ∙ sym (reversed-suc b y)

module _ (k b y low middle high : ℕ) (low-is : low ≡ reversed k (y % 2 ^ k)) (middle-is : middle ≡ reversed k (y / 2 ^ k % 2 ^ k)) (high_is : high ≡ reversed k (y / 2 ^ (k + k) % 2 ^ k)) where
  all : reversed (k + (k + k)) y ≡ low * 2 ^ (k + k) + middle * 2 ^ k + high
  all =
      reversed_add k (k + k) y
      ∙ ap (λ (n : ℕ). reversed k y * 2 ^ (k + k) + n) (reversed_add k k (y / 2 ^ k) ∙ ap (λ (n : ℕ). reversed k (y / 2 ^ k) * 2 ^ k + reversed k n) (shr-shr y k k))
      ∙ sym (add_assoc (reversed k y * 2 ^ (k + k)) (reversed k (y / 2 ^ k) * 2 ^ k) (reversed k (y / 2 ^ (k + k))))
      ∙ rw (low-is, middle-is, high_is, reversed_mod k y, reversed_mod k (y / 2 ^ k), reversed_mod k (y / 2 ^ (k + k)))

  pub reversed-parts : b ≤ k + (k + k) → (low * 2 ^ (k + k) + middle * 2 ^ k + high) / 2 ^ (k + (k + k) - b) ≡ reversed b y
  reversed-parts hb =
      ap (λ (n : ℕ). n / 2 ^ (k + (k + k) - b)) (sym all ∙ ap (λ (n : ℕ). reversed n y) (sym (add-sub_of_le hb)))
      ∙ reversed_shr b (k + (k + k) - b) y
