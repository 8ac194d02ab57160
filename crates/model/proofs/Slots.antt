-- Each slot has exactly one flow, whatever the spread: a spread is undone by another, the reversed bits by themselves.
use mathlib.Core.Path.{◌≡◌, refl, sym, ap, ap₂, ◌∙◌}
use mathlib.Core.List.{List, [], ◌∷◌, reverse, reverse_aux, reverse-cons, reverse-reverse}
use Prim.Native.Nat.{ℕ, zero, suc, ◌+◌, ◌-◌, ◌*◌, ◌/◌, ◌%◌, ◌^◌, ◌≤◌, ◌<◌}
use native.Mathlib.Nat.{one-mul, zero-add, mul_assoc, mul_comm, mod-eq_of_lt, mod-lt, div-one, pow-suc, le_trans}
use native.Mathlib.Decide.{dec_lt}
use native.Mathlib.Omega.{arith}
use lib.Dec.{T, eqb, ltb, eqb→eq, ltb→lt, lt→ltb, lit<}
use lib.Pow.{shr-shr, high, field, pow_pos, pow_mono, mod-mod-pow}
use lib.ListN.{length, length-reverse}
use Rattle.model.specs.Lists.{by_mark}
use Rattle.model.specs.Packed.{pack, unpack, bit}
use Rattle.model.specs.Slots.{reversed, slot, valid_spread}
use Rattle.model.proofs.Lists.{Below}
use Rattle.model.proofs.Tools.{and_tests, tests_and}
use Rattle.model.proofs.AcrossWords.{mod_high}
use Rattle.model.proofs.Packing.{pack_lt, unpack-pack, pack-unpack, pack_append, length-unpack, below-unpack}
use Rattle.model.proofs.Spreads.{inverse, times_mod, undone}

-- ---- the reversed bits

below-reverse : (b : ℕ) (l r : List ℕ) → Below b l → Below b r → Below b (reverse_aux l r)
below-reverse b [] r h k = k
below-reverse b (x ∷ l) r h k = below-reverse b l (x ∷ r) h.1 (h.0, k)

bits-length : (b y : ℕ) → length (reverse (unpack 1 b y)) ≡ b
bits-length b y = length-reverse (unpack 1 b y) ∙ length-unpack 1 b y

bits_below : (b y : ℕ) → Below 2 (reverse (unpack 1 b y))
bits_below b y = below-reverse 2 (unpack 1 b y) [] (below-unpack 1 b y) tt

pub reversed_lt : (b y : ℕ) → reversed b y < 2 ^ b
reversed_lt b y = rw (bits-length b y, one-mul) at (pack_lt 1 (reverse (unpack 1 b y)) (bits_below b y))

unpack-reversed : (b y : ℕ) → unpack 1 b (reversed b y) ≡ reverse (unpack 1 b y)
unpack-reversed b y = ap (λ n. unpack 1 n (reversed b y)) (sym (bits-length b y)) ∙ unpack-pack 1 (reverse (unpack 1 b y)) (bits_below b y)

pub reversed-reversed : (b y : ℕ) → y < 2 ^ b → reversed b (reversed b y) ≡ y
reversed-reversed b y h =
    ap (λ l. pack 1 (reverse l)) (unpack-reversed b y) ∙ ap (pack 1) (reverse-reverse (unpack 1 b y)) ∙ pack-unpack 1 b y
    ∙ ap (λ n. y % 2 ^ n) (one-mul b) ∙ mod-eq_of_lt h

-- bit by bit, as code takes them: the lowest bit goes highest
pub reversed-suc : (b y : ℕ) → reversed (suc b) y ≡ y % 2 * 2 ^ b + reversed b (y / 2)
reversed-suc b y =
    ap (pack 1) (reverse-cons (y % 2) (unpack 1 b (y / 2))) ∙ pack_append 1 (reverse (unpack 1 b (y / 2))) (y % 2 ∷ [])
    ∙ ap₂ (λ x n. x * 2 ^ n + reversed b (y / 2)) (zero-add (y % 2)) (one-mul (length (reverse (unpack 1 b (y / 2)))) ∙ bits-length b (y / 2))

-- bit k is the k-th of the flow's b bits from the high end
pub reversed-bit : (b y k : ℕ) → k < b → bit (reversed b y) k ≡ bit y (b - 1 - k)
reversed-bit zero y k h = absurd (omega arith)
reversed-bit (suc b) y k h = ap (λ x. x / 2 ^ k % 2) (reversed-suc b y) ∙ go (dec_lt k b) (reversed-bit b (y / 2) k)
  where
    s : ℕ
    s = reversed b (y / 2)

    -- the bits below the highest are those of the flow's other bits
    lower : k < b → (y % 2 * 2 ^ b + s) / 2 ^ k % 2 ≡ s / 2 ^ k % 2
    lower l = sym (field (y % 2 * 2 ^ b + s) 1 k) ∙ ap (λ x. x / 2 ^ k) (mod_high (y % 2) s b (1 + k) (omega arith)) ∙ field s 1 k

    next : k < b → y / 2 / 2 ^ (b - 1 - k) % 2 ≡ y / 2 ^ (suc b - 1 - k) % 2
    next l = ap (λ x. x % 2) (shr-shr y 1 (b - 1 - k) ∙ ap (λ n. y / 2 ^ n) (omega arith))

    go : Dec (k < b) → (k < b → bit s k ≡ bit (y / 2) (b - 1 - k)) → (y % 2 * 2 ^ b + s) / 2 ^ k % 2 ≡ bit y (suc b - 1 - k)
    go (yes l) f = lower l ∙ f l ∙ next l
    go (no n) f =
        let e : k ≡ b = omega arith in
        let z : suc b - 1 - k ≡ 0 = omega arith in
        ap (λ m. (y % 2 * 2 ^ b + s) / 2 ^ m % 2) e ∙ ap (λ x. x % 2) (high (y % 2) b (reversed_lt b (y / 2))) ∙ mod-eq_of_lt (mod-lt y (lit< tt))
        ∙ sym (ap (λ m. y / 2 ^ m % 2) z ∙ ap (λ x. x % 2) (div-one y))

-- ---- the slot

pub slot_lt : (b m y : ℕ) → slot b m y < 2 ^ b
slot_lt b zero y = reversed_lt b y
slot_lt b (suc m) y = mod-lt (y * suc m) (pow_pos b)

-- a spread other than 0 is odd and below 2 ^ b, and a number that is both is a spread
pub spread_facts : (b m : ℕ) → T (valid_spread b (suc m)) → (suc m % 2 ≡ 1) × (suc m < 2 ^ b)
spread_facts b m t = let u = and_tests (eqb (suc m % 2) 1) (ltb (suc m) (2 ^ b)) t in (eqb→eq (suc m % 2) 1 u.0, ltb→lt (suc m) (2 ^ b) u.1)

pub facts_spread : (b m : ℕ) → m % 2 ≡ 1 → m < 2 ^ b → T (valid_spread b m)
facts_spread b zero o l = tt
facts_spread b (suc m) o l = tests_and (eqb (suc m % 2) 1) (ltb (suc m) (2 ^ b)) (rw o tt) (lt→ltb (suc m) (2 ^ b) l)

pub spread_lt : (b m : ℕ) → T (valid_spread b m) → m < 2 ^ b
spread_lt b zero t = pow_pos b
spread_lt b (suc m) t = (spread_facts b m t).1

-- so it fits its 32 bits of word 3
pub spread-fits : (b m : ℕ) → b ≤ 22 → T (valid_spread b m) → m < 2 ^ 32
spread-fits b m h t = let l : b ≤ 32 = omega (arith, h) in le_trans (spread_lt b m t) (pow_mono l)

-- the spread that undoes another
pub undoing : ℕ → ℕ → ℕ
undoing b m = by_mark m 0 ((inverse b (m / 2)).by % 2 ^ b)

-- of two numbers with an odd product, the second is odd
odd_factor : (m n k : ℕ) → m * n ≡ k * 2 + 1 → n % 2 ≡ 1
odd_factor m n k e =
    let h : n / 2 * 2 + n % 2 ≡ n = omega arith in
    let l : n % 2 < 2 = mod-lt n (lit< tt) in
    go (n % 2) l (ap (λ x. m * x) h ∙ e)
  where
    go : (r : ℕ) → r < 2 → m * (n / 2 * 2 + r) ≡ k * 2 + 1 → r ≡ 1
    go zero l q = absurd (omega (arith, q, mul_assoc m (n / 2) 2))
    go (suc zero) l q = refl
    go (suc (suc r)) l q = absurd (omega (arith, l))

-- an odd spread m; b is 1 and more, for m is below 2 ^ b
module _ (c k : ℕ) (t : T (valid_spread (suc c) (suc k))) where
  abbrev m : ℕ
  m = suc k

  abbrev p : ℕ
  p = 2 ^ suc c

  abbrev n : ℕ
  n = (inverse (suc c) (m / 2)).by

  abbrev q : ℕ
  q = (inverse (suc c) (m / 2)).times

  product : m * n ≡ q * p + 1
  product = let e : m / 2 * 2 + 1 ≡ m = omega (arith, (spread_facts (suc c) k t).0) in ap (λ x. x * n) (sym e) ∙ (inverse (suc c) (m / 2)).product

  undoing_odd : n % p % 2 ≡ 1
  undoing_odd =
      let e : suc c ≡ c + 1 = omega arith in
      ap (λ x. n % 2 ^ x % 2) e ∙ mod-mod-pow n c 1
      ∙ odd_factor m n (q * 2 ^ c) (product ∙ ap (λ x. x + 1) (ap (λ x. q * x) (pow-suc 2 c) ∙ sym (mul_assoc q (2 ^ c) 2)))

  undoing_valid : T (valid_spread (suc c) (n % p))
  undoing_valid = facts_spread (suc c) (n % p) undoing_odd (mod-lt n (pow_pos (suc c)))

  times_undoing : (s : ℕ) → slot (suc c) (n % p) s ≡ s * n % p
  times_undoing s = go (n % p) undoing_odd ∙ ap (λ x. x % p) (mul_comm s (n % p)) ∙ times_mod n s p ∙ ap (λ x. x % p) (mul_comm n s)
    where
      go : (x : ℕ) → x % 2 ≡ 1 → slot (suc c) x s ≡ s * x % p
      go zero o = absurd (omega (arith, o))
      go (suc x) o = refl

  undoes : (y : ℕ) → y < p → slot (suc c) (n % p) (y * m % p) ≡ y
  undoes y h = times_undoing (y * m % p) ∙ undone p m n q y product h

  undone-by : (s : ℕ) → s < p → slot (suc c) (n % p) s * m % p ≡ s
  undone-by s h = ap (λ x. x * m % p) (times_undoing s) ∙ undone p n m q s (mul_comm n m ∙ product) h

none : (m : ℕ) → T (valid_spread 0 (suc m)) → ⊥
none m t = omega (arith, (spread_facts 0 m t).1)

pub valid_undoing : (b m : ℕ) → T (valid_spread b m) → T (valid_spread b (undoing b m))
unfolding undoing
valid_undoing b zero t = tt
valid_undoing zero (suc m) t = absurd (none m t)
valid_undoing (suc c) (suc m) t = undoing_valid c m t

-- the flow of a flow's slot is the flow
pub flow-slot : (b m y : ℕ) → T (valid_spread b m) → y < 2 ^ b → slot b (undoing b m) (slot b m y) ≡ y
unfolding undoing
flow-slot b zero y t h = reversed-reversed b y h
flow-slot zero (suc m) y t h = absurd (none m t)
flow-slot (suc c) (suc m) y t h = undoes c m t y h

-- and the slot of a slot's flow is the slot
pub slot-flow : (b m s : ℕ) → T (valid_spread b m) → s < 2 ^ b → slot b m (slot b (undoing b m) s) ≡ s
unfolding undoing
slot-flow b zero s t h = reversed-reversed b s h
slot-flow zero (suc m) s t h = absurd (none m t)
slot-flow (suc c) (suc m) s t h = undone-by c m t s h

pub slot_inj : (b m : ℕ) → T (valid_spread b m) → (x y : ℕ) → x < 2 ^ b → y < 2 ^ b → slot b m x ≡ slot b m y → x ≡ y
slot_inj b m t x y h k e = sym (flow-slot b m x t h) ∙ ap (slot b (undoing b m)) e ∙ flow-slot b m y t k
