-- Lanes of a word that are added up at once: the entries of a chunk in pairs, chunk after chunk.
use mathlib.Core.Path.{◌≡◌, refl, sym, ap, ap₂, ◌∙◌}
use mathlib.Core.List.{List, [], ◌∷◌}
use Prim.Native.Nat.{ℕ, zero, suc, ◌+◌, ◌-◌, ◌*◌, ◌/◌, ◌%◌, ◌^◌, ◌≤◌, ◌<◌, zero-le}
use native.Mathlib.Nat.{mod-lt, mul-zero, mul-one, mul-suc, suc-mul, add-mul, mul-add, mul_assoc, mul_comm, zero-mul, add_comm, mod-eq_of_lt, mul-div_cancel, mod-one, div-one, mul-le-mul, lt_of_le_of_lt, lt_of_lt_of_le, le_refl, one-mul, zero-add, add-zero, add-suc}
use native.Mathlib.Numerals.{add-one}
use native.Mathlib.Omega.{arith}
use lib.Bits.{bit_and, and_block, and_mask, and_zero_r}
use lib.ListN.{length, replicate}
use lib.Pow.{pow_pos, pow-add, mod-pow-add, mod-mod-pow, shr-shr, split, field, suc_ones, ones_lt, le_ones, pow_mono}
use Rattle.model.specs.Lists.{sum}
use Rattle.model.specs.Packed.{pack, unpack, entry}
use Rattle.model.proofs.Lists.{Below}
use Rattle.model.proofs.Packing.{pack_lt, unpack-pack}

-- ---- lanes

abbrev pub AtMost : ℕ → List ℕ → Type 0
AtMost m [] = Unit {0}
AtMost m (x ∷ xs) = (x ≤ m) × AtMost m xs

below_most : (m b : ℕ) (xs : List ℕ) → m < b → AtMost m xs → Below b xs
below_most m b [] h a = tt
below_most m b (x ∷ xs) h a = (lt_of_le_of_lt a.0 h, below_most m b xs h a.1)

-- n lanes of v bits in x: none holds more than m, and together they hold t
pub record Lanes (v n m t x : ℕ) : Type 0 where
  pub lanes : List ℕ
  pub long : length lanes ≡ n
  pub most : AtMost m lanes
  pub total : sum lanes ≡ t
  pub holds : pack v lanes ≡ x

abbrev zeros : ℕ → List ℕ
zeros n = replicate n 0

pub no_lanes : (v n : ℕ) → Lanes v n 0 0 0
no_lanes v n = record { lanes = zeros n; long = long n; most = most n; total = total n; holds = holds n }
  where
    long : (n : ℕ) → length (zeros n) ≡ n
    long zero = refl
    long (suc n) = ap suc (long n)

    most : (n : ℕ) → AtMost 0 (zeros n)
    most zero = tt
    most (suc n) = (zero-le, most n)

    total : (n : ℕ) → sum (zeros n) ≡ 0
    total zero = refl
    total (suc n) = rw (total n)

    holds : (n : ℕ) → pack v (zeros n) ≡ 0
    holds zero = refl
    holds (suc n) = rw (holds n, zero-mul)

-- with room in each lane, its lanes are what a word holds
module _ {v n m t x : ℕ} (l : Lanes v n m t x) (room : m < 2 ^ v) where
  below : Below (2 ^ v) l.lanes
  below = below_most m (2 ^ v) l.lanes room l.most

  pub lanes_sum : sum (unpack v n x) ≡ t
  lanes_sum = rw (← l.holds, ← l.long, unpack-pack v l.lanes below) l.total

  pub lanes_lt : x < 2 ^ (v * n)
  lanes_lt = rw (← l.holds, ← l.long) (pack_lt v l.lanes below)

-- ---- added lane by lane

abbrev plus : List ℕ → List ℕ → List ℕ
plus [] ys = []
plus (x ∷ xs) [] = []
plus (x ∷ xs) (y ∷ ys) = (x + y) ∷ plus xs ys

plus_all : (v a b : ℕ) (xs ys : List ℕ) → length xs ≡ length ys → AtMost a xs → AtMost b ys
    → (length (plus xs ys) ≡ length xs) × AtMost (a + b) (plus xs ys) × (sum (plus xs ys) ≡ sum xs + sum ys) × (pack v (plus xs ys) ≡ pack v xs + pack v ys)
plus_all v a b [] [] e h k = (refl, tt, refl, refl)
plus_all v a b [] (y ∷ ys) e h k = absurd (omega arith)
plus_all v a b (x ∷ xs) [] e h k = absurd (omega arith)
plus_all v a b (x ∷ xs) (y ∷ ys) e h k =
    let r = plus_all v a b xs ys (omega arith) h.1 k.1 in
    (ap suc r.0, (omega (arith, h.0, k.0), r.1), rw r.2 (omega arith), rw (r.3, add-mul) (omega arith))

pub lanes_add : {v n a b s t x y : ℕ} → Lanes v n a s x → Lanes v n b t y → Lanes v n (a + b) (s + t) (x + y)
lanes_add {v} {n} {a} {b} l k =
    let r = plus_all v a b l.lanes k.lanes (l.long ∙ sym k.long) l.most k.most in
    record { lanes = plus l.lanes k.lanes; long = r.0 ∙ l.long; most = r.1; total = rw (r.2, l.total, k.total); holds = rw (r.3, l.holds, k.holds) }

-- ---- the entries of a chunk in pairs

-- picks the upper entry of each of n pairs
abbrev pub mask : ℕ → ℕ → ℕ
mask w zero = 0
mask w (suc n) = mask w n * 2 ^ (w + w) + (2 ^ w - 1)

abbrev pairs : ℕ → ℕ → ℕ → List ℕ
pairs w zero y = []
pairs w (suc n) y = (y % 2 ^ w + y / 2 ^ w % 2 ^ w) ∷ pairs w n (y / 2 ^ (w + w))

mask_adds : (w n : ℕ) → mask w n * (2 ^ w + 1) + 1 ≡ 2 ^ ((w + w) * n)
mask_adds w zero = rw (zero-mul, mul-zero)
mask_adds w (suc n) =
    let p : ℕ = 2 ^ w in
    let o : p - 1 + 1 ≡ p = rw add-one (suc_ones w) in
    let q : 2 ^ (w + w) ≡ p * p = pow-add 2 w w in
    rw (mul-suc (w + w) n, pow-add 2 ((w + w) * n) (w + w), ← mask_adds w n) (lem (mask w n) p (p - 1) (2 ^ (w + w)) o q)
  where
    lem : (k p o q : ℕ) → o + 1 ≡ p → q ≡ p * p → (k * q + o) * (p + 1) + 1 ≡ (k * (p + 1) + 1) * q
    lem k p o q e f =
        let i : o * (p + 1) ≡ o * p + o = rw (mul-add, mul-one) in
        let j : p * p ≡ o * p + p = ap (λ x. x * p) (sym e) ∙ rw (add-mul, one-mul) in
        rw (add-mul, add-mul, mul_assoc k q (p + 1), mul_comm q (p + 1), ← mul_assoc, one-mul) (omega arith)

-- the mask by a division
pub mask_div : (w n p q : ℕ) → p ≡ 2 ^ ((w + w) * n) → q ≡ 2 ^ w → (p - 1) / (q + 1) ≡ mask w n
mask_div w n p q e f =
    let k : p - 1 ≡ mask w n * (q + 1) = rw (e, f) (omega (arith, mask_adds w n)) in
    rw k (mul-div_cancel (mask w n) (omega arith))

-- ---- what the lanes of a chunk hold

pack_pairs : (w n y : ℕ) → pack (w + w) (pairs w n y) + bit_and (y / 2 ^ w) (mask w n) * (2 ^ w - 1) ≡ y % 2 ^ ((w + w) * n)
pack_pairs w zero y = rw (and_zero_r, zero-mul, mul-zero, mod-one)
pack_pairs w (suc n) y =
    let v : ℕ = w + w in
    let z : ℕ = y / 2 ^ w in
    let a : ℕ = bit_and (y / 2 ^ v / 2 ^ w) (mask w n) in
    let o : 2 ^ w - 1 + 1 ≡ 2 ^ w = rw add-one (suc_ones w) in
    let below : 2 ^ w - 1 < 2 ^ v = lt_of_lt_of_le (ones_lt w) (pow_mono (omega arith)) in
    let up : z / 2 ^ v ≡ y / 2 ^ v / 2 ^ w = shr-shr y w v ∙ ap (λ x. y / 2 ^ x) (add_comm w v) ∙ sym (shr-shr y v w) in
    let down : bit_and (z % 2 ^ v) (2 ^ w - 1) ≡ z % 2 ^ w = and_mask (z % 2 ^ v) w ∙ mod-mod-pow z w w in
    let picks : bit_and z (mask w n * 2 ^ v + (2 ^ w - 1)) ≡ a * 2 ^ v + z % 2 ^ w =
    ap (λ x. bit_and x (mask w n * 2 ^ v + (2 ^ w - 1))) (sym (split z v)) ∙ and_block v (z / 2 ^ v) (mask w n) (z % 2 ^ v) (2 ^ w - 1) (mod-lt z (pow_pos v)) below
    ∙ ap₂ (λ x r. bit_and x (mask w n) * 2 ^ v + r) up down in
    rw (picks, mul-suc, mod-pow-add y (v * n) v, mod-pow-add y w w, ← pack_pairs w n (y / 2 ^ v))
    (lem (pack v (pairs w n (y / 2 ^ v))) a (y % 2 ^ w) (z % 2 ^ w) (2 ^ v) (2 ^ w - 1) (2 ^ w) o)
  where
    lem : (k a d e q o p : ℕ) → o + 1 ≡ p → k * q + (d + e) + (a * q + e) * o ≡ (k + a * o) * q + (e * p + d)
    lem k a d e q o p h =
        let i : e * p ≡ e * o + e = ap (λ x. e * x) (sym h) ∙ rw (mul-add, mul-one) in
        let j : a * q * o ≡ a * o * q = rw (mul_assoc, mul_comm q o, ← mul_assoc) in
        rw (add-mul (a * q) e o, add-mul k (a * o) q) (omega arith)

sum_pairs : (w n y : ℕ) → sum (pairs w n y) ≡ sum (unpack w (n * 2) y)
sum_pairs w zero y = refl
sum_pairs w (suc n) y =
    let twice : suc n * 2 ≡ suc (suc (n * 2)) = omega (arith, suc-mul n 2) in
    let two : sum (unpack w (suc n * 2) y) ≡ y % 2 ^ w + (y / 2 ^ w % 2 ^ w + sum (unpack w (n * 2) (y / 2 ^ w / 2 ^ w))) = ap (λ k. sum (unpack w k y)) twice in
    let up : sum (unpack w (n * 2) (y / 2 ^ w / 2 ^ w)) ≡ sum (unpack w (n * 2) (y / 2 ^ (w + w))) = ap (λ z. sum (unpack w (n * 2) z)) (shr-shr y w w) in
    omega (arith, sum_pairs w n (y / 2 ^ (w + w)))

long_pairs : (w n y : ℕ) → length (pairs w n y) ≡ n
long_pairs w zero y = refl
long_pairs w (suc n) y = ap suc (long_pairs w n (y / 2 ^ (w + w)))

most_pairs : (w n y : ℕ) → AtMost (2 * (2 ^ w - 1)) (pairs w n y)
most_pairs w zero y = tt
most_pairs w (suc n) y =
    (omega (arith, le_ones w (mod-lt y (pow_pos w)), le_ones w (mod-lt (y / 2 ^ w) (pow_pos w))), most_pairs w n (y / 2 ^ (w + w)))

module _ (w n y : ℕ) (h : y < 2 ^ ((w + w) * n)) where
  picked : pack (w + w) (pairs w n y) + bit_and (y / 2 ^ w) (mask w n) * (2 ^ w - 1) ≡ y
  picked = pack_pairs w n y ∙ mod-eq_of_lt h

  pub picked_le : bit_and (y / 2 ^ w) (mask w n) * (2 ^ w - 1) ≤ y
  picked_le = omega (arith, picked)

  pub paired_lanes : (x : ℕ) → x + bit_and (y / 2 ^ w) (mask w n) * (2 ^ w - 1) ≡ y → Lanes (w + w) n (2 * (2 ^ w - 1)) (sum (unpack w (n * 2) y)) x
  paired_lanes x e = record { lanes = pairs w n y; long = long_pairs w n y; most = most_pairs w n y; total = sum_pairs w n y; holds = omega (arith, picked) }

-- ---- chunk after chunk

pub sum_more : (w a b x : ℕ) → sum (unpack w (b + a) x) ≡ sum (unpack w a x) + sum (unpack w b (x / 2 ^ (w * a)))
sum_more w zero b x = rw (add-zero b, mul-zero, div-one, zero-add)
sum_more w (suc a) b x =
    let one : sum (unpack w (b + suc a) x) ≡ x % 2 ^ w + sum (unpack w (b + a) (x / 2 ^ w)) = ap (λ k. sum (unpack w k x)) (add-suc b a) in
    let e : x / 2 ^ w / 2 ^ (w * a) ≡ x / 2 ^ (w * suc a) = shr-shr x w (w * a) ∙ ap (λ k. x / 2 ^ k) (rw (mul-suc, add_comm w (w * a))) in
    let up : sum (unpack w b (x / 2 ^ w / 2 ^ (w * a))) ≡ sum (unpack w b (x / 2 ^ (w * suc a))) = ap (λ z. sum (unpack w b z)) e in
    omega (arith, sum_more w a b (x / 2 ^ w))

pub unpack_mod : (w n x : ℕ) → unpack w n (x % 2 ^ (w * n)) ≡ unpack w n x
unpack_mod w zero x = refl
unpack_mod w (suc n) x = rw (mul-suc, mod-mod-pow, field, unpack_mod w n (x / 2 ^ w))

-- c entries of w bits are one entry of k bits
pub sum_chunk : (w c k g x : ℕ) → k ≡ w * c → sum (unpack w (c * (g + 1)) x) ≡ sum (unpack w (c * g) x) + sum (unpack w c (entry k x g))
sum_chunk w c k g x e =
    rw (e, mul-add c g 1, mul-one, add_comm (c * g) c, sum_more w (c * g) c x, unpack_mod w c (x / 2 ^ (w * c * g)), mul_assoc w c g)

-- a lane has room for what the chunks up to the last bring
pub room : (w g chunks : ℕ) → g ≤ chunks → chunks * 2 ≤ 2 ^ w → g * (2 * (2 ^ w - 1)) < 2 ^ (w + w)
room w g chunks h k =
    let o : 2 ^ w - 1 + 1 ≡ 2 ^ w = rw add-one (suc_ones w) in
    let m : g * 2 * (2 ^ w - 1) ≤ 2 ^ w * (2 ^ w - 1) = mul-le-mul (omega arith) (le_refl (2 ^ w - 1)) in
    let s : 2 ^ w * (2 ^ w - 1) + 2 ^ w ≡ 2 ^ w * 2 ^ w = sym (ap (λ x. 2 ^ w * x) (sym o) ∙ rw (mul-add, mul-one)) in
    rw (pow-add 2 w w, ← mul_assoc) (omega (arith, pow_pos w))
