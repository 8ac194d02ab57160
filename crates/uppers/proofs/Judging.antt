-- One level, judged entry by entry.
use mathlib.Core.Path.{◌≡◌, refl, ap, ap₂, ◌∙◌}
use mathlib.Core.Bool.{Bool, true, false, ◌&&◌}
use Prim.Native.Nat.{ℕ, zero, suc, ◌+◌, ◌-◌, ◌*◌, ◌/◌, ◌%◌, ◌^◌, ◌≤◌, ◌<◌, zero-le}
use native.Mathlib.Nat.{le_refl, mod-lt, mul-zero, mul-suc, suc-mul, div-one, zero-add, add_comm, add-mul, div-lt_iff_lt-mul, mul-le-mul, not-suc-le-zero}
use native.Mathlib.Numerals.{add-one, sub-one, one-add}
use native.Mathlib.Omega.{arith}
use lib.Dec.{leb, ltb, ltb→lt, lt→ltb}
use lib.Pow.{pow-add, pow_mono, pow_pos, shr-shr}
use borrow.Author.Tests.{le-leb, le-ltb}
use Rattle.std.specs.Prelude.{Option, Some, None}
use Rattle.model.specs.Lists.{sum, every}
use Rattle.model.specs.Packed.{unpack, entry, bit}
use Rattle.model.proofs.Tools.{bool_eq}
use Rattle.uppers.specs.Judge.{verdict, filled}

-- ---- tests

every_same : (n : ℕ) (p q : ℕ → Bool) → ((i : ℕ) → p i ≡ q i) → every n p ≡ every n q
every_same zero p q h = refl
every_same (suc n) p q h = ap₂ ◌&&◌ (h 0) (every_same n (λ i. p (suc i)) (λ i. q (suc i)) (λ i. h (suc i)))

third_first : (a b c d : Bool) → a && (b && (c && d)) ≡ c && (a && (b && d))
third_first true true true d = refl
third_first true true false d = refl
third_first true false true d = refl
third_first true false false d = refl
third_first false b true d = refl
third_first false b false d = refl

-- ---- one entry, and those after it

ltb_div : (x w b : ℕ) → ltb x (b * 2 ^ w) ≡ ltb (x / 2 ^ w) b
ltb_div x w b = bool_eq (ltb x (b * 2 ^ w)) (ltb (x / 2 ^ w) b)
    (λ t. lt→ltb (x / 2 ^ w) b ((div-lt_iff_lt-mul (pow_pos w)).1 (ltb→lt x (b * 2 ^ w) t)))
    (λ t. lt→ltb x (b * 2 ^ w) ((div-lt_iff_lt-mul (pow_pos w)).0 (ltb→lt (x / 2 ^ w) b t)))

pub entry-suc : (w x a : ℕ) → entry w x (suc a) ≡ entry w (x / 2 ^ w) a
entry-suc w x a = rw (shr-shr, mul-suc, add_comm w (w * a))

bit-suc : (m a : ℕ) → bit m (suc a) ≡ bit (m / 2) a
bit-suc m a = let e : m / 2 ^ 1 / 2 ^ a ≡ m / 2 ^ (1 + a) = shr-shr m 1 a in rw (e, one-add)

filled-suc : (w n x m : ℕ) → filled w (suc n) x m ≡ leb 1 (x % 2 ^ w + m % 2) && filled w n (x / 2 ^ w) (m / 2)
unfolding filled
filled-suc w n x m =
    let a : ltb x (2 ^ (w * suc n)) ≡ ltb (x / 2 ^ w) (2 ^ (w * n)) = rw (mul-suc, pow-add) (ltb_div x w (2 ^ (w * n))) in
    let b : ltb m (2 ^ suc n) ≡ ltb (m / 2) (2 ^ n) = rw (← add-one n, pow-add) (ltb_div m 1 (2 ^ n)) in
    let c : entry w x 0 ≡ x % 2 ^ w = rw (mul-zero, div-one) in
    let d : bit m 0 ≡ m % 2 = rw div-one in
    let e : every n (λ i. leb 1 (entry w x (suc i) + bit m (suc i))) ≡ every n (λ i. leb 1 (entry w (x / 2 ^ w) i + bit (m / 2) i)) =
    every_same n (λ i. leb 1 (entry w x (suc i) + bit m (suc i))) (λ i. leb 1 (entry w (x / 2 ^ w) i + bit (m / 2) i)) (λ i. rw (entry-suc w x i, bit-suc m i)) in
    rw (a, b, c, d, e) (third_first (ltb (x / 2 ^ w) (2 ^ (w * n))) (ltb (m / 2) (2 ^ n)) (leb 1 (x % 2 ^ w + m % 2)) (every n (λ i. leb 1 (entry w (x / 2 ^ w) i + bit (m / 2) i))))

filled_next : (w left x m : ℕ) → 0 < left → filled w left x m ≡ leb 1 (x % 2 ^ w + m % 2) && filled w (left - 1) (x / 2 ^ w) (m / 2)
filled_next w zero x m h = absurd (not-suc-le-zero h)
filled_next w (suc n) x m h = filled-suc w n x m ∙ rw sub-one

sum-next : (w left x : ℕ) → 0 < left → sum (unpack w left x) ≡ x % 2 ^ w + sum (unpack w (left - 1) (x / 2 ^ w))
sum-next w zero x h = absurd (not-suc-le-zero h)
sum-next w (suc n) x h = rw sub-one

-- ---- above the last used entry

filled-cells : (w left x m : ℕ) → left ≡ 0 → 0 < x → filled w left x m ≡ false
unfolding filled
filled-cells w left x m e h = rw (e, mul-zero, le-ltb x 1 h)

filled_none : (w left x m : ℕ) → left ≡ 0 → x ≡ 0 → m ≡ 0 → filled w left x m ≡ true
unfolding filled
filled_none w left x m e f g = rw (e, f, g, mul-zero)

-- ---- the sum of n entries is small

pub sum-le : (w n x : ℕ) → sum (unpack w n x) + n ≤ n * 2 ^ w
sum-le w zero x = zero-le
sum-le w (suc n) x = rw suc-mul (omega (arith, sum-le w n (x / 2 ^ w), mod-lt x (pow_pos w)))

pub sum_most : (w n k x : ℕ) → n ≤ k → sum (unpack w n x) + k ≤ k * 2 ^ w
sum_most w n k x h =
    let d : k ≡ (k - n) + n = omega arith in
    let e : k * 2 ^ w ≡ (k - n) * 2 ^ w + n * 2 ^ w = ap (λ (i : ℕ). i * 2 ^ w) d ∙ add-mul (k - n) n (2 ^ w) in
    let r : 1 ≤ 2 ^ w = pow_pos w in
    let f : (k - n) * 1 ≤ (k - n) * 2 ^ w = mul-le-mul (le_refl (k - n)) r in
    omega (arith, sum-le w n x)

pub sum_small : (w n x : ℕ) → n ≤ 64 → w ≤ 16 → sum (unpack w n x) < 2 ^ 63
sum_small w n x h k =
    let e : 2 ^ w ≤ 2 ^ 16 = pow_mono k in
    omega (arith, sum_most w n 64 x h)

-- ---- the loop over one level: left entries of x, with their marks m, are still to be judged

pub record Judging (w n cells marks total x m left : ℕ) : Type 0 where
  pub same : filled w n cells marks ≡ filled w left x m
  pub adds : total + sum (unpack w left x) ≡ sum (unpack w n cells)

pub judging : (w n cells marks : ℕ) → Judging w n cells marks 0 cells marks n
judging w n cells marks = record { same = refl; adds = zero-add _ }

module _ {w n cells marks total x m left : ℕ} (g : Judging w n cells marks total x m left) where
  -- the verdict on the whole level
  abbrev found : Option ℕ
  found = verdict (filled w n cells marks) (sum (unpack w n cells))

  pub empty : 0 < left → x % 2 ^ w + m % 2 ≡ 0 → None ≡ found
  empty h e = rw (g.same, filled_next w left x m h, e)

  pub next : 0 < left → 0 < x % 2 ^ w + m % 2 → Judging w n cells marks (total + x % 2 ^ w) (x / 2 ^ w) (m / 2) (left - 1)
  next h p = record {
    same = g.same ∙ filled_next w left x m h ∙ rw (le-leb 1 (x % 2 ^ w + m % 2) p);
    adds = omega (arith, g.adds, sum-next w left x h);
  }

  pub total_small : 0 < left → n ≤ 64 → w ≤ 16 → total + x % 2 ^ w < 2 ^ 63
  total_small h k l = omega (arith, g.adds, sum-next w left x h, sum_small w n cells k l)

  pub high-cells : left ≡ 0 → 0 < x → None ≡ found
  high-cells e h = rw (g.same, filled-cells w left x m e h)

  pub all-judged : left ≡ 0 → x ≡ 0 → m ≡ 0 → Some total ≡ found
  all-judged e f h =
      let a : total ≡ sum (unpack w n cells) = let b = rw e at g.adds in omega arith in
      rw (g.same, filled_none w left x m e f h) (ap Some a)
