-- Level d is used by exactly the counters of value at least 2 ^ L_d, and a count is the sum of its parts, the one of level d weighted by 2 ^ L_d.
use mathlib.Core.Logic.{◌↔◌}
use mathlib.Core.Path.{◌≡◌, refl, sym, ap, ap₂, ◌∙◌, subst, subst₂}
use mathlib.Core.Bool.{Bool, true, false}
use mathlib.Core.List.{List, [], ◌∷◌}
use Prim.Native.Nat.{ℕ, zero, suc, ◌+◌, ◌*◌, ◌/◌, ◌^◌, ◌≤◌, ◌<◌}
use native.Mathlib.Nat.{div-lt_iff_lt-mul, zero-mul, one-mul, mul_comm, mul_assoc, add-mul}
use native.Mathlib.Decide.{dec_lt}
use native.Mathlib.Omega.{arith}
use lib.Dec.{T}
use lib.ListN.{length, get_or}
use lib.Pow.{pow_pos, pow-add}
use Rattle.model.specs.Lists.{by_mark, sum, tabulate}
use Rattle.model.specs.Packed.{entry, bit, rank}
use Rattle.model.specs.Shapes.{Row}
use Rattle.model.specs.Levels.{Level, sign, uppers, onward, encode, read_at, uses, part_at, start}
use Rattle.model.proofs.Ranks.{rank_in}
use Rattle.model.proofs.Values.{onward-at, mark_at}
use Rattle.model.proofs.Coding.{bit-encode, rank_coded}

above : (w s v : ℕ) → (2 ^ s ≤ v / 2 ^ w) ↔ (2 ^ (w + s) ≤ v)
above w s v = (to (dec_lt v (2 ^ (w + s))), back (dec_lt (v / 2 ^ w) (2 ^ s)))
  where
    e : 2 ^ (w + s) ≡ 2 ^ s * 2 ^ w
    e = pow-add 2 w s ∙ mul_comm (2 ^ w) (2 ^ s)

    to : Dec (v < 2 ^ (w + s)) → 2 ^ s ≤ v / 2 ^ w → 2 ^ (w + s) ≤ v
    to (yes l) h = let b : v / 2 ^ w < 2 ^ s = (div-lt_iff_lt-mul (pow_pos w)).1 (subst (λ n. v < n) e l) in absurd (omega (arith, b, h))
    to (no n) h = omega arith

    back : Dec (v / 2 ^ w < 2 ^ s) → 2 ^ (w + s) ≤ v → 2 ^ s ≤ v / 2 ^ w
    back (yes l) h = let b : v < 2 ^ s * 2 ^ w = (div-lt_iff_lt-mul (pow_pos w)).0 l in absurd (omega (arith, b, e, h))
    back (no n) h = omega arith

module _ (w s v x : ℕ) (u : Bool) where
  marked : (m : ℕ) → m < 2 → m * x ≡ v / 2 ^ w → (T u ↔ (2 ^ s ≤ x)) → T (by_mark m false u) ↔ (2 ^ (w + s) ≤ v)
  marked zero l e i = ((λ t. absurd t), (λ h. let p : 0 < 2 ^ s = pow_pos s in absurd (omega (arith, p, (above w s v).1 h, e, zero-mul x))))
  marked (suc zero) l e i =
      let q : x ≡ v / 2 ^ w = sym (one-mul x) ∙ e in
      ((λ t. (above w s v).0 (subst (λ n. 2 ^ s ≤ n) q (i.0 t))), (λ h. i.1 (subst (λ n. 2 ^ s ≤ n) (sym q) ((above w s v).1 h))))
  marked (suc (suc m)) l e i = absurd (omega arith)

sign_lt : (q : ℕ) → sign q < 2
sign_lt zero = omega arith
sign_lt (suc q) = omega arith

onward-sign : (w : ℕ) (vs : List ℕ) (a : ℕ) → sign (get_or vs a 0 / 2 ^ w) * get_or (onward w vs) (rank_in (uppers w vs) a) 0 ≡ get_or vs a 0 / 2 ^ w
onward-sign w vs a = ap (λ m. m * get_or (onward w vs) (rank_in (uppers w vs) a) 0) (sym (mark_at w vs a)) ∙ onward-at w vs a

pub uses-encode : (rs : List Row) (vs : List ℕ) (a d : ℕ) → d < length rs → T (uses rs (encode rs vs) a (suc d)) ↔ (2 ^ start rs (suc d) ≤ get_or vs a 0)
unfolding uses encode
uses-encode [] vs a d h = absurd (omega arith)
uses-encode (r ∷ rs) vs a zero h =
    let w : ℕ = r.width in
    let v : ℕ = get_or vs a 0 in
    subst (λ m. T (by_mark m false true) ↔ (2 ^ (w + 0) ≤ v)) (sym (bit-encode w vs a)) (only w v (v / 2 ^ w) refl)
  where
    only : (w v q : ℕ) → v / 2 ^ w ≡ q → T (by_mark (sign q) false true) ↔ (2 ^ (w + 0) ≤ v)
    only w v zero e = ((λ t. absurd t), (λ h. absurd (omega (arith, (above w 0 v).1 h, e))))
    only w v (suc q) e = ((λ t. (above w 0 v).0 (omega (arith, e))), (λ h. tt))
uses-encode (r ∷ rs) vs a (suc d) h =
    let w : ℕ = r.width in
    let v : ℕ = get_or vs a 0 in
    let k : ℕ = rank_in (uppers w vs) a in
    subst₂ (λ m k. T (by_mark m false (uses rs (encode rs (onward w vs)) k (suc d))) ↔ (2 ^ (w + start rs (suc d)) ≤ v)) (sym (bit-encode w vs a)) (sym (rank_coded w vs a))
    (marked w (start rs (suc d)) v (get_or (onward w vs) k 0) (uses rs (encode rs (onward w vs)) k (suc d)) (sign (v / 2 ^ w)) (sign_lt (v / 2 ^ w)) (onward-sign w vs a)
    (uses-encode rs (onward w vs) k d (omega arith)))

-- ---- the parts

tab_zero : (n : ℕ) (s : ℕ → ℕ) → sum (tabulate n (λ d. 0 * s d)) ≡ 0
tab_zero zero s = refl
tab_zero (suc n) s = omega (arith, tab_zero n (λ d. s (suc d)))

-- what is weighted from bit w on is 2 ^ w times what is weighted from 0 on
tab_weighted : (n w : ℕ) (p s : ℕ → ℕ) → sum (tabulate n (λ d. p d * 2 ^ (w + s d))) ≡ sum (tabulate n (λ d. p d * 2 ^ s d)) * 2 ^ w
tab_weighted zero w p s = sym (zero-mul (2 ^ w))
tab_weighted (suc n) w p s =
    ap₂ ◌+◌ (ap (λ x. p 0 * x) (pow-add 2 w (s 0) ∙ mul_comm (2 ^ w) (2 ^ s 0)) ∙ sym (mul_assoc (p 0) (2 ^ s 0) (2 ^ w))) (tab_weighted n w (λ d. p (suc d)) (λ d. s (suc d)))
    ∙ sym (add-mul (p 0 * 2 ^ s 0) (sum (tabulate n (λ d. p (suc d) * 2 ^ s (suc d)))) (2 ^ w))

pub read_parts : (rs : List Row) (ls : List Level) (a : ℕ) → read_at rs ls a ≡ sum (tabulate (length rs) (λ d. part_at rs ls a d * 2 ^ start rs d))
unfolding read_at part_at
read_parts [] ls a = refl
read_parts (r ∷ rs) [] a = sym (tab_zero (suc (length rs)) (λ d. 2 ^ start (r ∷ rs) d))
read_parts (r ∷ rs) (l ∷ ls) a = upper (bit l.marks a) (read_parts rs ls (rank l.marks a))
  where
    k : ℕ
    k = rank l.marks a

    e : ℕ
    e = entry r.width l.cells a

    upper : (m : ℕ) → read_at rs ls k ≡ sum (tabulate (length rs) (λ d. part_at rs ls k d * 2 ^ start rs d))
        → by_mark m 0 (read_at rs ls k) * 2 ^ r.width + e ≡ e * 2 ^ 0 + sum (tabulate (length rs) (λ d. by_mark m 0 (part_at rs ls k d) * 2 ^ (r.width + start rs d)))
    upper zero h = omega (arith, zero-mul (2 ^ r.width), tab_zero (length rs) (λ d. 2 ^ (r.width + start rs d)))
    upper (suc m) h = ap (λ n. n * 2 ^ r.width + e) h ∙ omega (arith, tab_weighted (length rs) r.width (part_at rs ls k) (start rs))
