-- Lists by their rule and sums of them: when the rule changes at one place, and in another order.
use mathlib.Core.Logic.{◌≢◌}
use mathlib.Core.Path.{◌≡◌, refl, sym, ap, ap₂, ◌∙◌, subst}
use mathlib.Core.List.{List, [], ◌∷◌}
use Prim.Native.Nat.{ℕ, zero, suc, ◌+◌, ◌*◌, ◌≤◌, ◌<◌, suc-le-suc, zero-le}
use native.Mathlib.Nat.{le_of_suc-le-suc, not-suc-le-zero, zero-lt-suc, zero-mul, one-mul, zero-add, add-zero}
use native.Mathlib.Omega.{arith}
use lib.Dec.{T, eqb, eqb→eq, eqb_refl, eqb-zero-suc, eqb-suc-zero, eqb-suc-suc}
use lib.ListN.{length, get_or, set}
use Rattle.model.specs.Lists.{sum, tabulate, one_if}
use Rattle.model.proofs.Lists.{length_tab, get_or_tab}
use Rattle.model.proofs.Tools.{bool_eq}

pub tab_ext : (n : ℕ) (f g : ℕ → ℕ) → ((k : ℕ) → k < n → f k ≡ g k) → tabulate n f ≡ tabulate n g
tab_ext zero f g h = refl
tab_ext (suc n) f g h = ap₂ ◌∷◌ (h 0 (zero-lt-suc n)) (tab_ext n (λ i. f (suc i)) (λ i. g (suc i)) (λ k l. h (suc k) (suc-le-suc l)))

pub tab_set : (n : ℕ) (f g : ℕ → ℕ) (a v : ℕ) → ((k : ℕ) → k < n → k ≢ a → g k ≡ f k) → (a < n → g a ≡ v) → tabulate n g ≡ set (tabulate n f) a v
tab_set zero f g a v h e = refl
tab_set (suc n) f g zero v h e = ap₂ ◌∷◌ (e (zero-lt-suc n)) (tab_ext n (λ i. g (suc i)) (λ i. f (suc i)) (λ k l. h (suc k) (suc-le-suc l) (λ z. omega arith)))
tab_set (suc n) f g (suc a) v h e =
    ap₂ ◌∷◌ (h 0 (zero-lt-suc n) (λ z. omega arith))
    (tab_set n (λ i. f (suc i)) (λ i. g (suc i)) a v (λ k l z. h (suc k) (suc-le-suc l) (λ y. z (omega arith))) (λ l. e (suc-le-suc l)))

-- a list is the table of its elements
pub tab_get_or : (l : List ℕ) (n : ℕ) → length l ≡ n → tabulate n (λ a. get_or l a 0) ≡ l
tab_get_or [] zero e = refl
tab_get_or [] (suc n) e = absurd (omega arith)
tab_get_or (x ∷ l) zero e = absurd (omega arith)
tab_get_or (x ∷ l) (suc n) e = ap (λ (r : List ℕ). x ∷ r) (tab_get_or l n (omega arith))

pub sum-set : (l : List ℕ) (a v : ℕ) → a < length l → sum (set l a v) + get_or l a 0 ≡ sum l + v
sum-set [] a v h = absurd (not-suc-le-zero h)
sum-set (x ∷ l) zero v h = omega arith
sum-set (x ∷ l) (suc a) v h = omega (arith, sum-set l a v (le_of_suc-le-suc h))

pub sum-at : (l : List ℕ) (a : ℕ) → get_or l a 0 ≤ sum l
sum-at [] a = zero-le
sum-at (x ∷ l) zero = omega arith
sum-at (x ∷ l) (suc a) = omega (arith, sum-at l a)

pub sum_change : (n : ℕ) (f g : ℕ → ℕ) (i : ℕ) → i < n → ((k : ℕ) → k < n → k ≢ i → g k ≡ f k) → sum (tabulate n g) + f i ≡ sum (tabulate n f) + g i
sum_change n f g i l h =
    rw (tab_set n f g i (g i) h (λ z. refl), ← get_or_tab n f i l) (sum-set (tabulate n f) i (g i) (rw length_tab l))

pub sum_tab_at : (n : ℕ) (f : ℕ → ℕ) (i : ℕ) → i < n → f i ≤ sum (tabulate n f)
sum_tab_at n f i l = rw (← get_or_tab n f i l) (sum-at (tabulate n f) i)

pub sum_two : (n : ℕ) (f : ℕ → ℕ) (i k : ℕ) → i < n → k < n → i ≢ k → f i + f k ≤ sum (tabulate n f)
sum_two zero f i k l m z = absurd (not-suc-le-zero l)
sum_two (suc n) f zero zero l m z = absurd (z refl)
sum_two (suc n) f zero (suc k) l m z = omega (arith, sum_tab_at n (λ j. f (suc j)) k (le_of_suc-le-suc m))
sum_two (suc n) f (suc i) zero l m z = omega (arith, sum_tab_at n (λ j. f (suc j)) i (le_of_suc-le-suc l))
sum_two (suc n) f (suc i) (suc k) l m z = omega (arith, sum_two n (λ j. f (suc j)) i k (le_of_suc-le-suc l) (le_of_suc-le-suc m) (λ e. z (ap suc e)))

pub sum-zero : (n : ℕ) (f : ℕ → ℕ) → ((k : ℕ) → k < n → f k ≡ 0) → sum (tabulate n f) ≡ 0
sum-zero zero f h = refl
sum-zero (suc n) f h = rw (h 0 (zero-lt-suc n), sum-zero n (λ i. f (suc i)) (λ k l. h (suc k) (suc-le-suc l)))

pub sum_tab_add : (n : ℕ) (f g : ℕ → ℕ) → sum (tabulate n (λ i. f i + g i)) ≡ sum (tabulate n f) + sum (tabulate n g)
sum_tab_add zero f g = refl
sum_tab_add (suc n) f g = rw (sum_tab_add n (λ i. f (suc i)) (λ i. g (suc i))) (omega arith)

pub sum_tab_zero : (n : ℕ) → sum (tabulate n (λ i. 0)) ≡ 0
sum_tab_zero zero = refl
sum_tab_zero (suc n) = rw (sum_tab_zero n)

pub sum-swap : (m n : ℕ) (f : ℕ → ℕ → ℕ) → sum (tabulate m (λ q. sum (tabulate n (f q)))) ≡ sum (tabulate n (λ k. sum (tabulate m (λ q. f q k))))
sum-swap zero n f = sym (sum_tab_zero n)
sum-swap (suc m) n f = ap (λ x. sum (tabulate n (f 0)) + x) (sum-swap m n (λ q. f (suc q))) ∙ sym (sum_tab_add n (f 0) (λ k. sum (tabulate m (λ q. f (suc q) k))))

-- of the terms, only the one at x counts
pub sum_pick : (n x : ℕ) (f : ℕ → ℕ) → x < n → sum (tabulate n (λ s. one_if (eqb x s) * f s)) ≡ f x
sum_pick zero x f h = absurd (not-suc-le-zero h)
sum_pick (suc n) zero f h = simp (eqb-zero-suc, zero-mul, one-mul) (rw (sum_tab_zero n) (add-zero (f 0)))
sum_pick (suc n) (suc x) f h = simp (eqb-suc-zero, eqb-suc-suc, zero-mul, zero-add) (sum_pick n x (λ s. f (suc s)) (le_of_suc-le-suc h))

-- a sum may be taken in another order: p moves each number below n to one below n, and q moves it back
pub sum_moved : (n : ℕ) (p q : ℕ → ℕ) → ((y : ℕ) → y < n → (p y < n) × (q (p y) ≡ y)) → ((s : ℕ) → s < n → (q s < n) × (p (q s) ≡ s)) → (f : ℕ → ℕ)
    → sum (tabulate n (λ y. f (p y))) ≡ sum (tabulate n f)
sum_moved n p q a b f =
    ap sum (tab_ext n (λ y. f (p y)) (λ y. sum (tabulate n (at y))) (λ y l. sym (sum_pick n (p y) f (a y l).0)))
    ∙ sum-swap n n at ∙ ap sum (tab_ext n (λ s. sum (tabulate n (λ y. at y s))) f all-at)
  where
    at : ℕ → ℕ → ℕ
    at y s = one_if (eqb (p y) s) * f s

    same : (y s : ℕ) → y < n → s < n → eqb (p y) s ≡ eqb (q s) y
    same y s m l =
        bool_eq (eqb (p y) s) (eqb (q s) y) (λ t. subst (λ x. T (eqb x y)) (sym (a y m).1 ∙ ap q (eqb→eq (p y) s t)) (eqb_refl y))
        (λ t. subst (λ x. T (eqb x s)) (sym (b s l).1 ∙ ap p (eqb→eq (q s) y t)) (eqb_refl s))

    all-at : (s : ℕ) → s < n → sum (tabulate n (λ y. at y s)) ≡ f s
    all-at s l =
        ap sum (tab_ext n (λ y. at y s) (λ y. one_if (eqb (q s) y) * f s) (λ y m. ap (λ t. one_if t * f s) (same y s m l)))
        ∙ sum_pick n (q s) (λ y. f s) (b s l).0
