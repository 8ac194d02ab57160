-- Which lists of increments are accepted throughout, said of the tallies alone: it does not turn on the order.
use mathlib.Core.Path.{◌≡◌, refl, sym, ap, ◌∙◌, fun_ext}
use mathlib.Core.Bool.{false}
use mathlib.Core.Logic.{◌↔◌}
use mathlib.Core.List.{List, [], ◌∷◌, reverse_aux}
use Prim.Native.Nat.{ℕ, zero, suc, ◌+◌, ◌*◌, ◌^◌, ◌≤◌, ◌<◌, zero-le}
use native.Mathlib.Nat.{le_trans, le_of_suc-le-suc, not-suc-le-zero, zero-add, add-zero, add-le-add, le-suc}
use native.Mathlib.Numerals.{one-add}
use native.Mathlib.Omega.{arith}
use lib.Dec.{leb, eqb, eqb-zero-suc, eqb-suc-zero, eqb-suc-suc, leb-suc-zero}
use lib.Pow.{pow_pos}
use lib.ListN.{length, length-reverse_aux}
use Rattle.model.specs.Lists.{sum, tabulate, one_if}
use Rattle.model.specs.Shapes.{Row}
use Rattle.model.specs.Levels.{crowded, at_least}
use Rattle.model.specs.Runs.{listed, tallies_of, crowded_of}
use Rattle.model.proofs.Lists.{Below}
use Rattle.model.proofs.Crowding.{crowded_mono, holds_mono, Under}
use Rattle.model.proofs.Sums.{sum_tab_add, sum_tab_zero}

under_tab : (n : ℕ) (f g : ℕ → ℕ) → ((i : ℕ) → f i ≤ g i) → Under (tabulate n f) (tabulate n g)
under_tab zero f g h = tt
under_tab (suc n) f g h = (h 0, under_tab n (λ i. f (suc i)) (λ i. g (suc i)) (λ i. h (suc i)))

sum_under : (n : ℕ) (f g : ℕ → ℕ) → ((i : ℕ) → f i ≤ g i) → sum (tabulate n f) ≤ sum (tabulate n g)
sum_under zero f g h = zero-le
sum_under (suc n) f g h = add-le-add (h 0) (sum_under n (λ i. f (suc i)) (λ i. g (suc i)) (λ i. h (suc i)))

-- ---- what holds of a list and then of each longer one that it begins: said of the whole, it is said of every beginning

-- the slots done stand last first
abbrev pub Throughout : (List ℕ → Type 0) → List ℕ → List ℕ → Type 0
Throughout ok done [] = Unit {0}
Throughout ok done (x ∷ xs) = ok (x ∷ done) × Throughout ok (x ∷ done) xs

module _ (ok : List ℕ → Type 0) (shorter : (x : ℕ) (xs : List ℕ) → ok (x ∷ xs) → ok xs) where
  begun : (xs done : List ℕ) → ok (reverse_aux xs done) → ok done
  begun [] done h = h
  begun (x ∷ xs) done h = shorter x done (begun xs (x ∷ done) h)

  pub throughout_whole : (xs done : List ℕ) → ok done → Throughout ok done xs → ok (reverse_aux xs done)
  throughout_whole [] done h t = h
  throughout_whole (x ∷ xs) done h t = throughout_whole xs (x ∷ done) t.0 t.1

  pub whole_throughout : (xs done : List ℕ) → ok (reverse_aux xs done) → Throughout ok done xs
  whole_throughout [] done h = tt
  whole_throughout (x ∷ xs) done h = (begun xs (x ∷ done) h, whole_throughout xs (x ∷ done) h)

-- ---- the tallies after a list, whatever its order

pub listed_rev : (s : ℕ) (xs ys : List ℕ) → listed s (reverse_aux xs ys) ≡ listed s xs + listed s ys
listed_rev s [] ys = sym (zero-add (listed s ys))
listed_rev s (x ∷ xs) ys = listed_rev s xs (x ∷ ys) ∙ omega arith

pub crowded_of-listed : (k h l : ℕ) (rs : List Row) (xs ys : List ℕ) → ((s : ℕ) → listed s xs ≡ listed s ys) → crowded_of k h l rs xs ≡ crowded_of k h l rs ys
crowded_of-listed k h l rs xs ys e =
    ap (λ (f : ℕ → ℕ). sum (tabulate h (λ b. one_if (crowded l rs (tabulate k (λ a. f (b * k + a))))))) (fun_ext {f = λ s. listed s xs} {g = λ s. listed s ys} e)

sum_tab_one : (n x : ℕ) → x < n → sum (tabulate n (λ s. one_if (eqb s x))) ≡ 1
sum_tab_one zero x h = absurd (not-suc-le-zero h)
sum_tab_one (suc n) zero h = simp eqb-suc-zero (ap (λ x. 1 + x) (sum_tab_zero n))
sum_tab_one (suc n) (suc x) h = simp (eqb-zero-suc, eqb-suc-suc) (rw (sum_tab_one n x (le_of_suc-le-suc h)))

-- the tallies of n slots add up to the number of listings
pub sum-listed : (n : ℕ) (xs : List ℕ) → Below n xs → sum (tabulate n (λ s. listed s xs)) ≡ length xs
sum-listed n [] b = sum_tab_zero n
sum-listed n (x ∷ xs) b = rw (sum_tab_add n (λ s. one_if (eqb s x)) (λ s. listed s xs), sum_tab_one n x b.0, sum-listed n xs b.1) (one-add (length xs))

-- ---- no bucket is crowded at first

leb-zero : (p : ℕ) → 0 < p → leb p 0 ≡ false
leb-zero zero h = absurd (not-suc-le-zero h)
leb-zero (suc p) h = leb-suc-zero p

at_least-zero : (k l : ℕ) → at_least (2 ^ l) (tabulate k (λ a. 0)) ≡ 0
unfolding at_least
at_least-zero zero l = refl
at_least-zero (suc k) l = rw (leb-zero (2 ^ l) (pow_pos l), at_least-zero k l)

pub crowded-zero : (k l : ℕ) (rs : List Row) → crowded l rs (tabulate k (λ a. 0)) ≡ false
unfolding crowded
crowded-zero k l [] = refl
crowded-zero k l (r ∷ rs) = rw (at_least-zero k l, leb-suc-zero) (crowded-zero k (l + r.width) rs)

pub crowded_of-none : (k h l : ℕ) (rs : List Row) → crowded_of k h l rs [] ≡ 0
crowded_of-none k h l rs = simp (crowded-zero, sum_tab_zero)

-- ---- the store's rule

module _ (k h l : ℕ) (rs : List Row) (M J : ℕ) where
  -- the total is within M, and the crowded buckets within J
  abbrev pub Within : List ℕ → Type 0
  Within xs = (length xs ≤ M) × (crowded_of k h l rs xs ≤ J)

  listed_cons : (s x : ℕ) (xs : List ℕ) → listed s xs ≤ listed s (x ∷ xs)
  listed_cons s x xs = omega arith

  pub crowded_of_cons : (x : ℕ) (xs : List ℕ) → crowded_of k h l rs xs ≤ crowded_of k h l rs (x ∷ xs)
  crowded_of_cons x xs =
      sum_under h (λ b. one_if (crowded l rs (tallies_of k b xs))) (λ b. one_if (crowded l rs (tallies_of k b (x ∷ xs)))) (λ b.
      holds_mono (crowded l rs (tallies_of k b xs)) (crowded l rs (tallies_of k b (x ∷ xs)))
      (crowded_mono l rs (tallies_of k b xs) (tallies_of k b (x ∷ xs))
      (under_tab k (λ a. listed (b * k + a) xs) (λ a. listed (b * k + a) (x ∷ xs)) (λ a. listed_cons (b * k + a) x xs))))

  pub within_shorter : (x : ℕ) (xs : List ℕ) → Within (x ∷ xs) → Within xs
  within_shorter x xs w = (le_trans (le-suc (length xs)) w.0, le_trans (crowded_of_cons x xs) w.1)

  -- each increment in turn finds the total and the crowded buckets within their limits after it
  abbrev pub Accepted : List ℕ → Type 0
  Accepted xs = Throughout Within [] xs

  within-listed : (xs ys : List ℕ) → length xs ≡ length ys → ((s : ℕ) → listed s xs ≡ listed s ys) → Within xs → Within ys
  within-listed xs ys e f w = (rw (← e) w.0, rw (← crowded_of-listed k h l rs xs ys f) w.1)

  pub whole_length : (xs : List ℕ) → length (reverse_aux xs []) ≡ length xs
  whole_length xs = length-reverse_aux xs [] ∙ add-zero (length xs)

  pub whole_listed : (xs : List ℕ) (s : ℕ) → listed s (reverse_aux xs []) ≡ listed s xs
  whole_listed xs s = listed_rev s xs [] ∙ add-zero (listed s xs)

  pub accepted-within : (xs : List ℕ) → Accepted xs ↔ Within xs
  accepted-within xs = (
    (λ t. within-listed (reverse_aux xs []) xs (whole_length xs) (whole_listed xs)
        (throughout_whole Within within_shorter xs [] (zero-le, rw (crowded_of-none k h l rs) zero-le) t)),
    (λ w. whole_throughout Within within_shorter xs []
        (within-listed xs (reverse_aux xs []) (sym (whole_length xs)) (λ s. sym (whole_listed xs s)) w)),
  )
