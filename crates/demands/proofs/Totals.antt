-- The counts of all flows of a sound wall add up to its total, and no more flows count at least a floor than fit into it.
use mathlib.Core.Path.{◌≡◌, sym, ap, ap₂, ◌∙◌, subst}
use mathlib.Core.Bool.{Bool, true, false}
use Prim.Native.Nat.{ℕ, zero, suc, ◌+◌, ◌*◌, ◌-◌, ◌/◌, ◌%◌, ◌^◌, ◌≤◌, ◌<◌}
use native.Mathlib.Nat.{zero-add, zero-mul, one-mul, suc-mul, add-mul}
use native.Mathlib.Omega.{arith}
use lib.Dec.{T, leb, leb→le}
use lib.ListN.{get_or}
use Rattle.model.specs.Lists.{one_if, sum, tabulate}
use Rattle.model.specs.Walls.{Wall, flows}
use Rattle.model.specs.Sound.{counts_at, count, all_counts}
use Rattle.model.proofs.Sums.{tab_ext, tab_get_or}
use Rattle.model.proofs.Headers.{flows-number}
use Rattle.model.proofs.SoundWalls.{SoundWall}
use Rattle.model.proofs.OwnSteps.{length-counts_at}
use Rattle.model.proofs.BusyLists.{sum-slots}

sum_both : (m n : ℕ) (f : ℕ → ℕ) → sum (tabulate (m + n) f) ≡ sum (tabulate m f) + sum (tabulate n (λ i. f (m + i)))
sum_both zero n f = ap (λ k. sum (tabulate k f)) (zero-add n) ∙ ap sum (tab_ext n f (λ i. f (0 + i)) (λ i l. ap f (sym (zero-add i)))) ∙ sym (zero-add (sum (tabulate n (λ i. f (0 + i)))))
sum_both (suc m) n f =
    let e : suc m + n ≡ suc (m + n) = omega arith in
    let g = ap sum (tab_ext n (λ i. f (suc (m + i))) (λ i. f (suc m + i)) (λ i l. ap f (omega arith))) in
    ap (λ k. sum (tabulate k f)) e ∙ omega (arith, sum_both m n (λ i. f (suc i)), g)

-- by blocks of k
sum_blocks : (k n : ℕ) (f : ℕ → ℕ) → sum (tabulate (n * k) f) ≡ sum (tabulate n (λ i. sum (tabulate k (λ a. f (i * k + a)))))
sum_blocks k zero f = ap (λ m. sum (tabulate m f)) (zero-mul k)
sum_blocks k (suc n) f =
    let e : suc n * k ≡ k + n * k = omega (arith, suc-mul n k) in
    ap (λ m. sum (tabulate m f)) e ∙ sum_both k (n * k) f
    ∙ ap₂ ◌+◌ (ap sum (tab_ext k f (λ a. f (0 * k + a)) (λ a l. ap f (first a)))) (sum_blocks k n (λ i. f (k + i)) ∙ ap sum (tab_ext n (λ i. sum (tabulate k (λ a. f (k + (i * k + a))))) (λ i. sum (tabulate k (λ a. f (suc i * k + a)))) (λ i l. ap sum (tab_ext k (λ a. f (k + (i * k + a))) (λ a. f (suc i * k + a)) (λ a m. ap f (next i a))))))
  where
    first : (a : ℕ) → a ≡ 0 * k + a
    first a = omega (arith, zero-mul k)

    next : (i a : ℕ) → k + (i * k + a) ≡ suc i * k + a
    next i a = omega (arith, suc-mul i k)

-- as many times the floor as terms reach it
floor_times : (floor n : ℕ) (f : ℕ → ℕ) → sum (tabulate n (λ i. one_if (leb floor (f i)))) * floor ≤ sum (tabulate n f)
floor_times floor zero f = omega (arith, zero-mul floor)
floor_times floor (suc n) f = go (leb floor (f 0)) (leb→le floor (f 0)) (sum (tabulate n (λ i. one_if (leb floor (f (suc i)))))) (sum (tabulate n (λ i. f (suc i)))) (floor_times floor n (λ i. f (suc i)))
  where
    go : (b : Bool) → (T b → floor ≤ f 0) → (k m : ℕ) → k * floor ≤ m → (one_if b + k) * floor ≤ f 0 + m
    go true h k m l = omega (arith, add-mul 1 k floor, one-mul floor, h tt, l)
    go false h k m l = omega (arith, ap (λ j. j * floor) (zero-add k), l)

module _ (v : Wall) (s : SoundWall v) where
  all-flows : sum (tabulate (flows v.header) (count v)) ≡ v.header.total
  unfolding all_counts
  all-flows =
      let b : ℕ = v.header.bits in
      let f : ℕ → ℕ = λ s. get_or (counts_at v (s / 64)) (s % 64) 0 in
      sum-slots v s.limits.spread-valid (λ n. n) ∙ ap (λ n. sum (tabulate n f)) (flows-number b s.limits.bits_low) ∙ sum_blocks 64 (2 ^ (b - 6)) f
      ∙ ap sum (tab_ext (2 ^ (b - 6)) (λ i. sum (tabulate 64 (λ a. f (i * 64 + a)))) (λ i. sum (counts_at v i)) (λ i l. bucket i)) ∙ s.sums
    where
      at : (i a : ℕ) → a < 64 → get_or (counts_at v ((i * 64 + a) / 64)) ((i * 64 + a) % 64) 0 ≡ get_or (counts_at v i) a 0
      at i a l = let p : (i * 64 + a) / 64 ≡ i = omega arith in let q : (i * 64 + a) % 64 ≡ a = omega arith in ap₂ (λ k j. get_or (counts_at v k) j 0) p q

      bucket : (i : ℕ) → sum (tabulate 64 (λ a. get_or (counts_at v ((i * 64 + a) / 64)) ((i * 64 + a) % 64) 0)) ≡ sum (counts_at v i)
      bucket i =
          ap sum (tab_ext 64 (λ a. get_or (counts_at v ((i * 64 + a) / 64)) ((i * 64 + a) % 64) 0) (λ a. get_or (counts_at v i) a 0) (at i)) ∙ ap sum (tab_get_or (counts_at v i) 64 (length-counts_at v i))

  pub within-total : (floor : ℕ) → sum (tabulate (flows v.header) (λ y. one_if (leb floor (count v y)))) * floor ≤ v.header.total
  within-total floor = subst (λ t. sum (tabulate (flows v.header) (λ y. one_if (leb floor (count v y)))) * floor ≤ t) all-flows (floor_times floor (flows v.header) (count v))
