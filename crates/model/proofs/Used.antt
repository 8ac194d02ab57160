-- U is the number of flagged buckets of a sound wall.
use mathlib.Core.Path.{◌≡◌, refl, sym, ap, ◌∙◌}
use Prim.Native.Nat.{ℕ, zero, suc, ◌≤◌, ◌<◌}
use native.Mathlib.Nat.{le_of_suc-le-suc, not-suc-le-zero, zero-lt-suc, mul-one}
use native.Mathlib.Numerals.{one-add}
use lib.Dec.{eqb}
use Rattle.model.specs.Lists.{sum, tabulate, one_if, by_mark}
use Rattle.model.specs.Walls.{Bucket, Wall, buckets_in}
use Rattle.model.specs.Sound.{flag, full_number, bucket_at, holds_number, holders}
use Rattle.model.proofs.Sums.{tab_ext, sum_tab_zero, sum-swap, sum_pick}
use Rattle.model.proofs.Buckets.{flag_le}
use Rattle.model.proofs.SoundWalls.{SoundWall}
use Rattle.model.proofs.OwnSteps.{number_lt}

sum_ones : (n : ℕ) → sum (tabulate n (λ q. 1)) ≡ n
sum_ones zero = refl
sum_ones (suc n) = rw (sum_ones n) (one-add n)

flag-sum : (u : ℕ) (b : Bucket) → (0 < flag b → full_number b < u) → sum (tabulate u (λ q. holds_number q b)) ≡ flag b
flag-sum u b f = go (flag b) (flag_le b) f
  where
    go : (m : ℕ) → m ≤ 1 → (0 < m → full_number b < u) → sum (tabulate u (λ q. by_mark m 0 (one_if (eqb (full_number b) q)))) ≡ m
    go zero l f = sum_tab_zero u
    go (suc zero) l f = simp mul-one at (sum_pick u (full_number b) (λ q. 1) (f (zero-lt-suc 0)))
    go (suc (suc m)) l f = absurd (not-suc-le-zero (le_of_suc-le-suc l))

pub used-flags : (v : Wall) → SoundWall v → sum (tabulate (buckets_in v.header) (λ k. flag (bucket_at v k))) ≡ v.header.used
unfolding holders
used-flags v s =
    let u : ℕ = v.header.used in
    let n : ℕ = buckets_in v.header in
    ap sum (tab_ext n (λ k. flag (bucket_at v k)) (λ k. sum (tabulate u (λ q. holds_number q (bucket_at v k)))) (λ k h. sym (flag-sum u (bucket_at v k) (number_lt (s.each k h)))))
    ∙ sym (sum-swap u n (λ q k. holds_number q (bucket_at v k)))
    ∙ ap sum (tab_ext u (λ q. holders v q) (λ q. 1) s.held) ∙ sum_ones u
