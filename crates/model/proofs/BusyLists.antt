-- How many flows the busy list has, and its outcome: the check's refusal, 14, or the list written.
use mathlib.Core.Path.{◌≡◌, refl, sym, ap, ◌∙◌}
use mathlib.Core.Bool.{Bool, true, false}
use mathlib.Core.List.{List, [], ◌∷◌}
use Prim.Native.Nat.{ℕ, zero, suc, ◌+◌, ◌*◌, ◌/◌, ◌%◌, ◌^◌, ◌≤◌, ◌<◌}
use native.Mathlib.Nat.{zero-add, add-zero}
use native.Mathlib.Omega.{arith}
use lib.Dec.{T, leb, ltb, lit<, lt→ltb}
use lib.Arith.{le→nltb}
use lib.ListN.{length, get_or}
use Rattle.model.specs.Lists.{one_if, choose, sum, tabulate}
use Rattle.model.specs.Slots.{valid_spread}
use Rattle.model.specs.Walls.{Wall, flows, slot_of, parse}
use Rattle.model.specs.Sound.{counts_at, count}
use Rattle.model.specs.Calls.{Refusal, refuse, first_met, outcome, check, check_refusals}
use Rattle.model.specs.BusyLists.{busy_from, busy_flows, entries, written, busy_refusals, listing, busy}
use Rattle.model.proofs.Slots.{slot_lt, undoing, flow-slot, slot-flow}
use Rattle.model.proofs.Headers.{flow_at}
use Rattle.model.proofs.Sums.{sum_moved}
use Rattle.model.proofs.Refusals.{first_clear, first-skip, first_stays, first-met, answer_done, answer_refused}
use Rattle.model.proofs.SoundWalls.{check_clear, check-number}

module _ (c : ℕ → ℕ) (floor : ℕ) where
  -- how many of the n flows from y on are listed, f being their counts
  pub length_from : (y n : ℕ) (f : ℕ → ℕ) → ((i : ℕ) → c (y + i) ≡ f i) → length (busy_from c floor y n) ≡ sum (tabulate n (λ i. one_if (leb floor (f i))))
  length_from y zero f e = refl
  length_from y (suc n) f e =
      go (leb floor (c y)) (length_from (suc y) n (λ i. f (suc i)) (λ i. ap c (omega arith) ∙ e (suc i)))
      ∙ ap (λ m. one_if (leb floor m) + sum (tabulate n (λ i. one_if (leb floor (f (suc i)))))) (ap c (sym (add-zero y)) ∙ e 0)
    where
      go : (b : Bool) {k : ℕ} → length (busy_from c floor (suc y) n) ≡ k → length (choose b (y ∷ busy_from c floor (suc y) n) (busy_from c floor (suc y) n)) ≡ one_if b + k
      go true e = omega (arith, e)
      go false e = omega (arith, e)

-- how many flows are listed
pub length-busy : (v : Wall) (floor : ℕ) → length (busy_flows v floor) ≡ sum (tabulate (flows v.header) (λ y. one_if (leb floor (count v y))))
length-busy v floor = length_from (count v) floor 0 (flows v.header) (count v) (λ i. ap (count v) (zero-add i))

-- a sum over the counts of all flows, taken by slots
pub sum-slots : (v : Wall) → T (valid_spread v.header.bits v.header.spread) → (f : ℕ → ℕ) → sum (tabulate (flows v.header) (λ y. f (count v y))) ≡ sum (tabulate (flows v.header) (λ s. f (get_or (counts_at v (s / 64)) (s % 64) 0)))
unfolding count
sum-slots v t f =
    let b : ℕ = v.header.bits in
    let m : ℕ = v.header.spread in
    sum_moved (2 ^ b) (slot_of v.header) (flow_at v.header) (λ y l. (slot_lt b m y, flow-slot b m y t l)) (λ s l. (slot_lt b (undoing b m) s, slot-flow b m s t l)) (λ s. f (get_or (counts_at v (s / 64)) (s % 64) 0))

-- how many flows are listed, counted by slots
pub busy-slots : (v : Wall) → T (valid_spread v.header.bits v.header.spread) → (floor : ℕ) → length (busy_flows v floor) ≡ sum (tabulate (flows v.header) (λ s. one_if (leb floor (get_or (counts_at v (s / 64)) (s % 64) 0))))
busy-slots v t floor = length-busy v floor ∙ sum-slots v t (λ n. one_if (leb floor n))

pub length-entries : (c : ℕ → ℕ) (ys : List ℕ) → length (entries c ys) ≡ 2 * length ys
length-entries c [] = refl
length-entries c (y ∷ ys) = omega (arith, length-entries c ys)

module _ (ws : List ℕ) (floor : ℕ) (list : List ℕ) where
  abbrev ys : List ℕ
  ys = busy_flows (parse ws) floor

  abbrev us : List ℕ
  us = written (count (parse ws)) ys list

  abbrev short : Refusal
  short = refuse 14 (ltb (length list) (2 * length ys))

  answered : (n : ℕ) → first_met (busy_refusals ws floor list) ≡ n → listing ws (outcome n (length ys) us list) ≡ busy ws floor list
  unfolding busy
  answered n e = ap (λ n. listing ws (outcome n (length ys) us list)) (sym e)

  refuses : (n : ℕ) → 0 < n → first_met (busy_refusals ws floor list) ≡ n → record { number = n; value = 0; words = ws; list = list } ≡ busy ws floor list
  refuses n h e = sym (ap (listing ws) (answer_refused (length ys) us list n h)) ∙ answered n e

  pub busy-refused : (n : ℕ) → 0 < n → (check ws).number ≡ n → record { number = n; value = 0; words = ws; list = list } ≡ busy ws floor list
  busy-refused n h e = refuses n h (first_stays (check_refusals ws) (short ∷ []) n h (sym (check-number ws) ∙ e))

  pub busy_short : (check ws).number ≡ 0 → length list < 2 * length ys → record { number = 14; value = 0; words = ws; list = list } ≡ busy ws floor list
  busy_short ok h = refuses 14 (lit< tt) (first-met (check_refusals ws) short [] (check_clear ws ok) (lt→ltb (length list) (2 * length ys) h))

  pub busy-done : (check ws).number ≡ 0 → 2 * length ys ≤ length list → record { number = 0; value = length ys; words = ws; list = us } ≡ busy ws floor list
  busy-done ok h =
      sym (ap (listing ws) (answer_done (length ys) us list 0 refl))
      ∙ answered 0 (first-skip (check_refusals ws) (short ∷ []) (check_clear ws ok) ∙ first_clear (short ∷ []) (le→nltb (length list) (2 * length ys) h, tt))
