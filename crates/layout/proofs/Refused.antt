-- The limits call, refusal by refusal.
use mathlib.Core.Path.{◌≡◌, refl, sym, ap, ◌∙◌}
use mathlib.Core.Bool.{not}
use mathlib.Core.List.{[], ◌∷◌}
use Prim.Native.Nat.{ℕ, zero, suc, ◌≤◌, ◌<◌}
use native.Mathlib.Omega.{arith}
use lib.Dec.{T, ltb, lt→ltb}
use lib.Arith.{le→nltb}
use Rattle.model.specs.Shapes.{known_shape, rows_of, width_asked, counter_bits}
use Rattle.model.specs.Calls.{Reply, reply, refuse, first_met, limits_refusals, limits_call}
use Rattle.model.proofs.Tools.{to_not-not}
use Rattle.model.proofs.Refusals.{first-met, first_clear, reply-done}

-- the reply of the call whose first refusal met has number n
abbrev answered : ℕ → ℕ → ℕ → Reply
answered p w n = reply n (counter_bits (width_asked w) (rows_of p))

pub limits_one : (p w : ℕ) → T (not (known_shape p)) → record { number = 1; value = 0 } ≡ limits_call p w
unfolding limits_call
limits_one p w t =
    let n : first_met (limits_refusals p w) ≡ 1 = first-met [] (refuse 1 (not (known_shape p))) (refuse 2 (ltb 16 w) ∷ []) tt t in
    sym (ap (answered p w) n)

module _ (p w : ℕ) (s : T (known_shape p)) where
  pub limits_two : 16 < w → record { number = 2; value = 0 } ≡ limits_call p w
  unfolding limits_call
  limits_two l =
      let n : first_met (limits_refusals p w) ≡ 2 = first-met (refuse 1 (not (known_shape p)) ∷ []) (refuse 2 (ltb 16 w)) [] (to_not-not (known_shape p) s, tt) (lt→ltb 16 w l) in
      sym (ap (answered p w) n)

  limits-done : w ≤ 16 → record { number = 0; value = counter_bits (width_asked w) (rows_of p) } ≡ limits_call p w
  unfolding limits_call
  limits-done l = sym (reply-done (counter_bits (width_asked w) (rows_of p)) (first_met (limits_refusals p w)) (first_clear (limits_refusals p w) (to_not-not (known_shape p) s, (le→nltb 16 w l, tt))))

  -- what is done with a width within the limit: u is the width asked for
  pub asked-limits : (u n : ℕ) → w ≤ 16 → u ≡ width_asked w → n ≡ counter_bits u (rows_of p) → record { number = 0; value = n } ≡ limits_call p w
  asked-limits u n l eu e = ap (λ v. record { number = 0; value = v }) (e ∙ ap (λ u. counter_bits u (rows_of p)) eu) ∙ limits-done l

pub asked_bounds : (w : ℕ) → w ≤ 16 → (1 ≤ width_asked w) × (width_asked w ≤ 16)
asked_bounds zero h = (omega arith, omega arith)
asked_bounds (suc w) h = (omega arith, h)

pub asked-other : (w : ℕ) → (w ≡ 0 → ⊥) → w ≡ width_asked w
asked-other zero h = absurd (h refl)
asked-other (suc w) h = refl
