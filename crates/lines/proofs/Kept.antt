-- What an increment answers is short, where the limit is: the count stays within the limit, and so does the total.
use mathlib.Core.Path.{◌≡◌, refl, sym, ◌∙◌, subst}
use mathlib.Core.Bool.{Bool, true, false}
use mathlib.Core.List.{List, [], ◌∷◌, ◌++◌}
use Prim.Native.Nat.{ℕ, zero, suc, ◌+◌, ◌≤◌, ◌<◌}
use native.Mathlib.Omega.{arith}
use lib.Dec.{T, eqb, eqb_refl, T_not, lit<}
use lib.Arith.{lt_of_le-ne}
use Rattle.model.specs.Lists.{choose, by_mark}
use Rattle.model.specs.Walls.{Wall, Header, word_at, good, parse, flatten, bucket_of, place_of}
use Rattle.model.specs.Sound.{sound_at, count, flag, bucket_at}
use Rattle.model.specs.Calls.{Clear, Refusal, Outcome, first_met, bucket_refusals, step_refusals, no_room, step, raised_by, increment}
use Rattle.model.proofs.Tools.{Each, not-not}
use Rattle.model.proofs.Headers.{Limits, good_of}
use Rattle.model.proofs.SoundWalls.{parse-header}
use Rattle.model.proofs.Refusals.{clear_first, answer_no, answer_done, increment-refused}
use Rattle.model.proofs.Eleven.{count_most}

-- the limit is at most m, and the total too
pub record Small (m : ℕ) (ws : List ℕ) : Type 0 where
  pub limit : word_at ws 1 ≤ m
  pub total : word_at ws 2 ≤ m

-- a step keeps the limit and sets the total
pub record Headed (m t : ℕ) (v : Wall) : Type 0 where
  pub limit : word_at (flatten v) 1 ≡ m
  pub total : word_at (flatten v) 2 ≡ t

by_flag : {m t : ℕ} {x y z : Wall} (f : ℕ) (b : Bool) → Headed m t x → Headed m t y → Headed m t z → Headed m t (by_mark f (choose b x y) z)
by_flag zero true p q r = p
by_flag zero false p q r = q
by_flag (suc f) b p q r = r

step-header : (v : Wall) (i a c t : ℕ) → Headed v.header.limit t (step v i a c t)
unfolding step flatten
step-header v i a c t = by_flag (flag (bucket_at v i)) (no_room v i a c) (record { limit = refl; total = refl }) (record { limit = refl; total = refl }) (record { limit = refl; total = refl })

first_below : (n : ℕ) (rs : List Refusal) → 0 < n → Each (λ (r : Refusal). r.number < n) rs → first_met rs < n
first_below n [] h e = h
first_below n (r ∷ rs) h e = by r.met e.0 (first_below n rs h e.1)
  where
    by : (b : Bool) {x y : ℕ} → x < n → y < n → choose b x y < n
    by true p q = p
    by false p q = q

pub number_small : (ws : List ℕ) (y : ℕ) → (increment ws y).number < 13
unfolding increment
number_small ws y =
    rw (answer_no (count (parse ws) y + 1) (flatten (raised_by (parse ws) y 1)) ws (first_met (bucket_refusals ws y ++ step_refusals (parse ws) y)))
    (first_below 13 (bucket_refusals ws y ++ step_refusals (parse ws) y) (lit< tt) (lit< tt, (lit< tt, (lit< tt, (lit< tt, (lit< tt, (lit< tt, tt)))))))

-- done: the count is within the limit
pub record Counted (m : ℕ) (r : Outcome) : Type 0 where
  pub value : r.value ≤ m
  pub small : Small m r.words

module _ (m : ℕ) (ws : List ℕ) (s : Small m ws) (y : ℕ) where
  clear_counted : Clear (bucket_refusals ws y ++ step_refusals (parse ws) y) → Counted m (record { number = 0; value = count (parse ws) y + 1; words = flatten (raised_by (parse ws) y 1) })
  clear_counted c =
      let h : Header = (parse ws).header in
      let g : Limits h = subst Limits (sym (parse-header ws)) (good_of ws (not-not (good ws) c.0)).limits in
      let k : count (parse ws) y ≤ h.total = count_most (parse ws) y (not-not (sound_at (parse ws) (bucket_of h y)) c.1.1.0) in
      let r : h.total < h.limit = lt_of_le-ne g.within (λ e. T_not (eqb h.total h.limit) c.1.1.1.0 (subst (λ n. T (eqb h.total n)) e (eqb_refl h.total))) in
      let l : h.limit ≤ m = subst (λ (h : Header). h.limit ≤ m) (sym (parse-header ws)) s.limit in
      let p = step-header (parse ws) (bucket_of h y) (place_of h y) (count (parse ws) y + 1) (h.total + 1) in
      record { value = omega arith; small = record { limit = omega (arith, p.limit); total = omega (arith, p.total) } }

  pub done_counted : (increment ws y).number ≡ 0 → Counted m (increment ws y)
  unfolding increment
  done_counted e =
      let rs : List Refusal = bucket_refusals ws y ++ step_refusals (parse ws) y in
      let z : first_met rs ≡ 0 = sym (answer_no (count (parse ws) y + 1) (flatten (raised_by (parse ws) y 1)) ws (first_met rs)) ∙ e in
      subst (Counted m) (sym (answer_done (count (parse ws) y + 1) (flatten (raised_by (parse ws) y 1)) ws (first_met rs) z))
      (clear_counted (clear_first rs (lit< tt, (lit< tt, (lit< tt, (lit< tt, (lit< tt, (lit< tt, tt)))))) z))

  pub refused_same : 0 < (increment ws y).number → ((increment ws y).value ≡ 0) × Small m (increment ws y).words
  refused_same h = let u = increment-refused ws y h in (u.value, rw u.words s)
