-- The check's answer, by what the pass over the buckets found.
use mathlib.Core.Logic.{◌≢◌}
use mathlib.Core.Path.{◌≡◌, refl, sym, ap, ◌∙◌, subst}
use mathlib.Core.Bool.{Bool, true, false, not}
use mathlib.Core.List.{List, [], ◌∷◌}
use Prim.Native.Nat.{ℕ, zero, suc, ◌+◌, ◌<◌, suc-le-suc}
use native.Mathlib.Nat.{le_of_suc-le-suc, not-suc-le-zero, zero-lt-suc}
use native.Mathlib.Omega.{arith}
use lib.Dec.{T, eqb, eqb→eq, T_not, not_T}
use Rattle.model.specs.Lists.{all, choose, every, lowest, sum, tabulate}
use Rattle.model.specs.Levels.{sign}
use Rattle.model.specs.Walls.{Wall, buckets_in, good, parse}
use Rattle.model.specs.Sound.{all_counts, fulls_zero, holders, sound_at, sound_buckets, sound_rest}
use Rattle.model.specs.Calls.{Refusal, refuse, first_met, check, check_refusals}
use Rattle.model.proofs.Tests.{every-at, every_of}
use Rattle.model.proofs.Tools.{bool_eq, all_tests, tests_all, to_not-not}
use Rattle.model.proofs.Headers as model
use Rattle.model.proofs.Refusals.{first-met, first_clear}
use Rattle.whole.specs.declared.Tally.{Tally}
use Rattle.whole.specs.Check.{Passed, holders_to}
use Rattle.header.proofs.Opening.{is_false}
use Rattle.whole.proofs.Holding.{each-one, sum_units}

-- ---- the lowest unsound bucket

pub lowest_is : (n : ℕ) (p : ℕ → Bool) (i : ℕ) → i < n → ((k : ℕ) → k < i → T (p k)) → T (not (p i)) → i ≡ lowest n p
lowest_is zero p i l f z = absurd (not-suc-le-zero l)
lowest_is (suc n) p zero l f z = go (p 0) z
  where
    go : (b : Bool) → T (not b) → 0 ≡ choose b (suc (lowest n (λ j. p (suc j)))) 0
    go true t = absurd t
    go false t = refl
lowest_is (suc n) p (suc i) l f z = go (p 0) (f 0 (zero-lt-suc i)) (lowest_is n (λ j. p (suc j)) i (le_of_suc-le-suc l) (λ k h. f (suc k) (suc-le-suc h)) z)
  where
    go : (b : Bool) → T b → i ≡ lowest n (λ j. p (suc j)) → suc i ≡ choose b (suc (lowest n (λ j. p (suc j)))) 0
    go true t e = ap suc e
    go false t e = absurd t

pub not-every : (n : ℕ) (p : ℕ → Bool) (i : ℕ) → i < n → T (not (p i)) → T (not (every n p))
not-every n p i l z = not_T (every n p) (λ t. T_not (p i) z (every-at n p t i l))

-- ---- besides the buckets, when all were passed

module _ (v : Wall) (t : Tally) (p : Passed v (buckets_in v.header) t) where
  abbrev u : ℕ
  u = v.header.used

  abbrev tests : List Bool
  tests = eqb (all_counts v) v.header.total ∷ every u (λ q. eqb (holders v q) 1) ∷ fulls_zero v ∷ []

  rest_tests : sound_rest v ≡ all tests
  unfolding sound_rest
  rest_tests = refl

  counted : t.sum ≡ all_counts v
  unfolding all_counts
  counted = p.counts

  held_flags : t.flagged ≡ sum (tabulate u (holders v))
  unfolding holders holders_to
  held_flags = p.flags

  held_firsts : t.again + sum (tabulate u (λ q. sign (holders v q))) ≡ t.flagged
  unfolding holders holders_to
  held_firsts = p.firsts

  -- each number has one holder
  ones-flags : ((q : ℕ) → q < u → holders v q ≡ 1) → (t.flagged ≡ u) × (t.again ≡ 0)
  ones-flags f =
      let a : sum (tabulate u (holders v)) ≡ u = sum_units u (holders v) f in
      let b : sum (tabulate u (λ q. sign (holders v q))) ≡ u = sum_units u (λ q. sign (holders v q)) (λ q l. ap sign (f q l)) in
      (held_flags ∙ a, omega (arith, held_flags, held_firsts))

  flags-ones : t.flagged ≡ u → t.again ≡ 0 → (q : ℕ) → q < u → holders v q ≡ 1
  flags-ones e z = each-one u (holders v) (omega (arith, held_flags, held_firsts)) (omega (arith, held_flags))

  ones_of : T (sound_rest v) → (q : ℕ) → q < u → holders v q ≡ 1
  ones_of s q l = eqb→eq (holders v q) 1 (every-at u (λ q. eqb (holders v q) 1) (all_tests tests (subst T rest_tests s)).1.0 q l)

  pub rest_sum : t.sum ≢ v.header.total → false ≡ sound_rest v
  rest_sum z = is_false (sound_rest v) (λ s. z (counted ∙ eqb→eq (all_counts v) v.header.total (all_tests tests (subst T rest_tests s)).0))

  pub rest-flags : t.flagged ≢ u → false ≡ sound_rest v
  rest-flags z = is_false (sound_rest v) (λ s. z (ones-flags (ones_of s)).0)

  pub rest_again : 0 < t.again → false ≡ sound_rest v
  rest_again h = is_false (sound_rest v) (λ s. omega (arith, (ones-flags (ones_of s)).1))

  pub rest-zero : t.sum ≡ v.header.total → t.flagged ≡ u → t.again ≡ 0 → fulls_zero v ≡ sound_rest v
  rest-zero a b c =
      bool_eq (fulls_zero v) (sound_rest v)
      (λ z. subst T (sym rest_tests) (tests_all tests (model.eq-eqb (sym counted ∙ a), (every_of u (λ q. eqb (holders v q) 1) (λ q l. model.eq-eqb (flags-ones b c q l)), (z, tt)))))
      (λ s. (all_tests tests (subst T rest_tests s)).1.1.0)

  pub all_sound : T (sound_buckets v)
  all_sound = every_of (buckets_in v.header) (sound_at v) p.sound

-- ---- the numbers

module _ (ws : List ℕ) where
  abbrev r7 : Refusal
  r7 = refuse 7 (not (good ws))

  abbrev r9 : Refusal
  r9 = refuse 9 (not (sound_buckets (parse ws)))

  abbrev r13 : Refusal
  r13 = refuse 13 (not (sound_rest (parse ws)))

  answers : (n : ℕ) → first_met (check_refusals ws) ≡ n → record { number = n; value = choose (eqb n 9) (lowest (buckets_in (parse ws).header) (sound_at (parse ws))) 0; words = ws } ≡ check ws
  unfolding check
  answers n e = ap (λ n. record { number = n; value = choose (eqb n 9) (lowest (buckets_in (parse ws).header) (sound_at (parse ws))) 0; words = ws }) (sym e)

  pub check_7 : T (not (good ws)) → record { number = 7; value = 0; words = ws } ≡ check ws
  check_7 t = answers 7 (first-met [] r7 (r9 ∷ r13 ∷ []) tt t)

  module _ (g : T (good ws)) where
    pub check_9 : (i : ℕ) → T (not (sound_buckets (parse ws))) → i ≡ lowest (buckets_in (parse ws).header) (sound_at (parse ws)) → record { number = 9; value = i; words = ws } ≡ check ws
    check_9 i t e = ap (λ i. record { number = 9; value = i; words = ws }) e ∙ answers 9 (first-met (r7 ∷ []) r9 (r13 ∷ []) (to_not-not (good ws) g, tt) t)

    module _ (s : T (sound_buckets (parse ws))) where
      pub check_13 : T (not (sound_rest (parse ws))) → record { number = 13; value = 0; words = ws } ≡ check ws
      check_13 t = answers 13 (first-met (r7 ∷ r9 ∷ []) r13 [] (to_not-not (good ws) g, (to_not-not (sound_buckets (parse ws)) s, tt)) t)

      pub check_0 : T (sound_rest (parse ws)) → record { number = 0; value = 0; words = ws } ≡ check ws
      check_0 t = answers 0 (first_clear (check_refusals ws) (to_not-not (good ws) g, (to_not-not (sound_buckets (parse ws)) s, (to_not-not (sound_rest (parse ws)) t, tt))))
