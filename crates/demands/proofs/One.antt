-- Demand 1: of a list of refusals whose numbers are distinct and none of them 0, the number given says which one is the first that is met.
use mathlib.Core.Logic.{◌≢◌}
use mathlib.Core.Path.{◌≡◌, refl, sym, ap, ◌∙◌, subst}
use mathlib.Core.Bool.{Bool, true, false, not, ◌&&◌}
use mathlib.Core.List.{List, [], ◌∷◌, ◌++◌}
use Prim.Native.Nat.{ℕ, zero, suc, ◌<◌}
use native.Mathlib.Nat.{not-suc-le-zero}
use native.Mathlib.Omega.{arith}
use lib.Dec.{T, eqb, eqb→eq, eqb_refl, T_not}
use Rattle.model.specs.Lists.{choose, every, lowest}
use Rattle.model.specs.Walls.{Wall, buckets_in, good, parse}
use Rattle.model.specs.Sound.{sound_at, sound_buckets, sound_rest}
use Rattle.model.specs.Calls.{Refusal, refuse, Clear, first_met, reply, outcome, slot_refusals, slot_call, limits_refusals, limits_call, image_refusals, image_call, raise_refusals, raise, close_refusals, close, bucket_refusals, step_refusals, lookup, increment, check_refusals, check}
use Rattle.model.specs.BusyLists.{busy_refusals, busy}
use Rattle.model.proofs.Refusals.{Named, Apart, first_clear, clear_first, first-met, first-apart, answer_no, lookup-words, lowest-before, lowest_fails}
use Rattle.model.proofs.Tools.{and_tests}
use Rattle.model.proofs.Eleven.{never_eleven}
use Rattle.demands.specs.DemandOne.{Numbered, Replies, Answers, LowestUnsound, Checks, DemandOne}

-- ---- what is asked of a list: the number n is not 0 and none of the list's; each is so of those after it

abbrev apart : ℕ → List Refusal → Bool
apart n [] = not (eqb 0 n)
apart n (r ∷ rs) = not (eqb r.number n) && apart n rs

abbrev distinct : List Refusal → Bool
distinct [] = true
distinct (r ∷ rs) = apart r.number rs && distinct rs

differ : (m n : ℕ) → T (not (eqb m n)) → m ≢ n
differ m n t e = T_not (eqb m n) t (subst (λ x. T (eqb m x)) e (eqb_refl m))

apart_of : (n : ℕ) (rs : List Refusal) → T (apart n rs) → Apart n rs
apart_of n [] t = differ 0 n t
apart_of n (r ∷ rs) t = let b = and_tests (not (eqb r.number n)) (apart n rs) t in (differ r.number n b.0, apart_of n rs b.1)

nonzero : (n : ℕ) (rs : List Refusal) → T (apart n rs) → 0 < n
nonzero zero [] t = absurd t
nonzero (suc n) [] t = omega arith
nonzero n (r ∷ rs) t = nonzero n rs (and_tests (not (eqb r.number n)) (apart n rs) t).1

named : (rs : List Refusal) → T (distinct rs) → Named rs
named [] t = tt
named (r ∷ rs) t = let b = and_tests (apart r.number rs) (distinct rs) t in (nonzero r.number rs b.0, named rs b.1)

-- it differs from that of any of the list
apart_in : (n : ℕ) (before : List Refusal) (r : Refusal) (after : List Refusal) → Apart n (before ++ r ∷ after) → r.number ≢ n
apart_in n [] r after p = p.0
apart_in n (q ∷ before) r after p = apart_in n before r after p.1

-- the number is that of r: those before it are not met, and it is
given : (before : List Refusal) (r : Refusal) (after : List Refusal) → T (distinct (before ++ r ∷ after)) → first_met (before ++ r ∷ after) ≡ r.number → Clear before × T r.met
given [] r after d e = go r.met e
  where
    go : (b : Bool) → choose b r.number (first_met after) ≡ r.number → Unit {0} × T b
    go true e = (tt, tt)
    go false e = absurd (first-apart r.number after (apart_of r.number after (and_tests (apart r.number after) (distinct after) d).0) e)
given (q ∷ before) r after d e = go q.met e (given before r after b.1)
  where
    b : T (apart q.number (before ++ r ∷ after)) × T (distinct (before ++ r ∷ after))
    b = and_tests (apart q.number (before ++ r ∷ after)) (distinct (before ++ r ∷ after)) d

    go : (m : Bool) → choose m q.number (first_met (before ++ r ∷ after)) ≡ r.number → (first_met (before ++ r ∷ after) ≡ r.number → Clear before × T r.met) → (T (not m) × Clear before) × T r.met
    go true e f = absurd (apart_in q.number before r after (apart_of q.number (before ++ r ∷ after) b.0) (sym e))
    go false e f = let c = f e in ((tt, c.0), c.1)

numbered : (rs : List Refusal) → T (distinct rs) → Numbered rs (first_met rs)
numbered rs d = record {
  done = (clear_first rs (named rs d), first_clear rs);
  first = λ before r after s. (
    (λ e. given before r after (subst (λ l. T (distinct l)) s d) (sym (ap first_met s) ∙ e)),
    (λ c. ap first_met s ∙ first-met before r after c.0 c.1),
  );
}

-- ---- a call on numbers or bytes, and a call on words

replied : (rs : List Refusal) (v : ℕ) → T (distinct rs) → Replies rs v (reply (first_met rs) v)
replied rs v d = record { number = subst (Numbered rs) (sym (same (first_met rs))) (numbered rs d); value = none (first_met rs); done = given_by (first_met rs) }
  where
    same : (n : ℕ) → (reply n v).number ≡ n
    same zero = refl
    same (suc n) = refl

    none : (n : ℕ) → 0 < (reply n v).number → (reply n v).value ≡ 0
    none zero h = absurd (not-suc-le-zero h)
    none (suc n) h = refl

    given_by : (n : ℕ) → (reply n v).number ≡ 0 → (reply n v).value ≡ v
    given_by zero e = refl
    given_by (suc n) e = absurd (omega arith)

answered : (rs : List Refusal) (v : ℕ) (done ws : List ℕ) → T (distinct rs) → Answers rs v done ws (outcome (first_met rs) v done ws)
answered rs v done ws d = record {
  number = subst (Numbered rs) (sym (answer_no v done ws (first_met rs))) (numbered rs d);
  value = none (first_met rs);
  words = same (first_met rs);
  done = given_by (first_met rs);
}
  where
    none : (n : ℕ) → 0 < (outcome n v done ws).number → (outcome n v done ws).value ≡ 0
    none zero h = absurd (not-suc-le-zero h)
    none (suc n) h = refl

    same : (n : ℕ) → 0 < (outcome n v done ws).number → (outcome n v done ws).words ≡ ws
    same zero h = absurd (not-suc-le-zero h)
    same (suc n) h = refl

    given_by : (n : ℕ) → (outcome n v done ws).number ≡ 0 → ((outcome n v done ws).value ≡ v) × ((outcome n v done ws).words ≡ done)
    given_by zero e = (refl, refl)
    given_by (suc n) e = absurd (omega arith)

-- ---- the check

lowest_lt : (n : ℕ) (p : ℕ → Bool) → T (not (every n p)) → lowest n p < n
lowest_lt zero p t = absurd t
lowest_lt (suc n) p t = go (p 0) t (lowest_lt n (λ i. p (suc i)))
  where
    go : (b : Bool) → T (not (b && every n (λ i. p (suc i)))) → (T (not (every n (λ i. p (suc i)))) → lowest n (λ i. p (suc i)) < n) → choose b (suc (lowest n (λ i. p (suc i)))) 0 < suc n
    go true t f = let l = f t in omega arith
    go false t f = omega arith

lowest-unsound : (v : Wall) → T (not (sound_buckets v)) → LowestUnsound v (lowest (buckets_in v.header) (sound_at v))
lowest-unsound v t = record {
  within = lowest_lt (buckets_in v.header) (sound_at v) t;
  unsound = lowest_fails (buckets_in v.header) (sound_at v) t;
  before = lowest-before (buckets_in v.header) (sound_at v);
}

checked : (ws : List ℕ) → Checks ws (check ws)
unfolding check
checked ws = record {
  number = numbered (check_refusals ws) tt;
  words = refl;
  nine = λ e. subst (LowestUnsound (parse ws)) (sym (nine (first_met (check_refusals ws)) e))
      (lowest-unsound (parse ws) (given (refuse 7 (not (good ws)) ∷ []) (refuse 9 (not (sound_buckets (parse ws)))) (refuse 13 (not (sound_rest (parse ws))) ∷ []) tt e).1);
  other = λ f. other (eqb (first_met (check_refusals ws)) 9) (λ t. f (eqb→eq (first_met (check_refusals ws)) 9 t));
}
  where
    i : ℕ
    i = lowest (buckets_in (parse ws).header) (sound_at (parse ws))

    nine : (n : ℕ) → n ≡ 9 → choose (eqb n 9) i 0 ≡ i
    nine n e = ap (λ m. choose (eqb m 9) i 0) e

    other : (b : Bool) → (T b → ⊥) → choose b i 0 ≡ 0
    other true f = absurd (f tt)
    other false f = refl

pub demand_one : DemandOne
unfolding slot_call limits_call image_call raise close lookup increment busy
demand_one = record {
  slot_calls = λ b m y. replied (slot_refusals b m y) _ tt;
  limits_calls = λ p w. replied (limits_refusals p w) _ tt;
  image_calls = λ bytes n. replied (image_refusals bytes n) _ tt;
  raise_calls = λ a ws. answered (raise_refusals a ws) _ _ ws tt;
  close_calls = λ ws. answered (close_refusals ws) _ _ ws tt;
  lookup_calls = λ ws y. answered (bucket_refusals ws y) _ _ ws tt;
  increment_calls = λ ws y. answered (bucket_refusals ws y ++ step_refusals (parse ws) y) _ _ ws tt;
  check_calls = checked;
  busy_calls = λ ws floor list. answered (busy_refusals ws floor list) _ _ list tt;
  default = λ p b l j m ws. (refl, refl);
  kept = lookup-words;
  eleven = never_eleven;
}
