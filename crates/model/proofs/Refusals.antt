-- Numbers and refusals: the first that applies, and what a refusal leaves.
use mathlib.Core.Logic.{◌≢◌}
use mathlib.Core.Path.{◌≡◌, refl, sym, ap, ◌∙◌, subst}
use mathlib.Core.Bool.{Bool, true, false, not, ◌&&◌}
use mathlib.Core.List.{List, [], ◌∷◌, ◌++◌}
use Prim.Native.Nat.{ℕ, zero, suc, ◌+◌, ◌<◌}
use native.Mathlib.Nat.{not-suc-le-zero, le_of_suc-le-suc}
use native.Mathlib.Omega.{arith}
use lib.Dec.{T}
use Rattle.model.specs.Lists.{choose, every, lowest}
use Rattle.model.specs.Walls.{flatten, parse}
use Rattle.model.specs.Sound.{count}
use Rattle.model.specs.Calls.{Clear, Outcome, Refusal, first_met, outcome, reply, lookup, increment, bucket_refusals, step_refusals, raised_by}

abbrev pub Named : List Refusal → Type 0
Named [] = Unit {0}
Named (r ∷ rs) = (0 < r.number) × Named rs

pub first_clear : (rs : List Refusal) → Clear rs → first_met rs ≡ 0
first_clear [] c = refl
first_clear (r ∷ rs) c = go r.met c.0 (first_clear rs c.1)
  where
    go : (b : Bool) → T (not b) → first_met rs ≡ 0 → choose b r.number (first_met rs) ≡ 0
    go true t e = absurd t
    go false t e = e

pub clear_first : (rs : List Refusal) → Named rs → first_met rs ≡ 0 → Clear rs
clear_first [] n e = tt
clear_first (r ∷ rs) n e = go r.met e (clear_first rs n.1)
  where
    go : (b : Bool) → choose b r.number (first_met rs) ≡ 0 → (first_met rs ≡ 0 → Clear rs) → T (not b) × Clear rs
    go true e f = absurd (omega (arith, n.0))
    go false e f = (tt, f e)

-- those that are not met may be left out
pub first-skip : (rs ss : List Refusal) → Clear rs → first_met (rs ++ ss) ≡ first_met ss
first-skip [] ss c = refl
first-skip (r ∷ rs) ss c = go r.met c.0 (first-skip rs ss c.1)
  where
    go : (b : Bool) → T (not b) → first_met (rs ++ ss) ≡ first_met ss → choose b r.number (first_met (rs ++ ss)) ≡ first_met ss
    go true t e = absurd t
    go false t e = e

-- one among the first of a list is that of the whole
pub first_stays : (rs ss : List Refusal) (n : ℕ) → 0 < n → first_met rs ≡ n → first_met (rs ++ ss) ≡ n
first_stays [] ss n h e = absurd (omega arith)
first_stays (r ∷ rs) ss n h e = go r.met e (first_stays rs ss n h)
  where
    go : (b : Bool) → choose b r.number (first_met rs) ≡ n → (first_met rs ≡ n → first_met (rs ++ ss) ≡ n) → choose b r.number (first_met (rs ++ ss)) ≡ n
    go true e f = e
    go false e f = f e

module _ (v : ℕ) (done ws : List ℕ) where
  pub answer_no : (n : ℕ) → (outcome n v done ws).number ≡ n
  answer_no zero = refl
  answer_no (suc n) = refl

  pub answer_done : (n : ℕ) → n ≡ 0 → outcome n v done ws ≡ record { number = 0; value = v; words = done }
  answer_done zero e = refl
  answer_done (suc n) e = absurd (omega arith)

  pub answer_refused : (n : ℕ) → 0 < n → outcome n v done ws ≡ record { number = n; value = 0; words = ws }
  answer_refused zero h = absurd (not-suc-le-zero h)
  answer_refused (suc n) h = refl

-- the outcome where n, not 0, is the number of the list
pub refused_as : (rs : List Refusal) (v : ℕ) (done ws : List ℕ) (n : ℕ) → 0 < n → first_met rs ≡ n → record { number = n; value = 0; words = ws } ≡ outcome (first_met rs) v done ws
refused_as rs v done ws n h e = sym (answer_refused v done ws n h) ∙ ap (λ n. outcome n v done ws) (sym e)

module _ (v : ℕ) where
  pub reply-done : (n : ℕ) → n ≡ 0 → reply n v ≡ record { number = 0; value = v }
  reply-done zero e = refl
  reply-done (suc n) e = absurd (omega arith)

-- ---- a refusal gives count 0 and changes no word

pub record Unchanged (ws : List ℕ) (r : Outcome) : Type 0 where
  pub value : r.value ≡ 0
  pub words : r.words ≡ ws

refused : (n v : ℕ) (done ws : List ℕ) → 0 < (outcome n v done ws).number → Unchanged ws (outcome n v done ws)
refused zero v done ws h = absurd (not-suc-le-zero h)
refused (suc n) v done ws h = record { value = refl; words = refl }

pub increment-refused : (ws : List ℕ) (y : ℕ) → 0 < (increment ws y).number → Unchanged ws (increment ws y)
unfolding increment
increment-refused ws y = refused (first_met (bucket_refusals ws y ++ step_refusals (parse ws) y)) (count (parse ws) y + 1) (flatten (raised_by (parse ws) y 1)) ws

pub lookup-words : (ws : List ℕ) (y : ℕ) → (lookup ws y).words ≡ ws
unfolding lookup
lookup-words ws y = go (first_met (bucket_refusals ws y))
  where
    go : (n : ℕ) → (outcome n (count (parse ws) y) ws ws).words ≡ ws
    go zero = refl
    go (suc n) = refl

-- one that is never met where those before it are not may be left out
pub first-drop : (rs : List Refusal) (r : Refusal) (ss : List Refusal) → (Clear rs → T (not r.met)) → first_met (rs ++ r ∷ ss) ≡ first_met (rs ++ ss)
first-drop [] r ss h = go r.met (h tt)
  where
    go : (b : Bool) → T (not b) → choose b r.number (first_met ss) ≡ first_met ss
    go true t = absurd t
    go false t = refl
first-drop (q ∷ rs) r ss h = go q.met (λ t. first-drop rs r ss (λ c. h (t, c)))
  where
    go : (b : Bool) → (T (not b) → first_met (rs ++ r ∷ ss) ≡ first_met (rs ++ ss)) → choose b q.number (first_met (rs ++ r ∷ ss)) ≡ choose b q.number (first_met (rs ++ ss))
    go true f = refl
    go false f = f tt

-- the number given is one of those in the list
abbrev pub Apart : ℕ → List Refusal → Type 0
Apart n [] = 0 ≢ n
Apart n (r ∷ rs) = (r.number ≢ n) × Apart n rs

pub first-apart : (n : ℕ) (rs : List Refusal) → Apart n rs → first_met rs ≢ n
first-apart n [] h = h
first-apart n (r ∷ rs) h = go r.met (first-apart n rs h.1)
  where
    go : (b : Bool) → first_met rs ≢ n → choose b r.number (first_met rs) ≢ n
    go true f = h.0
    go false f = f

-- ---- the other calls

-- the lowest that fails: all before it pass, and it fails
pub lowest-before : (n : ℕ) (p : ℕ → Bool) (i : ℕ) → i < lowest n p → T (p i)
lowest-before zero p i h = absurd (not-suc-le-zero h)
lowest-before (suc n) p i h = go (p 0) refl i h (λ k. lowest-before n (λ j. p (suc j)) k)
  where
    go : (b : Bool) → p 0 ≡ b → (i : ℕ) → i < choose b (suc (lowest n (λ j. p (suc j)))) 0 → ((k : ℕ) → k < lowest n (λ j. p (suc j)) → T (p (suc k))) → T (p i)
    go true e zero h f = subst T (sym e) tt
    go true e (suc i) h f = f i (le_of_suc-le-suc h)
    go false e i h f = absurd (not-suc-le-zero h)

pub lowest_fails : (n : ℕ) (p : ℕ → Bool) → T (not (every n p)) → T (not (p (lowest n p)))
lowest_fails zero p t = absurd t
lowest_fails (suc n) p t = go (p 0) refl t (lowest_fails n (λ j. p (suc j)))
  where
    go : (b : Bool) → p 0 ≡ b → T (not (b && every n (λ j. p (suc j)))) → (T (not (every n (λ j. p (suc j)))) → T (not (p (suc (lowest n (λ j. p (suc j))))))) → T (not (p (choose b (suc (lowest n (λ j. p (suc j)))) 0)))
    go true e t f = f t
    go false e t f = subst (λ b. T (not b)) (sym e) tt

-- the refusal that applies: those before it are not met, and it is
pub first-met : (rs : List Refusal) (r : Refusal) (ss : List Refusal) → Clear rs → T r.met → first_met (rs ++ r ∷ ss) ≡ r.number
first-met rs r ss c t = first-skip rs (r ∷ ss) c ∙ go r.met t
  where
    go : (b : Bool) → T b → choose b r.number (first_met ss) ≡ r.number
    go true t = refl
    go false t = absurd t
