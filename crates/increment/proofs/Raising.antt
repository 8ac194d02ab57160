-- One more of a flow: its refusals, and the step where none of 7 to 10 is met.
use mathlib.Core.Logic.{◌≢◌}
use mathlib.Core.Path.{◌≡◌, refl, sym, ap, ap₂, ◌∙◌, subst}
use mathlib.Core.Bool.{not, ◌&&◌}
use mathlib.Core.List.{List, [], ◌∷◌, ◌++◌}
use Prim.Native.Nat.{ℕ, ◌+◌, ◌^◌, ◌≤◌, ◌<◌}
use native.Mathlib.Nat.{le_trans}
use native.Mathlib.Omega.{arith}
use lib.Dec.{T, eqb, leb, not_T, eqb→eq}
use lib.Arith.{lt→nleb}
use lib.ListN.{get_or}
use Rattle.model.specs.Walls.{Wall, Header, flows, count_end, bucket_of, place_of, flatten, good, parse}
use Rattle.model.specs.Sound.{bucket_at, full_for, counts_at, sound_at, count}
use Rattle.model.specs.Calls as model
use Rattle.model.specs.Calls.{refuse, first_met, outcome, bucket_refusals, overflows, step, step_refusals, raised_by, increment}
use Rattle.model.proofs.Headers.{eq-eqb}
use Rattle.model.proofs.Sums.{sum-at}
use Rattle.model.proofs.Tools.{to_not-not}
use Rattle.model.proofs.Buckets.{bucket_facts}
use Rattle.model.proofs.Refusals.{first-met, first-skip, answer_no, refused_as}
use Rattle.model.proofs.Eleven.{eleven_drops}
use Rattle.layout.specs.declared.Wall as layout
use Rattle.layout.specs.Views.{header_of}
use Rattle.std.specs.Prelude.{Option, Some, None, Result, Ok, Err, ok_or}
use Rattle.answer.specs.declared.Refusal.{Refusal}
use Rattle.answer.specs.declared.Refusal.TheVariants.{Unsound}
use Rattle.uppers.specs.Judge.{verdict}
use Rattle.uppers.proofs.Verdicts.{said-sound, said-not}
use Rattle.header.specs.Headers.{Open}
use Rattle.header.proofs.Places.{count_end_most, open_header, open_limits}
use Rattle.steps.specs.Step.{step_in}
use Rattle.increment.specs.OneMore.{one_more}

-- a sound bucket's counts are at most the total
counts_most : (v : Wall) (i a : ℕ) → T (sound_at v i) → get_or (counts_at v i) a 0 ≤ v.header.total
unfolding sound_at counts_at
counts_most v i a t =
    le_trans (sum-at (counts_at v i) a) (bucket_facts v.header.width v.header.rows v.header.total v.header.used (bucket_at v i) (full_for v i) t).most

module _ (ws : List ℕ) (i a : ℕ) where
  abbrev c : ℕ
  c = get_or (counts_at (parse ws) i) a 0 + 1

  abbrev after : List ℕ
  after = flatten (step (parse ws) i a c ((parse ws).header.total + 1))

  abbrev nine : model.Refusal
  nine = refuse 9 (not (sound_at (parse ws) i))

  abbrev ten : model.Refusal
  ten = refuse 10 (eqb (parse ws).header.total (parse ws).header.limit)

  abbrev twelve : model.Refusal
  twelve = refuse 12 (overflows (parse ws) i a c && eqb (parse ws).header.used (parse ws).header.full)

  refused : (n : ℕ) → 0 < n → first_met (nine ∷ ten ∷ twelve ∷ []) ≡ n → record { number = n; value = 0; words = ws } ≡ one_more ws i a
  unfolding one_more
  refused = refused_as (nine ∷ ten ∷ twelve ∷ []) c after ws

  pub at-nine : T (not (sound_at (parse ws) i)) → record { number = 9; value = 0; words = ws } ≡ one_more ws i a
  at-nine t = refused 9 (omega arith) (first-met [] nine (ten ∷ twelve ∷ []) tt t)

  module _ (t : T (sound_at (parse ws) i)) where
    pub at-ten : (parse ws).header.total ≡ (parse ws).header.limit → record { number = 10; value = 0; words = ws } ≡ one_more ws i a
    at-ten e = refused 10 (omega arith) (first-met (nine ∷ []) ten (twelve ∷ []) (to_not-not (sound_at (parse ws) i) t, tt) (eq-eqb e))

    pub at-step : ((parse ws).header.total ≡ (parse ws).header.limit → ⊥) → step_in ws i a c ((parse ws).header.total + 1) ≡ one_more ws i a
    unfolding one_more
    at-step z =
        let y : T (not (eqb (parse ws).header.total (parse ws).header.limit)) = not_T (eqb (parse ws).header.total (parse ws).header.limit) (λ t. z (eqb→eq (parse ws).header.total (parse ws).header.limit t)) in
        sym (ap (λ n. outcome n c after ws) (first-skip (nine ∷ ten ∷ []) (twelve ∷ []) (to_not-not (sound_at (parse ws) i) t, (y, tt))))

    -- one more is a count that a counter holds
    pub one_more_fits : (v : layout.Wall) → Open ws v → (v.total ≡ v.limit → ⊥) → c < count_end (header_of v)
    one_more_fits v o z =
        let l = open_limits ws v o in
        let m : get_or (counts_at (parse ws) i) a 0 ≤ v.total = subst (λ (h : Header). get_or (counts_at (parse ws) i) a 0 ≤ h.total) (sym (open_header ws v o)) (counts_most (parse ws) i a t) in
        let n : v.total ≢ v.limit = z in
        omega (arith, l.within, l.limit-high)

pub total-small : (ws : List ℕ) (v : layout.Wall) → Open ws v → v.total < 2 ^ 47
total-small ws v o = let l = open_limits ws v o in omega (arith, l.within, l.limit-high, count_end_most ws v o)

-- ---- by what the code found

-- a bucket that is judged first, with refusal 9
pub not_found : (r : Option ℕ) (e : Refusal) → ◌≡◌ {A = Result ℕ Refusal} (Err e) (ok_or r Unsound) → (e ≡ Unsound) × (r ≡ None)
not_found None e h = (cc, refl)
not_found (Some x) e h = let z : ◌≡◌ {A = ℕ} 0 1 = cc in absurd (omega arith)

pub found : (r : Option ℕ) (x : ℕ) → ◌≡◌ {A = Result ℕ Refusal} (Ok x) (ok_or r Unsound) → r ≡ Some x
found None x h = let z : ◌≡◌ {A = ℕ} 0 1 = cc in absurd (omega arith)
found (Some y) x h = let z : x ≡ y = cc in ap Some (sym z)

-- r judges the bucket, and m is what stands beside a sound one

module _ (ws : List ℕ) (i a : ℕ) (r : Option ℕ) (m : ℕ) (judges : r ≡ verdict (sound_at (parse ws) i) m) where
  pub unsound_9 : r ≡ None → record { number = 9; value = 0; words = ws } ≡ one_more ws i a
  unsound_9 z = at-nine ws i a (subst (λ b. T (not b)) (sym (said-not (sound_at (parse ws) i) m (sym judges ∙ z))) tt)

  module _ (x : ℕ) (says : r ≡ Some x) where
    pub told-sound : T (sound_at (parse ws) i)
    told-sound = subst T (sym (said-sound (sound_at (parse ws) i) m (sym judges ∙ says)).0) tt

    pub told-value : m ≡ x
    told-value = (said-sound (sound_at (parse ws) i) m (sym judges ∙ says)).1

    module _ (v : layout.Wall) (o : Open ws v) where
      -- the limit of the code is that of the wall
      pub total_10 : v.total ≡ v.limit → record { number = 10; value = 0; words = ws } ≡ one_more ws i a
      total_10 z =
          let h = open_header ws v o in
          at-ten ws i a told-sound (sym (ap (λ (h : Header). h.total) h) ∙ z ∙ ap (λ (h : Header). h.limit) h)

      pub limit_10 : v.limit ≡ v.total → record { number = 10; value = 0; words = ws } ≡ one_more ws i a
      limit_10 z = total_10 (sym z)

      module _ (below : v.total ≡ v.limit → ⊥) (c : ℕ) (counts : c ≡ get_or (counts_at (parse ws) i) a 0) where
        pub next-fits : c + 1 < count_end (header_of v)
        next-fits = omega (arith, one_more_fits ws i a told-sound v o below)

        pub next-small : c + 1 < 2 ^ 64
        next-small = omega (arith, next-fits, count_end_most ws v o)

        pub stepped : step_in ws i a (c + 1) (v.total + 1) ≡ one_more ws i a
        stepped =
            let h = open_header ws v o in
            ap₂ (λ m t. step_in ws i a (m + 1) (t + 1)) counts (ap (λ (h : Header). h.total) h)
            ∙ at-step ws i a told-sound (λ q. below (ap (λ (h : Header). h.total) h ∙ q ∙ sym (ap (λ (h : Header). h.limit) h)))

-- ---- of a flow

module _ (ws : List ℕ) (y : ℕ) where
  pub increment_refuses : (n : ℕ) → 0 < n → first_met (bucket_refusals ws y ++ step_refusals (parse ws) y) ≡ n → record { number = n; value = 0; words = ws } ≡ increment ws y
  unfolding increment
  increment_refuses = refused_as (bucket_refusals ws y ++ step_refusals (parse ws) y) (count (parse ws) y + 1) (flatten (raised_by (parse ws) y 1)) ws

  -- 11 is never met, so where 7 and 8 are not the flow's own bucket decides
  pub increment-at : T (good ws) → y < flows (parse ws).header → one_more ws (bucket_of (parse ws).header y) (place_of (parse ws).header y) ≡ increment ws y
  unfolding increment one_more count
  increment-at g l =
      let i : ℕ = bucket_of (parse ws).header y in
      let a : ℕ = place_of (parse ws).header y in
      let n : ℕ = first_met (bucket_refusals ws y ++ step_refusals (parse ws) y) in
      let e : n ≡ first_met (nine ws i a ∷ ten ws i a ∷ twelve ws i a ∷ []) =
      sym (answer_no (count (parse ws) y + 1) (flatten (raised_by (parse ws) y 1)) ws n) ∙ eleven_drops ws y
      ∙ first-skip (refuse 7 (not (good ws)) ∷ refuse 8 (leb (flows (parse ws).header) y) ∷ []) (nine ws i a ∷ ten ws i a ∷ twelve ws i a ∷ [])
      (to_not-not (good ws) g, (lt→nleb (flows (parse ws).header) y l, tt)) in
      sym (ap (λ n. outcome n (count (parse ws) y + 1) (flatten (raised_by (parse ws) y 1)) ws) e)
