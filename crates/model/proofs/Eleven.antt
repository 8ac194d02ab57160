-- Number 11 never occurs, for any words and any flow number.
use mathlib.Core.Logic.{◌≢◌}
use mathlib.Core.Path.{◌≡◌, sym, ◌∙◌, subst}
use mathlib.Core.Bool.{not, ◌&&◌}
use mathlib.Core.List.{List, [], ◌∷◌, ◌++◌}
use Prim.Native.Nat.{ℕ, ◌+◌, ◌≤◌, ◌<◌}
use native.Mathlib.Nat.{le_trans}
use native.Mathlib.Omega.{arith}
use lib.Dec.{T, eqb, eqb→eq, eqb_refl, not_T, T_not}
use lib.Arith.{lt_of_le-ne}
use Rattle.model.specs.Walls.{Wall, count_end, good, flatten, parse, bucket_of, place_of}
use Rattle.model.specs.Sound.{bucket_at, full_for, counts_at, sound_at, count}
use Rattle.model.specs.Calls.{Clear, Refusal, refuse, first_met, overflows, bucket_refusals, step_refusals, raised_by, increment}
use Rattle.model.proofs.Tools.{not-not}
use Rattle.model.proofs.Headers.{Limits, good_of}
use Rattle.model.proofs.Sums.{sum-at}
use Rattle.model.proofs.Buckets.{bucket_facts}
use Rattle.model.proofs.SoundWalls.{parse-header}
use Rattle.model.proofs.Refusals.{first-drop, first-apart, answer_no}

pub eqb-not : (m n : ℕ) → m < n → T (not (eqb m n))
eqb-not m n h = not_T (eqb m n) (λ t. omega (arith, eqb→eq m n t))

-- a sound bucket's counts are at most the total
pub count_most : (v : Wall) (y : ℕ) → T (sound_at v (bucket_of v.header y)) → count v y ≤ v.header.total
unfolding count sound_at counts_at
count_most v y t =
    let i : ℕ = bucket_of v.header y in
    le_trans (sum-at (counts_at v i) (place_of v.header y))
    (bucket_facts v.header.width v.header.rows v.header.total v.header.used (bucket_at v i) (full_for v i) t).most

-- the refusals without 11
abbrev pub step_alone : Wall → ℕ → List Refusal
step_alone v y =
    refuse 10 (eqb v.header.total v.header.limit)
    ∷ refuse 12 (overflows v (bucket_of v.header y) (place_of v.header y) (count v y + 1) && eqb v.header.used v.header.full) ∷ []

abbrev pub refusals : List ℕ → ℕ → List Refusal
refusals ws y = bucket_refusals ws y ++ step_alone (parse ws) y

before : List ℕ → ℕ → List Refusal
before ws y = bucket_refusals ws y ++ refuse 10 (eqb (parse ws).header.total (parse ws).header.limit) ∷ []

never_met : (ws : List ℕ) (y : ℕ) → Clear (before ws y) → T (not (eqb (count (parse ws) y + 1) (count_end (parse ws).header)))
unfolding before
never_met ws y c =
    let g : Limits (parse ws).header = subst Limits (sym (parse-header ws)) (good_of ws (not-not (good ws) c.0)).limits in
    let m : count (parse ws) y ≤ (parse ws).header.total = count_most (parse ws) y (not-not (sound_at (parse ws) (bucket_of (parse ws).header y)) c.1.1.0) in
    let r : (parse ws).header.total < (parse ws).header.limit =
    lt_of_le-ne g.within (λ e. T_not (eqb (parse ws).header.total (parse ws).header.limit) c.1.1.1.0 (subst (λ n. T (eqb (parse ws).header.total n)) e (eqb_refl (parse ws).header.total))) in
    eqb-not (count (parse ws) y + 1) (count_end (parse ws).header) (omega (arith, g.limit-high))

-- leaving 11 out of the table changes no number
pub eleven_drops : (ws : List ℕ) (y : ℕ) → (increment ws y).number ≡ first_met (refusals ws y)
unfolding increment before
eleven_drops ws y =
    answer_no (count (parse ws) y + 1) (flatten (raised_by (parse ws) y 1)) ws (first_met (bucket_refusals ws y ++ step_refusals (parse ws) y))
    ∙ first-drop (before ws y) (refuse 11 (eqb (count (parse ws) y + 1) (count_end (parse ws).header)))
    (refuse 12 (overflows (parse ws) (bucket_of (parse ws).header y) (place_of (parse ws).header y) (count (parse ws) y + 1) && eqb (parse ws).header.used (parse ws).header.full) ∷ [])
    (never_met ws y)

pub never_eleven : (ws : List ℕ) (y : ℕ) → (increment ws y).number ≢ 11
never_eleven ws y e =
    first-apart 11 (refusals ws y) ((λ z. omega arith), ((λ z. omega arith), ((λ z. omega arith), ((λ z. omega arith), ((λ z. omega arith), (λ z. omega arith))))))
    (sym (eleven_drops ws y) ∙ e)
