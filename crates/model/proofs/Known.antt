-- A list that is accepted throughout lists known flows only.
use mathlib.Core.Path.{◌≡◌, sym, ap, ◌∙◌, subst}
use mathlib.Core.List.{List, [], ◌∷◌}
use Prim.Native.Nat.{ℕ, ◌<◌}
use Rattle.model.specs.Walls.{Header, flows, slot_of}
use Rattle.model.specs.Calls.{Outcome, increment}
use Rattle.model.specs.Runs.{run}
use Rattle.model.proofs.Lists.{Below}
use Rattle.model.proofs.Demand2.{follows}
use Rattle.model.proofs.Demand3.{On, next_on, run_on, run-first}

pub run-known : (h : Header) (ys xs ws : List ℕ) → On h xs ws → (run ws ys).number ≡ 0 → Below (flows h) ys
run-known h [] xs ws o e = tt
run-known h (y ∷ ys) xs ws o e =
    let z = run-first ws y ys e in
    let l : y < flows h = subst (λ (k : Header). y < flows k) o.reached.header (follows ws y z).flow in
    (l, run-known h ys (slot_of h y ∷ xs) (increment ws y).words (next_on h xs ws o y l z) (sym (ap (λ (a : Outcome). a.number) (run_on ws y ys z)) ∙ e))
