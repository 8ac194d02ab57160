-- Where walls begin.
use mathlib.Core.Path.{◌≡◌, refl, sym, ap, ◌∙◌, subst}
use mathlib.Core.List.{List, []}
use Prim.Native.Nat.{ℕ, ◌<◌}
use Rattle.model.specs.Walls.{Header, flows, read_header}
use Rattle.model.specs.Calls.{asked, raise, close, lookup}
use Rattle.model.specs.Runs.{run}
use Rattle.demands.specs.DemandThree.{Listed, After}
use Rattle.demands.specs.Beginnings.{Beginnings}
use Rattle.demands.proofs.Two.{demand_two}
use Rattle.demands.proofs.Three.{demand_three}

-- after no increment every flow reads 0
fresh-reads : (h : Header) (ws : List ℕ) → Listed h ws → (y : ℕ) → y < flows h → lookup ws y ≡ record { number = 0; value = 0; words = ws }
unfolding run
fresh-reads h ws l y m =
    let a : After h [] ws = l.after [] tt refl in
    demand_two.reads ws y a.accepted (subst (λ (g : Header). y < flows g) (sym a.header) m)
    ∙ ap (λ n. record { number = 0; value = n; words = ws }) (a.counts y m)

pub beginnings : Beginnings
beginnings = record {
  raised_reads = λ a ws e. fresh-reads (asked a) (raise a ws).words (demand_three.raised a ws e);
  closed_reads = λ ws e. fresh-reads (read_header ws) (close ws).words (demand_three.closed ws e);
}
