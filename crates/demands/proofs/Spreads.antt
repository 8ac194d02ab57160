-- Request 2: the spread of a wall.
use mathlib.Core.Logic.{◌↔◌, ◌≢◌, ◌⊎◌, inl, inr, ⊎_elim}
use mathlib.Core.Path.{◌≡◌, refl, sym, ap, ◌∙◌}
use mathlib.Core.Bool.{not}
use mathlib.Core.List.{List, []}
use Prim.Native.Nat.{ℕ, zero, suc, ◌+◌, ◌-◌, ◌*◌, ◌/◌, ◌%◌, ◌^◌, ◌≤◌, ◌<◌}
use native.Mathlib.Nat.{mul-one, mod-eq_of_lt}
use native.Mathlib.Decide.{dec_lt}
use native.Mathlib.Omega.{arith}
use lib.Dec.{T, T_not, not_T}
use lib.ListN.{get_or}
use lib.Pow.{mod-mod-pow}
use Rattle.model.specs.Slots.{slot, valid_spread}
use Rattle.model.specs.Walls.{Header, Wall, good, read_header, parse}
use Rattle.model.specs.Calls.{asked, refuse, raise, close, increment}
use Rattle.model.specs.Runs.{run}
use Rattle.model.proofs.Slots.{slot_lt, undoing, valid_undoing, flow-slot, slot-flow, slot_inj, spread_facts, facts_spread}
use Rattle.model.proofs.Spreads.{times_mod}
use Rattle.model.proofs.Headers.{good_of}
use Rattle.model.proofs.SoundWalls.{parse-header}
use Rattle.model.proofs.Demand2.{follows}
use Rattle.demands.specs.DemandThree.{Listed, After}
use Rattle.demands.specs.Spreads.{OneFlow, Foreign, Spreads}
use Rattle.demands.proofs.One.{demand_one}
use Rattle.demands.proofs.Own.{own-raised}
use Rattle.demands.proofs.Two.{demand_two}
use Rattle.demands.proofs.Three.{demand_three}

one_flow : (b m s : ℕ) → T (valid_spread b m) → s < 2 ^ b → OneFlow b m s
one_flow b m s t h = record {
  flow = slot b (undoing b m) s;
  known = slot_lt b (undoing b m) s;
  there = slot-flow b m s t h;
  alone = λ y l e. sym (flow-slot b m y t l) ∙ ap (slot b (undoing b m)) e;
}

-- the low six bits of a slot are those of the flow's low six bits times the spread
low_bits : (b m y : ℕ) → 6 ≤ b → m ≢ 0 → slot b m y % 64 ≡ y % 64 * m % 64
low_bits b zero y l n = absurd (n refl)
low_bits b (suc m) y l n =
    let e : b ≡ b - 6 + 6 = omega (arith, l) in
    ap (λ x. y * suc m % 2 ^ x % 64) e ∙ mod-mod-pow (y * suc m) (b - 6) 6 ∙ sym (times_mod y (suc m) 64)

apart : (b m y z : ℕ) → 6 ≤ b → T (valid_spread b m) → m ≢ 0 → y < 2 ^ b → z < 2 ^ b → y % 64 ≡ z % 64 → y ≢ z → slot b m y / 64 ≢ slot b m z / 64
apart b m y z l t n hy hz e d q =
    let low : slot b m y % 64 ≡ slot b m z % 64 = low_bits b m y l n ∙ ap (λ x. x * m % 64) e ∙ sym (low_bits b m z l n) in
    d (slot_inj b m t y z hy hz (omega (arith, low, q)))

identity : (b y : ℕ) → y < 2 ^ b → slot b 1 y ≡ y
identity b y h = ap (λ x. x % 2 ^ b) (mul-one y) ∙ mod-eq_of_lt h

refused : (b m : ℕ) → T (not (valid_spread b m)) ↔ ((m ≢ 0) × ((m % 2 ≡ 0) ⊎ (2 ^ b ≤ m)))
refused b zero = ((λ t. absurd t), (λ f. absurd (f.0 refl)))
refused b (suc m) = (
  (λ t. ((λ e. omega (arith, e)), go t (dec_lt (suc m) (2 ^ b)) (dec_lt (suc m % 2) 1))),
  (λ f. not_T (valid_spread b (suc m)) (λ t. let u = spread_facts b m t in ⊎_elim (λ e. omega (arith, u.0, e)) (λ h. omega (arith, u.1, h)) f.1)),
)
  where
    go : T (not (valid_spread b (suc m))) → Dec (suc m < 2 ^ b) → Dec (suc m % 2 < 1) → (suc m % 2 ≡ 0) ⊎ (2 ^ b ≤ suc m)
    go t (no n) d = inr (omega (arith, n))
    go t (yes l) (yes e) = inl (omega (arith, e))
    go t (yes l) (no n) = absurd (T_not (valid_spread b (suc m)) t (facts_spread b (suc m) (omega (arith, n)) l))

foreign : (ws : List ℕ) → T (not (valid_spread (read_header ws).bits (read_header ws).spread)) → Foreign ws
foreign ws t =
    let n : T (not (good ws)) = not_T (good ws) (λ g. T_not (valid_spread (read_header ws).bits (read_header ws).spread) t (good_of ws g).limits.spread-valid) in
    let seven = refuse 7 (not (good ws)) in
    record {
      lookups = λ y. ((demand_one.lookup_calls ws y).number.first [] seven _ refl).1 (tt, n);
      increments = λ y. ((demand_one.increment_calls ws y).number.first [] seven _ refl).1 (tt, n);
      checks = ((demand_one.check_calls ws).number.first [] seven _ refl).1 (tt, n);
      lists = λ floor list. ((demand_one.busy_calls ws floor list).number.first [] seven _ refl).1 (tt, n);
      closes = ((demand_one.close_calls ws).number.first [] seven _ refl).1 (tt, n);
    }

-- a fresh wall carries the spread of its header
fresh-spread : (h : Header) (ws : List ℕ) → Listed h ws → (parse ws).header.spread ≡ h.spread
unfolding run
fresh-spread h ws l = let a : After h [] ws = l.after [] tt refl in ap (λ (g : Header). g.spread) a.header

word : (ws : List ℕ) → (parse ws).header.spread ≡ get_or ws 3 0 / 2 ^ 32
unfolding parse
word ws = omega arith

incremented : (ws : List ℕ) (y : ℕ) → (increment ws y).number ≡ 0 → (parse (increment ws y).words).header.spread ≡ (parse ws).header.spread
incremented ws y e =
    let c = (follows ws y e).clear in
    ap (λ (v : Wall). v.header.spread) (demand_two.own_raises ws y c).3 ∙ ap (λ (h : Header). h.spread) (own-raised ws y c).2

pub spreads : Spreads
spreads = record {
  one_flow = one_flow;
  in_wall = λ ws g s h. one_flow (read_header ws).bits (read_header ws).spread s (good_of ws g).limits.spread-valid h;
  undone = λ b m t. record { by = undoing b m; valid = valid_undoing b m t; back = λ y h. flow-slot b m y t h };
  apart = apart;
  identity = identity;
  refused = refused;
  foreign = foreign;
  word = word;
  raised = λ a ws e. fresh-spread (asked a) (raise a ws).words (demand_three.raised a ws e);
  closed = λ ws e. fresh-spread (read_header ws) (close ws).words (demand_three.closed ws e) ∙ ap (λ (h : Header). h.spread) (sym (parse-header ws));
  incremented = incremented;
}
