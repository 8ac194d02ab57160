use borrow.Author.Rules.{rules}
use native.Mathlib.Omega.{arith}
use native.Mathlib.Nat.{le_trans, le_of_eq}
use mathlib.Core.Path.{◌≡◌, refl, ap, ◌∙◌}
use mathlib.Core.List.{List}
use Prim.Native.Nat.{ℕ, ◌+◌, ◌*◌, ◌≤◌, ◌<◌, zero-le}
use lib.ListN.{length}
use lib.Pow.{pow_mono}
use Rattle.model.specs.Walls.{flows, parse}
use Rattle.model.specs.Sound.{count}
use Rattle.model.specs.BusyLists.{busy_flows, written}
use Rattle.header.proofs.Places.{opened, open_known}
use Rattle.found.proofs.Finding.{flows_of}
use Rattle.busy.proofs.Turns.{Upto, all_listed, entered, next-flow, none_yet, passed-over, room}
use Rattle.busy.proofs.fill.Goals as goal
use Rattle.busy.proofs.fill.Goals.{then-floor-count, else-floor-count}

-- the turn at flow y, where the entries before it end at `at`, and all at `end`
module _ (ws : List ℕ) {floor y at end : ℕ} {list us : List ℕ} (low : y ≤ flows (parse ws).header) (u : Upto (count (parse ws)) floor list y at us)
    (all : end ≡ 2 * length (busy_flows (parse ws) floor)) where
  next : at < end → y < flows (parse ws).header
  next h = next-flow (count (parse ws)) floor y (flows (parse ws).header) low (omega (arith, u.ends))

  last : end ≤ at → us ≡ written (count (parse ws)) (busy_flows (parse ws) floor) list
  last h = u.words ∙ ap (λ ys. written (count (parse ws)) ys list) (all_listed (count (parse ws)) floor y (flows (parse ws).header) low (omega (arith, u.ends)))

  has_room : at < end → end ≤ length list → floor ≤ count (parse ws) y → at + 2 ≤ length us
  has_room h fits k = omega (arith, u.ends, u.long, room (count (parse ws)) floor y (flows (parse ws).header) list (next h) (omega arith) k)

pub loop-entries-init : goal.loop-entries-init
loop-entries-init c =
    let o = opened c.args.checked.now.wall in
    (zero-le, none_yet _ _ _, le_trans (le_of_eq (flows_of _ _ o)) (pow_mono (open_known _ _ o).bits_high), refl)

pub count_of-count-requires : goal.count_of-count-requires
count_of-count-requires c = search (rules, next)

pub put-requires : goal.put-requires
put-requires c =
    let i = c.loop-entries.invariant in
    has_room _ i.0 i.1 c.requires.0 c.loop-entries-test.true c.requires.1 (omega (arith, c.count_of-count.ensures, c.if-floor-count.true))

pub overflow_add-flow : goal.overflow_add-flow
overflow_add-flow c = let i = c.loop-entries.invariant in record { fits = omega (arith, next _ i.0 i.1 c.requires.0 c.loop-entries-test.true, i.2) }

pub loop-entries-smaller : goal.loop-entries-smaller
loop-entries-smaller c = let i = c.loop-entries.invariant in omega (arith, next _ i.0 i.1 c.requires.0 c.loop-entries-test.true)

pub loop-entries-preserved : goal.loop-entries-preserved
loop-entries-preserved c =
    let i = c.loop-entries.invariant in
    let h = next _ i.0 i.1 c.requires.0 c.loop-entries-test.true in
    let n = c.count_of-count.ensures in
    elim c.if-floor-count.branch [
      | then-floor-count w ↦
          let p = w.put.ensures in
          rw (w.entries-is, p.list, p.len) (omega (arith, h), entered i.1 n _ h (omega (arith, c.requires.0, c.requires.1)) w.if-floor-count.true, i.2, p.same ∙ i.3)
      | else-floor-count w ↦
          rw w.entries-is (omega (arith, h), passed-over i.1 (omega (arith, n, w.if-floor-count.false)), i.2, i.3)
    ]

pub returns : goal.returns
returns c =
    let i = c.loop-entries.invariant in
    let same = i.3 in
    let all = last _ i.0 i.1 c.requires.0 c.loop-entries-test.false in
    grind arith
