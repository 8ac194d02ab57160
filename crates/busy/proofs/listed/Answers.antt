use borrow.Author.Rules.{rules}
use native.Mathlib.Omega.{arith}
use native.Mathlib.Nat.{le_trans, le_of_eq, mod-lt}
use mathlib.Core.Path.{◌≡◌, refl, sym, ap, ◌∙◌, subst}
use Rattle.busy.proofs.Turns.{reaches}
use Prim.Native.Nat.{ℕ, ◌/◌, ◌%◌, ◌^◌, ◌≤◌, ◌<◌}
use lib.Dec.{T, leb, lit<, le→leb}
use lib.Arith.{lt→nleb}
use lib.ListN.{get_or}
use lib.Pow.{pow_mono}
use Rattle.model.specs.Lists.{one_if, sum, tabulate}
use Rattle.model.specs.Slots.{valid_spread}
use Rattle.model.specs.Walls.{Header, buckets_in, flows, parse}
use Rattle.model.specs.Sound.{counts_at}
use Rattle.model.proofs.Crowding.{T_true, T_false}
use Rattle.model.proofs.Headers.{slot-bucket}
use Rattle.model.proofs.SoundWalls.{each_sound}
use Rattle.model.proofs.BusyLists.{busy-slots}
use Rattle.layout.specs.Views.{header_of}
use Rattle.header.specs.declared.Opened.{Opened}
use Rattle.header.proofs.Places.{opened, open_known, open_limits, open_header}
use Rattle.found.proofs.Finding.{flows_of}
use Rattle.whole.proofs.Holding.{sum-last}
use Rattle.busy.proofs.listed.Goals as goal
use Rattle.busy.proofs.listed.Goals.{then-floor-count, else-floor-count}

pub pow2-slot-end-requires : goal.pow2-slot-end-requires
pow2-slot-end-requires c = omega (arith, (open_known _ _ (opened c.args.checked.now.wall)).bits_high)

pub loop-slot-init : goal.loop-slot-init
loop-slot-init c = (search rules, refl, search rules)

pub count-requires : goal.count-requires
count-requires c =
    let w = c.args.checked.now.wall in
    let o = opened w in
    let s = c.loop-slot.slot in
    let h : s / 64 < buckets_in (header_of w.header) = slot-bucket w.header.bits s (open_known _ _ o).bits_low (omega (arith, c.loop-slot-test.true, c.pow2-slot-end.ensures.0)) in
    (h, each_sound w.words.now c.args.checked.now.sound (s / 64) (subst (λ z. s / 64 < buckets_in z) (open_header _ _ o) h), mod-lt s (lit< tt))

-- there are at most 4,194,304 flows
few : (o : Opened) (n : ℕ) → n ≡ 2 ^ o.header.bits → n ≤ 4194304
few o n e = le_trans (le_of_eq e) (pow_mono (open_known _ _ (opened o)).bits_high)

pub overflow_add-k : goal.overflow_add-k
overflow_add-k c = record { fits = omega (arith, c.loop-slot.invariant.2, c.loop-slot-test.true, few c.args.checked.now.wall _ c.pow2-slot-end.ensures.0) }

pub loop-slot-preserved : goal.loop-slot-preserved
loop-slot-preserved c =
    let l = c.loop-slot in
    let ws = c.args.checked.now.wall.words.now in
    let floor = c.args.floor in
    let q = c.count.ensures in
    let n = get_or (counts_at (parse ws) (l.slot / 64)) (l.slot % 64) 0 in
    elim c.if-floor-count.branch [
      | then-floor-count w ↦ let e = w.k-is in
          (search rules, omega (arith, e, l.invariant.1, sum-last l.slot (reaches ws floor), ap one_if (T_true (leb floor n) (le→leb floor n (omega (arith, w.if-floor-count.true, q))))), omega (arith, e, l.invariant.2))
      | else-floor-count w ↦ let e = w.k-is in
          (search rules, omega (arith, e, l.invariant.1, sum-last l.slot (reaches ws floor), ap one_if (T_false (leb floor n) (lt→nleb floor n (omega (arith, w.if-floor-count.false, q))))), omega (arith, e, l.invariant.2))
    ]

pub returns : goal.returns
returns c =
    let w = c.args.checked.now.wall in
    let o = opened w in
    let l = c.loop-slot in
    let ws = w.words.now in
    let floor = c.args.floor in
    let valid = subst (λ (h : Header). T (valid_spread h.bits h.spread)) (open_header _ _ o) (open_limits _ _ o).spread-valid in
    let e : l.slot ≡ flows (parse ws).header = omega (arith, l.invariant.0, c.pow2-slot-end.ensures.0, flows_of _ _ o, c.loop-slot-test.false) in
    (l.invariant.1 ∙ ap (λ n. sum (tabulate n (reaches ws floor))) e ∙ sym (busy-slots (parse ws) valid floor), omega (arith, l.invariant.0, l.invariant.2, few w _ c.pow2-slot-end.ensures.0))
