use borrow.Author.Rules.{rules}
use native.Mathlib.Omega.{arith}
use native.Mathlib.Nat.{mod-lt}
use mathlib.Core.Path.{◌≡◌, ap, ap₂, ◌∙◌, subst}
use mathlib.Core.List.{List}
use Prim.Native.Nat.{ℕ, ◌/◌, ◌%◌, ◌^◌, ◌≤◌, ◌<◌}
use lib.Dec.{lit<}
use Rattle.model.specs.Slots.{slot}
use Rattle.model.specs.Walls.{parse, flows, buckets_in}
use Rattle.model.specs.Sound.{bucket_at}
use Rattle.model.specs.Calls.{increment, step_refusals}
use Rattle.model.proofs.Meets.{meets_7, meets_8}
use Rattle.std.proofs.lemmas.Result.{err_from_is_err_and}
use Rattle.answer.specs.declared.Refusal.TheVariants.{BadHeader}
use Rattle.layout.specs.Views.{header_of}
use Rattle.header.specs.declared.Opened.{Opened}
use Rattle.header.specs.Headers.{Open}
use Rattle.header.proofs.Opening.{unopened, same_words}
use Rattle.header.proofs.Places.{opened, open_known}
use Rattle.found.proofs.Finding.{flows_of, slot_asks, bucket-of, place-of, bucket_in}
use Rattle.increment.specs.OneMore.{one_more}
use Rattle.increment.proofs.Raising.{increment_refuses, increment-at}
use Rattle.increment.proofs.increment.Goals as goal

-- o is the wall as the code opened it
module _ (y : ℕ) (o : Opened) where
  abbrev ws : List ℕ
  ws = o.words.now

  bits-high : o.header.bits ≤ 22
  bits-high = (open_known ws o.header (opened o)).bits_high

  bucket : (s : ℕ) → s ≡ slot o.header.bits o.header.spread y → s / 64 < buckets_in (header_of o.header)
  bucket = bucket_in ws o.header (opened o) y

  -- n is the number of flows
  module _ (n : ℕ) (all : n ≡ 2 ^ o.header.bits) where
    refused_8 : n ≤ y → record { number = 8; value = 0; words = ws } ≡ increment ws y
    refused_8 z = increment_refuses ws y 8 (lit< tt) (meets_8 ws y (step_refusals (parse ws) y) o.good (omega (arith, flows_of ws o.header (opened o))))

    module _ (below : y < n) where
      flow : y < flows (parse ws).header
      flow = omega (arith, flows_of ws o.header (opened o))

      asks : (o.header.bits ≤ 22) × (o.header.spread < 2 ^ o.header.bits) × (y < 2 ^ o.header.bits)
      asks = slot_asks ws o.header (opened o) y flow

      -- one more at the flow's slot s is one more of the flow
      at-slot : (s : ℕ) → s ≡ slot o.header.bits o.header.spread y → one_more ws (s / 64) (s % 64) ≡ increment ws y
      at-slot s here = ap₂ (one_more ws) (bucket-of ws o.header (opened o) y s here) (place-of ws o.header (opened o) y s here) ∙ increment-at ws y o.good flow

-- n is the code's packed word
marks-only : (n m : ℕ) → n ≡ m → n / 2 ^ 40 ≡ 0 → m / 2 ^ 40 ≤ 0
marks-only n m e z = subst (λ x. x / 2 ^ 40 ≤ 0) e (omega arith)

more : (n : ℕ) → (n / 2 ^ 40 ≡ 0 → ⊥) → 0 < n / 2 ^ 40
more n z = omega arith

pub returns-in_err-wall : goal.returns-in_err-wall
returns-in_err-wall c =
    let ws = c.args.words.now in
    let y = c.args.flow in
    let p = err_from_is_err_and c.from_residual.result c.from_residual.ensures.1 in
    let u = unopened _ c.open.result ws c.in_err-wall.field-0.0 BadHeader c.open.ensures.header c.in_err-wall.ensures.value in
    rw (p.1, p.2, u.0) (increment_refuses ws y 7 (lit< tt) (meets_7 ws y (step_refusals (parse ws) y) u.1))

pub pow2-requires : goal.pow2-requires
pow2-requires c = omega (arith, bits-high c.args.flow c.in_ok-wall.wall)

pub returns-then-pow2-flow : goal.returns-then-pow2-flow
returns-then-pow2-flow c =
    let o = c.in_ok-wall.wall in
    let same = same_words _ c.open.result c.args.words.now o BadHeader c.open.ensures.words c.in_ok-wall.ensures.value in
    subst (λ ws. record { number = 8; value = 0; words = ws } ≡ increment ws c.args.flow) same (refused_8 c.args.flow o _ c.pow2.ensures.0 c.if-pow2-flow.true)

pub slot_of-s-requires : goal.slot_of-s-requires
slot_of-s-requires c = asks c.args.flow c.in_ok-wall.wall c.pow2.result c.pow2.ensures.0 c.if-pow2-flow.false

pub packed_word-packed-requires : goal.packed_word-packed-requires
packed_word-packed-requires c = search (rules, bucket)

pub one_more_plain-requires : goal.one_more_plain-requires
one_more_plain-requires c =
    let o = c.in_ok-wall.wall in
    let s = c.slot_of-s in
    let same = same_words _ c.open.result c.args.words.now o BadHeader c.open.ensures.words c.in_ok-wall.ensures.value in
    let h = c.packed_word-packed.ensures ∙ ap (λ ws. (bucket_at (parse ws) (s.result / 64)).packed) same in
    (subst (λ ws. Open ws o.header) same (opened o), bucket c.args.flow o s.result s.ensures.0, mod-lt s.result (lit< tt), marks-only _ _ h c.if-packed-eq0.true)

pub returns-then-packed-eq0 : goal.returns-then-packed-eq0
returns-then-packed-eq0 c =
    let o = c.in_ok-wall.wall in
    let same = same_words _ c.open.result c.args.words.now o BadHeader c.open.ensures.words c.in_ok-wall.ensures.value in
    c.one_more_plain.ensures ∙ subst (λ ws. one_more ws (c.slot_of-s.result / 64) (c.slot_of-s.result % 64) ≡ increment ws c.args.flow) same (at-slot c.args.flow o _ c.pow2.ensures.0 c.if-pow2-flow.false _ c.slot_of-s.ensures.0)

pub one_more_flagged-requires : goal.one_more_flagged-requires
one_more_flagged-requires c =
    let o = c.in_ok-wall.wall in
    let s = c.slot_of-s in
    let same = same_words _ c.open.result c.args.words.now o BadHeader c.open.ensures.words c.in_ok-wall.ensures.value in
    let h = c.packed_word-packed.ensures ∙ ap (λ ws. (bucket_at (parse ws) (s.result / 64)).packed) same in
    (subst (λ ws. Open ws o.header) same (opened o), bucket c.args.flow o s.result s.ensures.0, mod-lt s.result (lit< tt), h, more _ c.if-packed-eq0.false)

pub returns : goal.returns
returns c =
    let o = c.in_ok-wall.wall in
    let same = same_words _ c.open.result c.args.words.now o BadHeader c.open.ensures.words c.in_ok-wall.ensures.value in
    c.one_more_flagged.ensures ∙ subst (λ ws. one_more ws (c.slot_of-s.result / 64) (c.slot_of-s.result % 64) ≡ increment ws c.args.flow) same (at-slot c.args.flow o _ c.pow2.ensures.0 c.if-pow2-flow.false _ c.slot_of-s.ensures.0)
