use borrow.Author.Rules.{rules}
use native.Mathlib.Omega.{arith}
use native.Mathlib.Nat.{mod-lt}
use mathlib.Core.Path.{◌≡◌, refl, ap, ap₂, ◌∙◌, subst}
use mathlib.Core.Bool.{Bool, true, false, not}
use mathlib.Core.List.{List, []}
use Prim.Native.Nat.{ℕ, ◌/◌, ◌%◌, ◌^◌, ◌≤◌, ◌<◌}
use lib.Dec.{T, lit<}
use lib.ListN.{get_or}
use Rattle.std.specs.Prelude.{Option, Result, ok_or}
use Rattle.std.proofs.lemmas.Result.{err_from_is_err_and}
use Rattle.model.specs.Slots.{slot}
use Rattle.model.specs.Walls.{parse, flows, bucket_of, buckets_in}
use Rattle.model.specs.Sound.{sound_at, count, counts_at}
use Rattle.model.specs.Calls.{lookup}
use Rattle.model.proofs.Meets.{meets_7, meets_8, meets_9, meets_none}
use Rattle.answer.specs.declared.Refusal.{Refusal}
use Rattle.answer.specs.declared.Refusal.TheVariants.{BadHeader, Unsound}
use Rattle.answer.specs.Answers.{answer_of, outcome_of}
use Rattle.layout.specs.Views.{header_of}
use Rattle.uppers.specs.Judge.{verdict}
use Rattle.header.specs.declared.Opened.{Opened}
use Rattle.header.proofs.Opening.{unopened, same_words}
use Rattle.header.proofs.Places.{opened, open_known}
use Rattle.found.proofs.Finding.{flows_of, slot_asks, bucket-of, place-of, bucket_in, count_of}
use Rattle.lookup.proofs.Answers.{lookup_refuses, lookup-done}
use Rattle.lookup.proofs.lookup.Goals as goal

-- o is the wall as the code opened it
module _ (y : ℕ) (o : Opened) where
  abbrev ws : List ℕ
  ws = o.words.now

  bits-high : o.header.bits ≤ 22
  bits-high = (open_known ws o.header (opened o)).bits_high

  bucket : (s : ℕ) → s ≡ slot o.header.bits o.header.spread y → s / 64 < buckets_in (header_of o.header)
  bucket = bucket_in ws o.header (opened o) y

  -- n is the number of flows
  module _ (n : ℕ) (all : n ≡ 2 ^ o.header.bits) where
    refused_8 : n ≤ y → record { number = 8; value = 0; words = ws } ≡ lookup ws y
    refused_8 z = lookup_refuses ws y 8 (lit< tt) (meets_8 ws y [] o.good (omega (arith, flows_of ws o.header (opened o))))

    module _ (below : y < n) where
      flow : y < flows (parse ws).header
      flow = omega (arith, flows_of ws o.header (opened o))

      asks : (o.header.bits ≤ 22) × (o.header.spread < 2 ^ o.header.bits) × (y < 2 ^ o.header.bits)
      asks = slot_asks ws o.header (opened o) y flow

      by_verdict : (b : Bool) → (T (not b) → record { number = 9; value = 0; words = ws } ≡ lookup ws y) → (T b → record { number = 0; value = count (parse ws) y; words = ws } ≡ lookup ws y)
          → outcome_of (answer_of (ok_or (verdict b (count (parse ws) y)) Unsound)) ws ≡ lookup ws y
      by_verdict true f g = g tt
      by_verdict false f g = f tt

      -- s is the flow's slot, and j what the code found at its place
      answers : (s : ℕ) → s ≡ slot o.header.bits o.header.spread y → (j : Option ℕ)
          → j ≡ verdict (sound_at (parse ws) (s / 64)) (get_or (counts_at (parse ws) (s / 64)) (s % 64) 0)
          → (r : Result ℕ Refusal) → r ≡ ok_or j Unsound → outcome_of (answer_of r) ws ≡ lookup ws y
      answers s here j reads r e =
          let b = bucket-of ws o.header (opened o) y s here in
          ap (λ r. outcome_of (answer_of r) ws) (e ∙ ap (λ j. ok_or j Unsound) (reads ∙ ap₂ verdict (ap (sound_at (parse ws)) b) (count_of ws y (s / 64) (s % 64) b (place-of ws o.header (opened o) y s here))))
          ∙ by_verdict (sound_at (parse ws) (bucket_of (parse ws).header y))
          (λ t. lookup_refuses ws y 9 (lit< tt) (meets_9 ws y [] o.good flow t))
          (λ t. lookup-done ws y (count (parse ws) y) (meets_none ws y o.good flow t) refl)

pub returns-in_err-wall : goal.returns-in_err-wall
returns-in_err-wall c =
    let ws = c.args.words.now in
    let p = err_from_is_err_and c.from_residual.result c.from_residual.ensures.1 in
    let u = unopened _ c.open.result ws c.in_err-wall.field-0.0 BadHeader c.open.ensures.header c.in_err-wall.ensures.value in
    rw (p.1, p.2, u.0) (lookup_refuses ws c.args.flow 7 (lit< tt) (meets_7 ws c.args.flow [] u.1))

pub pow2-requires : goal.pow2-requires
pow2-requires c = omega (arith, bits-high c.args.flow c.in_ok-wall.wall)

pub returns-then-pow2-flow : goal.returns-then-pow2-flow
returns-then-pow2-flow c =
    let o = c.in_ok-wall.wall in
    let same = same_words _ c.open.result c.args.words.now o BadHeader c.open.ensures.words c.in_ok-wall.ensures.value in
    subst (λ ws. record { number = 8; value = 0; words = ws } ≡ lookup ws c.args.flow) same (refused_8 c.args.flow o _ c.pow2.ensures.0 c.if-pow2-flow.true)

pub slot_of-s-requires : goal.slot_of-s-requires
slot_of-s-requires c = asks c.args.flow c.in_ok-wall.wall c.pow2.result c.pow2.ensures.0 c.if-pow2-flow.false

pub read-requires : goal.read-requires
read-requires c = search (rules, bucket, mod-lt)

pub returns : goal.returns
returns c =
    let o = c.in_ok-wall.wall in
    let same = same_words _ c.open.result c.args.words.now o BadHeader c.open.ensures.words c.in_ok-wall.ensures.value in
    subst (λ ws. outcome_of (answer_of c.ok_or-2.result) ws ≡ lookup ws c.args.flow) same
    (answers c.args.flow o _ c.pow2.ensures.0 c.if-pow2-flow.false _ c.slot_of-s.ensures.0 _ c.read.ensures _ c.ok_or-2.ensures.value)
