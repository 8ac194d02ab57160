use borrow.Author.Rules.{rules}
use native.Mathlib.Omega.{arith}
use Rattle.model.specs.Shapes.{known_shape, valid_width}
use Rattle.model.specs.Slots.{known_bits}
use Rattle.model.specs.Walls.{Header}
use Rattle.model.proofs.Headers.{shape_test, bits_test}
use Rattle.layout.proofs.Tests.{passed}
use Rattle.header.proofs.Opening.{bad, opened_bad, mark_of, marked, fails_test, width_test, known_of}
use Rattle.std.proofs.lemmas.Bool.{not_from_false, not_from_true}
use Rattle.header.proofs.open.Goals as goal

pub returns-then-words-lt4-clause-header : goal.returns-then-words-lt4-clause-header
returns-then-words-lt4-clause-header c = opened_bad c.args.words.now (bad c.args.words.now (λ g. omega (arith, g.long)))

pub returns-then-words-ne-MARK-clause-header : goal.returns-then-words-ne-MARK-clause-header
returns-then-words-ne-MARK-clause-header c = opened_bad c.args.words.now (bad c.args.words.now (λ g. c.if-words-ne-MARK.true (mark_of c.args.words.now g)))

pub returns-then-not-known_shape-clause-header : goal.returns-then-not-known_shape-clause-header
returns-then-not-known_shape-clause-header c = opened_bad c.args.words.now (fails_test c.args.words.now c.fields-v.result c.fields-v.ensures (λ (h : Header). known_shape h.shape) shape_test c.known_shape.result c.known_shape.ensures (not_from_false _ c.if-not-known_shape.true))

pub returns-then-not-valid_width-clause-header : goal.returns-then-not-valid_width-clause-header
returns-then-not-valid_width-clause-header c = opened_bad c.args.words.now (fails_test c.args.words.now c.fields-v.result c.fields-v.ensures (λ (h : Header). valid_width h.width) width_test c.valid_width.result c.valid_width.ensures (not_from_false _ c.if-not-valid_width.true))

pub returns-then-not-known_bits-clause-header : goal.returns-then-not-known_bits-clause-header
returns-then-not-known_bits-clause-header c = opened_bad c.args.words.now (fails_test c.args.words.now c.fields-v.result c.fields-v.ensures (λ (h : Header). known_bits h.bits) bits_test c.known_bits.result c.known_bits.ensures (not_from_false _ c.if-not-known_bits.true))

pub fits-requires : goal.fits-requires
fits-requires c =
    let v = c.fields-v.result in
    let ws = c.args.words.now in
    let s = passed c.known_shape.result (known_shape v.shape) c.known_shape.ensures (not_from_true _ c.if-not-known_shape.false) in
    let w = passed c.valid_width.result (valid_width v.width) c.valid_width.ensures (not_from_true _ c.if-not-valid_width.false) in
    let k = passed c.known_bits.result (known_bits v.bits) c.known_bits.ensures (not_from_true _ c.if-not-known_bits.false) in
    (known_of v s w k, marked ws (search rules) c.if-words-ne-MARK.false, c.fields-v.ensures)
