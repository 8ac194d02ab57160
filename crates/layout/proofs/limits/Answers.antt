use borrow.Author.Rules.{rules}
use Rattle.model.specs.Shapes.{known_shape}
use Rattle.layout.proofs.Refused.{limits_one, limits_two, asked-limits}
use Rattle.layout.proofs.Tests.{passed, failed}
use Rattle.std.proofs.lemmas.Bool.{not_from_false, not_from_true}
use Rattle.layout.proofs.limits.Goals as goal

pub returns-then-not-known_shape : goal.returns-then-not-known_shape
returns-then-not-known_shape c =
    let a = c.args in
    limits_one a.shape a.width (failed _ (known_shape a.shape) c.known_shape.ensures (not_from_false _ c.if-not-known_shape.true))

pub returns-then-width-gt-MAX_WIDTH : goal.returns-then-width-gt-MAX_WIDTH
returns-then-width-gt-MAX_WIDTH c =
    let a = c.args in
    let known = passed _ (known_shape a.shape) c.known_shape.ensures (not_from_true _ c.if-not-known_shape.false) in
    limits_two a.shape a.width known (search rules)

pub returns : goal.returns
returns c =
    let a = c.args in
    let known = passed _ (known_shape a.shape) c.known_shape.ensures (not_from_true _ c.if-not-known_shape.false) in
    asked-limits a.shape a.width known _ _ (search rules) c.width_asked-w.ensures c.counter_bits.ensures.0
