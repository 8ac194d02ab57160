use Rattle.growth.proofs.Bytes.{ahead_in, said_enter, said-raise}
use Rattle.bucket.proofs.Stepping.{uppers_of, room-low, room_in, room_on}
use Rattle.rooms.specs.Growth.{room_to_raise}
use Rattle.shapes.proofs.Shapes.{facts}
use Rattle.shapes.specs.Shapes.{rows_in}
use native.Mathlib.Omega.{arith}
use Prim.Native.Nat.{◌/◌, ◌^◌}
use mathlib.Core.Path.{sym, ap, ◌∙◌}
use borrow.Author.Rules.{rules}
use Rattle.bucket.proofs.Bucket.room.Goals as goal

pub returns-then-high-eq0 : goal.returns-then-high-eq0
returns-then-high-eq0 c =
    let a = c.args in
    room-low a.shape a.self (search rules) a.place a.value c.requires c.if-high-eq0.true

pub room_to_enter-requires : goal.room_to_enter-requires
room_to_enter-requires c = rw c.levels-levels.ensures (ahead_in c.args.shape c.requires.fit, (facts c.args.shape c.requires.fit.valid).levels.0)

pub returns-then-bit-eq0 : goal.returns-then-bit-eq0
returns-then-bit-eq0 c =
    let a = c.args in
    said_enter a.shape a.self.upper.words a.self.upper.packed a.self.marks _ _ (rw c.levels-levels.ensures at c.room_to_enter.ensures)
    ∙ room_in a.shape a.self (search rules) a.place a.value c.requires (omega (arith, c.if-high-eq0.false)) (sym c.bit.ensures ∙ c.if-bit-eq0.true)

pub room_to_raise-requires : goal.room_to_raise-requires
room_to_raise-requires c =
    rw c.levels-levels.ensures (ahead_in c.args.shape c.requires.fit, (facts c.args.shape c.requires.fit.valid).levels.0, omega (arith, c.rank.ensures.1, c.requires.place))

pub returns : goal.returns
returns c =
    let a = c.args in
    said-raise a.shape a.self.upper.words a.self.upper.packed c.rank.result _ _ (rw c.levels-levels.ensures at c.room_to_raise.ensures)
    ∙ ap (λ i. room_to_raise (rows_in a.shape) (uppers_of a.shape a.self) i (a.value / 2 ^ a.shape.width)) c.rank.ensures.0
    ∙ room_on a.shape a.self (search rules) a.place a.value c.requires (omega (arith, c.if-high-eq0.false)) (λ e. c.if-bit-eq0.false (c.bit.ensures ∙ e))
