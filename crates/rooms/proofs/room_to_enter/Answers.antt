use borrow.Author.Rules.{rules}
use native.Mathlib.Omega.{arith}
use Rattle.rooms.proofs.Rooms.{room-full, room_fits, room-last, room_on}
use Rattle.rooms.proofs.room_to_enter.Goals as goal

pub returns-then-k-count : goal.returns-then-k-count
returns-then-k-count c = room-full c.loop.invariant.walk (omega arith)

pub returns-then-v-eq0 : goal.returns-then-v-eq0
returns-then-v-eq0 c = room_fits c.loop.invariant.walk (omega arith) (omega arith) (rw (← c.width-v.ensures.0) c.if-v-eq0.true)

pub loop-preserved : goal.loop-preserved
loop-preserved c = record {
  place = rw c.above-rest.ensures (omega arith);
  walk =
      rw (c.above-rest.ensures, c.entries-k.ensures.0, c.width-v.ensures.0)
      (room_on c.loop.invariant.walk _ (search rules) (omega arith) (omega arith) (rw (← c.width-v.ensures.0) c.if-v-eq0.false));
}

pub returns-then-entries-count : goal.returns-then-entries-count
returns-then-entries-count c = room-full c.loop.invariant.walk (omega arith)

pub returns : goal.returns
returns c = rw c.width.ensures.0 (room-last c.loop.invariant.walk (omega arith) (omega arith))
