use Rattle.std.proofs.Common.{◌≡◌, ◌+◌}
use Rattle.rooms.proofs.Raises.{Raising}
use Rattle.rooms.proofs.room_to_raise.Given as goal

abbrev pub invariant-loop : goal.invariant-loop
invariant-loop l = record {
  place : l.counter + l.rest.count ≡ l.end + 1;
  walk : Raising l.initial.rest.count l.g l.initial.rest.entries l.initial.rest.widths l.a0 l.v0 l.rest.count l.marks l.rest.entries l.rest.widths l.a l.v;
}
