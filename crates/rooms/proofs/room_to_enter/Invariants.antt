use Rattle.std.proofs.Common.{◌≡◌, ◌+◌}
use Rattle.rooms.proofs.Rooms.{Rooming}
use Rattle.rooms.proofs.room_to_enter.Given as goal

abbrev pub invariant-loop : goal.invariant-loop
invariant-loop l = record {
  place : l.counter + l.rest.count ≡ l.end + 1;
  walk : Rooming l.initial.rest.count l.g l.initial.rest.entries l.initial.rest.widths l.m0 l.v0 l.rest.count l.marks l.rest.entries l.rest.widths l.m l.v;
}
