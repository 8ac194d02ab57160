use Rattle.std.proofs.Common.{◌+◌, ◌*◌, ◌^◌}
use Rattle.uppers.specs.Uppers.{read_by}
use Rattle.reads.proofs.Reading.{Trail}
use Rattle.reads.proofs.read.Given as goal

-- The whole is what the levels left hold, and the sum so far.
abbrev pub invariant-loop-cells : goal.invariant-loop-cells
invariant-loop-cells l =
    let n = l.initial.rest in
    Trail l.words (l.s + read_by n.count l.words l.first l.g n.entries n.widths l.a * 2 ^ l.t) (l.first + n.count) (l.first + l.cells-index) l.marks l.rest.count l.rest.entries l.rest.widths l.i l.weight l.sum
