use Rattle.std.proofs.Common.{◌+◌}
use Rattle.std.specs.Iterator.Adapters.{enumerate_source, enumerate_count}
use Rattle.lines.specs.Transcript.{lines_of}
use Rattle.lines.proofs.Turns.{Done}
use Rattle.lines.proofs.each_line.Given as goal

abbrev pub invariant-loop-i : goal.invariant-loop-i
invariant-loop-i l =
    Done (lines_of l.input) l.initial.words l.initial.page (lines_of (enumerate_source l.i-iterator).rest.now) l.words l.page (enumerate_count l.i-iterator + 1)
