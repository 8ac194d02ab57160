-- Document 01's example and others: by computing, where the input is given.
use mathlib.Core.Path.{refl}
use Rattle.model.specs.Levels.{encode, read_at, sound_levels, at_least, crowded}
use Rattle.model.specs.Walls.{good, flatten, parse, fresh}
use Rattle.model.specs.Sound.{own_counts, bucket_counts, sound_bucket, counts_at, count, sound_at}
use Rattle.model.specs.Calls.{raise, holding, overflowed, move_in, no_room, step, increment}
use Rattle.texts.specs.Texts.{places, decimal, answer_line, total_line, bad_line}
use Rattle.lines.specs.Transcript.{lines_of, is_flow, value_of, answers, transcript}
use Rattle.lines.proofs.Turns.{too_long}
use Rattle.count.specs.Program.{raised, program}
use Rattle.count.specs.Examples.{Examples}

pub examples : Examples
unfolding good parse flatten read_at own_counts sound_levels bucket_counts sound_bucket counts_at count sound_at holding overflowed move_in no_room step increment fresh raise encode crowded at_least places decimal answer_line total_line bad_line lines_of is_flow value_of answers transcript raised program
examples = record { flows = refl; empty = refl; blank = refl; longer = λ input h. too_long input raised h }
