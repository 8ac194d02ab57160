-- The edges of the spread, by computing.
use mathlib.Core.Path.{refl}
use Rattle.model.specs.Levels.{encode, read_at, sound_levels, at_least, crowded}
use Rattle.model.specs.Walls.{good, flatten, parse, fresh}
use Rattle.model.specs.Sound.{own_counts, bucket_counts, sound_bucket, counts_at, count, sound_at, holders, all_counts, sound_rest}
use Rattle.model.specs.Calls.{slot_call, raise, close, lookup, check, holding, overflowed, move_in, no_room, step, increment}
use Rattle.edges.specs.Spreads.{Spreads}

pub spreads : Spreads
unfolding good parse flatten read_at own_counts sound_levels bucket_counts sound_bucket counts_at sound_at holders all_counts sound_rest holding overflowed move_in no_room step count lookup increment check fresh raise close slot_call encode crowded at_least
spreads = record {
  slots = refl;
  last = refl;
  refused = refl;
  order = refl;
  raises = refl;
  raise_order = refl;
  reads = refl;
  raised = refl;
  sound = refl;
  moved = refl;
  closed = refl;
}
