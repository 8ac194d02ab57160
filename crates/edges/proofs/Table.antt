-- The document's edges, by computing.
use mathlib.Core.Path.{◌≡◌, refl, ap}
use mathlib.Core.List.{[], ◌∷◌, ◌++◌}
use Prim.Native.Nat.{◌+◌, ◌^◌}
use lib.ListN.{replicate, get_or, set}
use Rattle.model.specs.Levels.{encode, read_at, sound_levels, at_least, crowded}
use Rattle.model.specs.Walls.{good, flatten, parse, fresh}
use Rattle.model.specs.Sound.{own_counts, bucket_counts, sound_bucket, counts_at, count, sound_at, holders, all_counts, sound_rest}
use Rattle.model.specs.Calls.{raise, lookup, check, holding, overflowed, move_in, no_room, step, increment}
use Rattle.model.specs.Runs.{run}
use Rattle.model.specs.BusyLists.{busy}
use Rattle.edges.specs.Edges.{new, times, sixteen, bucket, head, filled, said, Edges}

-- ---- the longer runs, once each

under : (run (new 100 0 9) (times 31 1)).words ≡ head 100 31 0 ++ (2 ^ 32 ∷ 2 ^ 32 ∷ 15 ∷ 0 ∷ 0 ∷ [])
unfolding good parse flatten read_at own_counts sound_levels bucket_counts sound_bucket counts_at sound_at holders all_counts sound_rest holding overflowed move_in no_room step count lookup increment check fresh raise run encode crowded at_least
under = refl

small : (run (new 100 0 9) (times 32 1 ++ times 2 2)).words ≡ head 100 34 0 ++ (0 ∷ (2 ^ 16 + 2 ^ 32) ∷ 1 ∷ 1 ∷ 2 ∷ [])
unfolding good parse flatten read_at own_counts sound_levels bucket_counts sound_bucket counts_at sound_at holders all_counts sound_rest holding overflowed move_in no_room step count lookup increment check fresh raise run encode crowded at_least
small = refl

tight0 : (run (new 100 0 9) sixteen).words ≡ head 100 31 0 ++ filled 0
unfolding good parse flatten read_at own_counts sound_levels bucket_counts sound_bucket counts_at sound_at holders all_counts sound_rest holding overflowed move_in no_room step count lookup increment check fresh raise run encode crowded at_least
tight0 = refl

tight31 : (run (new 31 0 9) sixteen).words ≡ head 31 31 0 ++ filled 0
unfolding good parse flatten read_at own_counts sound_levels bucket_counts sound_bucket counts_at sound_at holders all_counts sound_rest holding overflowed move_in no_room step count lookup increment check fresh raise run encode crowded at_least
tight31 = refl

tight1 : (run (new 100 1 74) sixteen).words ≡ head 100 31 1 ++ (filled 0 ++ replicate 65 0)
unfolding good parse flatten read_at own_counts sound_levels bucket_counts sound_bucket counts_at sound_at holders all_counts sound_rest holding overflowed move_in no_room step count lookup increment check fresh raise run encode crowded at_least
tight1 = refl

-- flow 15 has moved, at place 60
over1 : (run (new 100 1 74) (sixteen ++ (15 ∷ []))).words ≡ head 100 32 (1 + 2 ^ 16) ++ (filled (2 ^ 40) ++ (2 ^ 60 ∷ set (replicate 64 0) 60 2))
unfolding good parse flatten read_at own_counts sound_levels bucket_counts sound_bucket counts_at sound_at holders all_counts sound_rest holding overflowed move_in no_room step count lookup increment check fresh raise run encode crowded at_least
over1 = refl

pub edges : Edges
unfolding good parse flatten read_at own_counts sound_levels bucket_counts sound_bucket counts_at sound_at holders all_counts sound_rest holding overflowed move_in no_room step count lookup increment check fresh raise run encode crowded at_least busy
edges = record {
  p1 = refl;
  p1_word = refl;
  p1_short = refl;
  p1_long = refl;
  p2 = refl;
  p3 = refl;
  p4 = refl;
  p5 = refl;
  p5_more = refl;
  p6_before = ap bucket under;
  p6_carried = ap (λ ws. bucket (increment ws 1).words) under;
  p6 = ap bucket small;
  p6_reads = ap (λ ws. said (lookup ws 1) ++ said (lookup ws 2)) small;
  p7_total = ap (λ ws. get_or ws 2 0) tight0;
  p7_refused = ap (λ ws. said (increment ws 15)) tight0;
  p7 = ap (λ ws. said (increment ws 15)) tight1;
  p7_before = tight1;
  p7_after = over1;
  p7_used = ap (λ ws. get_or ws 3 0) over1;
  p8 = ap (λ ws. said (lookup ws 0) ++ said (increment ws 0)) over1;
  p8_after = ap (λ ws. (increment ws 0).words) over1;
  p9 = refl;
  p10 = ap (λ ws. said (increment ws 15)) tight31;
  sound = ap (λ ws. (check ws).number) over1;
  limit = refl;
  full = refl;
  flow = refl;
  busy_exact = refl;
  busy_short = refl;
  busy_none = refl;
}
