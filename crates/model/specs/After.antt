-- What a step makes of its own bucket: place a of bucket i comes to the count c.
use Rattle.std.specs.Prelude.{ℕ, set}
use Rattle.model.specs.Lists.{choose, by_mark}
use Rattle.model.specs.Walls.{Bucket, Full, Wall, empty_full}
use Rattle.model.specs.Sound.{flag, bucket_at, own_at, full_for}
use Rattle.model.specs.Calls.{holding, overflowed, move_in, no_room}

-- without the flag: it overflows with the number U, or its levels hold the counts with the new one; with it: it stays
unfoldable pub own_after : Wall → ℕ → ℕ → ℕ → Bucket
own_after v i a c =
    by_mark (flag (bucket_at v i))
    (choose (no_room v i a c) (overflowed (bucket_at v i) v.header.used) (holding v.header.width v.header.rows (set (own_at v i) a c)))
    (bucket_at v i)

-- its full-size bucket: this place alone is moved, none is, or this place is moved beside those that were
unfoldable pub full_after : Wall → ℕ → ℕ → ℕ → Full
full_after v i a c = by_mark (flag (bucket_at v i)) (choose (no_room v i a c) (move_in empty_full a c) empty_full) (move_in (full_for v i) a c)
