-- When a bucket has need of its flag: one of its levels is used up, and a moved place has risen into that level.
use Rattle.std.specs.Prelude.{◌⊎◌, ◌≡◌, List, [], ◌∷◌, ℕ, ◌+◌, ◌^◌, ◌≤◌, ◌<◌, get_or}
use Rattle.model.specs.Shapes.{Row}
use Rattle.model.specs.Levels.{at_least}
use Rattle.model.specs.Walls.{Full, Wall}
use Rattle.model.specs.Sound.{moved_at, full_count, own_at, full_for}

-- some moved place has a bucket count below 2 ^ l and a moved count at or above it; os are the bucket's own counts, f its full-size bucket
abbrev pub Crossing : ℕ → List ℕ → Full → Type 0
Crossing l os f = (a : ℕ) × (a < 64) × (moved_at f a ≡ 1) × (get_or os a 0 < 2 ^ l) × (2 ^ l ≤ full_count f a)

-- for some level d of these rows all k_d entries are in use, by as many own counts of at least 2 ^ L_d, and some moved place crosses 2 ^ L_d;
-- the first of the rows starts at L_d = l
abbrev pub needed_from : ℕ → List Row → List ℕ → Full → Type 0
needed_from l [] os f = ⊥
needed_from l (r ∷ rs) os f = ((at_least (2 ^ l) os ≡ r.entries) × Crossing l os f) ⊎ needed_from (l + r.width) rs os f

-- bucket i has need of the flag
abbrev pub Needed : Wall → ℕ → Type 0
Needed v i = needed_from v.header.width v.header.rows (own_at v i) (full_for v i)
