-- A count of a bucket without the flag that comes to a larger value.
use Rattle.std.specs.Prelude.{◌≡◌, Bool, not, ℕ, ◌/◌, ◌^◌, ◌≤◌, ◌<◌, T, get_or, set}
use Rattle.model.specs.Lists.{sum}
use Rattle.model.specs.Packed.{pack, replaced}
use Rattle.model.specs.Shapes.{all_rows, counter_bits, mark_widths}
use Rattle.model.specs.Levels.{sound_levels, crowded}
use Rattle.model.specs.Walls as model
use Rattle.model.specs.Sound.{levels_of, own_counts}
use Rattle.shapes.specs.declared.Shape.{Shape}
use Rattle.shapes.specs.Shapes.{rows_in}
use Rattle.bucket.specs.declared.Bucket.{Bucket}
use Rattle.bucket.specs.Views.{as_bucket, own_of}
use Rattle.growth.specs.Levels.{Fit}

-- r is b with the part p of place a in level 1, of width w
pub record Put (b : Bucket) (w a p : ℕ) (r : Bucket) : Type 0 where
  pub first : pack 64 r.first ≡ replaced w (pack 64 b.first) a p
  pub marks : r.marks ≡ b.marks
  pub upper : r.upper ≡ b.upper

-- place a of a sound bucket, which has no flag, no number and no spare bit, may come to the count v
pub record RaisesIn (s : Shape) (b : model.Bucket) (a v : ℕ) : Type 0 where
  pub fit : Fit s
  pub place : a < 64
  pub sound : T (sound_levels 0 (all_rows s.width (rows_in s)) 64 (levels_of (rows_in s) b))
  pub larger : get_or (own_counts s.width (rows_in s) b) a 0 ≤ v
  pub counter : v < 2 ^ counter_bits s.width (rows_in s)
  pub plain : b.packed < 2 ^ sum (mark_widths (rows_in s))

abbrev pub Raises : Shape → Bucket → ℕ → ℕ → Type 0
Raises s b a v = RaisesIn s (as_bucket s b) a v

-- its levels have room for it
abbrev pub room_for : Shape → Bucket → ℕ → ℕ → Bool
room_for s b a v = not (crowded s.width (rows_in s) (set (own_of s b) a v))

-- what it has above level 1 stays
abbrev pub Stays : Shape → model.Bucket → ℕ → ℕ → Type 0
Stays s b a v = v / 2 ^ s.width ≡ get_or (own_counts s.width (rows_in s) b) a 0 / 2 ^ s.width
