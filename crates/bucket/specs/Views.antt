-- A bucket of the code as the model's, and what the model says of it.
use Rattle.std.specs.Prelude.{List, ℕ, take, drop}
use Rattle.model.specs.Shapes.{bucket_size}
use Rattle.model.specs.Walls.{read_bucket}
use Rattle.model.specs.Walls as model
use Rattle.model.specs.Sound.{own_counts}
use Rattle.shapes.specs.declared.Shape.{Shape}
use Rattle.shapes.specs.Shapes.{rows_in}
use Rattle.bucket.specs.declared.Bucket.{Bucket}

-- the words of level 1 and of the upper levels that the shape has
abbrev pub as_bucket : Shape → Bucket → model.Bucket
as_bucket s b = record { first = take s.width b.first; marks = b.marks; uppers = take s.uppers b.upper.words; packed = b.upper.packed }

-- the 64 counts that its levels hold
abbrev pub own_of : Shape → Bucket → List ℕ
own_of s b = own_counts s.width (rows_in s) (as_bucket s b)

-- the bucket of this shape whose words begin at an offset
abbrev pub bucket_in : Shape → List ℕ → ℕ → model.Bucket
bucket_in s ws at = read_bucket s.width (rows_in s) (take (bucket_size s.width (rows_in s)) (drop at ws))
