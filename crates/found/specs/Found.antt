-- Bucket i of an opened wall where it lies.
use Rattle.std.specs.Prelude.{◌≡◌, ℕ, ◌+◌, ◌*◌}
use Rattle.model.specs.Walls.{buckets_in, bucket_length}
use Rattle.shapes.specs.Shapes.{shape_of}
use Rattle.layout.specs.Views.{header_of}
use Rattle.header.specs.declared.Opened.{Opened}
use Rattle.plain.specs.declared.site.Site.{Site}
use Rattle.fulls.specs.declared.flagged.Flagged.{Flagged}

pub record Lies (w : Opened) (i : ℕ) (s : Site) : Type 0 where
  pub words : s.words.now ≡ w.words.now
  pub at : s.at ≡ 4 + i * bucket_length (header_of w.header)
  pub shape : s.shape ≡ shape_of w.header.shape w.header.width

-- and full-size bucket q
pub record LiesFull (w : Opened) (i q : ℕ) (b : Flagged) : Type 0 where
  pub site : Lies w i b.site
  pub full : b.full ≡ 4 + (buckets_in (header_of w.header) * bucket_length (header_of w.header) + q * 65)
