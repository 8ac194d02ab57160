-- The bucket in hand, as the step takes it out: what is said of the model's bucket is said of it.
use mathlib.Core.Path.{◌≡◌, sym, ap, ◌∙◌, subst}
use mathlib.Core.Bool.{Bool, true, false, not}
use mathlib.Core.List.{List}
use Prim.Native.Nat.{ℕ, ◌+◌, ◌*◌, ◌≤◌}
use lib.ListN.{length, set}
use Rattle.model.specs.Levels.{crowded}
use Rattle.model.specs.Shapes.{bucket_size}
use Rattle.model.specs.Walls as model
use Rattle.model.specs.Walls.{bucket_length, parse}
use Rattle.model.specs.Sound.{bucket_at, flag, own_counts}
use Rattle.model.specs.Calls.{holding, no_room}
use Rattle.layout.specs.declared.Wall.{Wall}
use Rattle.layout.specs.Views.{header_of}
use Rattle.shapes.specs.declared.Shape.{Shape}
use Rattle.shapes.specs.Shapes.{rows_in, shape_of, Valid}
use Rattle.bucket.specs.declared.Bucket as code
use Rattle.bucket.specs.Views.{as_bucket, bucket_in, own_of}
use Rattle.bucket.specs.Raise.{Raises, RaisesIn, room_for}
use Rattle.steps.specs.Step.{Ready}
use Rattle.steps.proofs.Writing.{shape-fits, inside, lies, raises, room_found, none_found}

module _ {ws : List ℕ} {v : Wall} {i a c : ℕ} (r : Ready ws v i a c) {s : Shape} (es : s ≡ shape_of v.shape v.width) {at : ℕ} (q : at ≡ 4 + i * bucket_length (header_of v)) where
  pub lent : Valid s × (at + bucket_size s.width (rows_in s) ≤ length ws)
  lent = ((shape-fits ws v i a c r s es).valid, inside ws v i a c r s es at q)

  module _ (k : code.Bucket) (t : as_bucket s k ≡ bucket_in s ws at) where
    pub its : as_bucket s k ≡ bucket_at (parse ws) i
    its = t ∙ lies ws v i a c r s es at q

    pub held : {x : model.Bucket} → x ≡ holding s.width (rows_in s) (set (own_of s k) a c) → x ≡ holding s.width (rows_in s) (set (own_counts s.width (rows_in s) (bucket_at (parse ws) i)) a c)
    held e = e ∙ ap (λ (b : model.Bucket). holding s.width (rows_in s) (set (own_counts s.width (rows_in s) b) a c)) its

    pub may_raise : flag (bucket_at (parse ws) i) ≡ 0 → Raises s k a c
    may_raise e = subst (λ (b : model.Bucket). RaisesIn s b a c) (sym its) (raises ws v i a c r s es e)

    -- f is what was found of the room
    module _ (f : Bool) (e : f ≡ room_for s k a c) where
      its_room : f ≡ not (crowded s.width (rows_in s) (set (own_counts s.width (rows_in s) (bucket_at (parse ws) i)) a c))
      its_room = e ∙ ap (λ (b : model.Bucket). not (crowded s.width (rows_in s) (set (own_counts s.width (rows_in s) b) a c))) its

      pub some_room : f ≡ true → no_room (parse ws) i a c ≡ false
      some_room = room_found ws v i a c r s es f its_room

      pub without_room : f ≡ false → no_room (parse ws) i a c ≡ true
      without_room = none_found ws v i a c r s es f its_room
