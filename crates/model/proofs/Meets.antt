-- Numbers 7, 8 and 9, which lookup and increment have in common, and the refusals after them.
use mathlib.Core.Path.{◌≡◌}
use mathlib.Core.Bool.{not}
use mathlib.Core.List.{List, [], ◌∷◌, ◌++◌}
use Prim.Native.Nat.{ℕ, ◌≤◌, ◌<◌}
use lib.Dec.{T, leb, le→leb}
use lib.Arith.{lt→nleb}
use Rattle.model.specs.Walls.{flows, bucket_of, good, parse}
use Rattle.model.specs.Sound.{sound_at}
use Rattle.model.specs.Calls.{Clear, Refusal, refuse, first_met, bucket_refusals}
use Rattle.model.proofs.Tools.{to_not-not}
use Rattle.model.proofs.Refusals.{first-met}

module _ (ws : List ℕ) (y : ℕ) (ss : List Refusal) where
  abbrev r7 : Refusal
  r7 = refuse 7 (not (good ws))

  abbrev r8 : Refusal
  r8 = refuse 8 (leb (flows (parse ws).header) y)

  abbrev r9 : Refusal
  r9 = refuse 9 (not (sound_at (parse ws) (bucket_of (parse ws).header y)))

  pub meets_7 : T (not (good ws)) → first_met (bucket_refusals ws y ++ ss) ≡ 7
  meets_7 t = first-met [] r7 (r8 ∷ r9 ∷ ss) tt t

  pub meets_8 : T (good ws) → flows (parse ws).header ≤ y → first_met (bucket_refusals ws y ++ ss) ≡ 8
  meets_8 g l = first-met (r7 ∷ []) r8 (r9 ∷ ss) (to_not-not (good ws) g, tt) (le→leb (flows (parse ws).header) y l)

  pub meets_9 : T (good ws) → y < flows (parse ws).header → T (not (sound_at (parse ws) (bucket_of (parse ws).header y))) → first_met (bucket_refusals ws y ++ ss) ≡ 9
  meets_9 g l t = first-met (r7 ∷ r8 ∷ []) r9 ss (to_not-not (good ws) g, (lt→nleb (flows (parse ws).header) y l, tt)) t

pub meets_none : (ws : List ℕ) (y : ℕ) → T (good ws) → y < flows (parse ws).header → T (sound_at (parse ws) (bucket_of (parse ws).header y)) → Clear (bucket_refusals ws y)
meets_none ws y g l t =
    (to_not-not (good ws) g, (lt→nleb (flows (parse ws).header) y l, (to_not-not (sound_at (parse ws) (bucket_of (parse ws).header y)) t, tt)))
