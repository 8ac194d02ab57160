use native.Mathlib.Omega.{arith}
use mathlib.Core.Path.{◌≡◌, ap}
use Prim.Native.Nat.{◌+◌, ◌*◌}
use lib.ListN.{set}
use Rattle.model.specs.Packed.{join_fields}
use Rattle.model.specs.Walls.{full_fields}
use mathlib.Core.List.{[], ◌∷◌}
use Rattle.steps.proofs.put_totals.Goals as goal

pub returns : goal.returns
returns c =
    let a = c.args in
    let e : a.v.full + a.used * 65536 + a.v.spread * 4294967296 ≡ join_fields full_fields (a.v.full ∷ a.used ∷ a.v.spread ∷ []) = omega arith in
    ap (set (set a.words.now 2 a.total) 3) e
