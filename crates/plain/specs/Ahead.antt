-- What a walk over levels asks of the shape has at most one proof.
use Rattle.std.specs.Prelude.{ℕ, zero, suc, ◌+◌, ◌/◌, ◌%◌}
use Rattle.std.specs.Coded.{Unit-prop, le_prop}
use Rattle.std.proofs.Props.{props}
use Rattle.uppers.specs.Uppers.{Ahead, MarksFit}

MarksFit-prop : (n k : ℕ) → IsProp (MarksFit n k)
MarksFit-prop zero k = Unit-prop
MarksFit-prop (suc n) k = le_prop {n = suc k} {m = 64}

pub Ahead-prop : (n e w t : ℕ) → IsProp (Ahead n e w t)
Ahead-prop zero e w t = Unit-prop
Ahead-prop (suc n) e w t = Prim.hlevel (props, MarksFit-prop n (e % 256), Ahead-prop n (e / 256) (w / 256) (t + w % 256))
