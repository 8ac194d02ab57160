use mathlib.Core.Path.{refl, ap, ◌∙◌}
use Prim.Native.Nat.{ℕ, ◌-◌, ◌/◌, ◌%◌, ◌^◌}
use Rattle.model.specs.Slots.{reversed}
use Rattle.model.proofs.Slots.{reversed_lt}
use Rattle.reversal.proofs.Bytes.{reversed-parts}
use Rattle.reversal.proofs.reversed.Goals as goal

pub returns : goal.returns
returns c =
    let a = c.args in
    let y = a.flow in
    let e = ap (λ (n : ℕ). n / 2 ^ (24 - a.bits)) c.reversed_bytes-all.ensures
    ∙ reversed-parts 8 a.bits y (reversed 8 (y % 256)) (reversed 8 (y / 256 % 256)) (reversed 8 (y / 65536 % 256)) refl refl refl c.requires in
    (e, rw e (reversed_lt a.bits y))
