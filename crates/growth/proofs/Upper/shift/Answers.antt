use Rattle.growth.proofs.Redone.{field_put}
use Rattle.growth.specs.declared.Upper.{Upper}
use lib.Pow.{pow_mono, pow_pos}
use native.Mathlib.Omega.{arith}
use native.Mathlib.Nat.{mod-lt, lt_of_lt_of_le}
use Prim.Native.Nat.{◌/◌, ◌^◌}
use mathlib.Core.Path.{ap, ◌∙◌}
use Rattle.growth.proofs.Upper.shift.Goals as goal

pub put_mark-requires : goal.put_mark-requires
put_mark-requires c =
    let k = c.args.k in
    (c.requires.7, c.requires.8, rw c.pow2.ensures.0 (lt_of_lt_of_le (mod-lt (c.args.self.packed / 2 ^ c.args.off) (pow_pos k)) (pow_mono {i = k} {j = 63} (omega (arith, c.requires.6)))))

pub put_field-packed-requires : goal.put_field-packed-requires
put_field-packed-requires c =
    (omega (arith, c.requires.6), omega (arith, c.requires.6), omega (arith, c.requires.6), rw (c.put_mark.ensures, c.pow2.ensures.0) c.requires.9)

pub returns : goal.returns
returns c =
    let x = c.args.self.packed in
    let o = c.args.off in
    let k = c.args.k in
    let e = rw c.pow2.ensures.0 at c.put_mark.ensures in
    let f = field_put x c.put_field-packed.result o k c.put_mark.result (rw e c.requires.9) c.put_field-packed.ensures in
    record {
      words = ap (λ (b : Upper). b.words) c.put_in-moved.ensures;
      low = f.0;
      own = f.1 ∙ e;
      high = f.2;
    }
