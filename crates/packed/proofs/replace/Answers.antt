use native.Mathlib.Omega.{arith}
use Rattle.model.proofs.AcrossWords.{put_adds}
use Rattle.packed.proofs.replace.Goals as goal

pub returns : goal.returns
returns c =
    let a = c.args in
    omega (arith, put_adds a.w a.x a.a a.v)
