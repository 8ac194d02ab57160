use Rattle.packed.proofs.Words.{entry_past}
use Rattle.packed.proofs.entry.Goals as goal

pub returns-then-s-ge64 : goal.returns-then-s-ge64
returns-then-s-ge64 c =
    let a = c.args in
    entry_past 64 a.w a.x a.a c.ranges.x.fits c.if-s-ge64.true
