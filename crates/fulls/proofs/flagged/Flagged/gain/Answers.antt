use native.Mathlib.Omega.{arith}
use Rattle.plain.specs.Plain.{own_of}
use Rattle.fulls.proofs.Gains.{moved_gains, moved-low}
use Rattle.fulls.proofs.flagged.Flagged.gain.Goals as goal

pub returns-then-full-own : goal.returns-then-full-own
returns-then-full-own c =
    let b = c.args.self.now in
    moved-low (own_of b.site) b.site.words.now b.full c.args.place c.requires.0 (λ z. omega (arith, z, c.requires.1)) c.own_count-own.result c.own_count-own.ensures (omega (arith, c.full_count-full.ensures))

pub returns : goal.returns
returns c =
    let b = c.args.self.now in
    rw c.full_count-full.ensures
    (moved_gains (own_of b.site) b.site.words.now b.full c.args.place c.requires.0 (λ z. omega (arith, z, c.requires.1)) c.own_count-own.result c.own_count-own.ensures (omega (arith, c.full_count-full.ensures)))
