use native.Mathlib.Omega.{arith}
use mathlib.Core.Path.{sym, ◌∙◌}
use Rattle.plain.specs.Plain.{own_of}
use Rattle.fulls.proofs.Places.{own-count, moved-count}
use Rattle.fulls.proofs.flagged.Flagged.count.Goals as goal

pub returns-then-bit-eq0 : goal.returns-then-bit-eq0
returns-then-bit-eq0 c =
    let b = c.args.self.now in
    c.count.ensures ∙ sym (own-count (own_of b.site) b.site.words.now b.full c.args.place c.requires (omega (arith, rw c.moved.ensures at c.bit.ensures)))

pub returns : goal.returns
returns c =
    let b = c.args.self.now in
    c.full_count.ensures ∙ sym (moved-count (own_of b.site) b.site.words.now b.full c.args.place c.requires (λ e. omega (arith, e, rw c.moved.ensures at c.bit.ensures)))
