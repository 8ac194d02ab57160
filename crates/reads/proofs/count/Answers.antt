use mathlib.Core.Path.{sym, ◌∙◌}
use Rattle.reads.proofs.Reading.{count_stop, count_on}
use Rattle.reads.proofs.count.Goals as goal

pub returns-then-bit-eq0 : goal.returns-then-bit-eq0
returns-then-bit-eq0 c =
    let a = c.args in
    c.entry_at-part.ensures ∙ count_stop a.words.now a.at a.place a.g a.shape.width a.shape.uppers a.shape.entries a.shape.widths (λ i. (c.type_inv.words i).fits) c.requires.6 (sym c.bit.ensures ∙ c.if-bit-eq0.true)

pub returns : goal.returns
returns c =
    let a = c.args in
    rw (c.levels.ensures, c.entry_at-part.ensures, c.rank.ensures.0) at c.read.ensures
    ∙ count_on a.words.now a.at a.place a.g a.shape.width a.shape.uppers a.shape.entries a.shape.widths (λ i. (c.type_inv.words i).fits) c.requires.6 (λ z. c.if-bit-eq0.false (c.bit.ensures ∙ z))
