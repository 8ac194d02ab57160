use Rattle.parts.proofs.Parts.{left, part_stored, seven, asked_seven}
use Rattle.shapes.specs.declared.Shape.{Shape}
use Prim.Native.Nat.{◌%◌}
use mathlib.Core.Path.{refl, ap, ◌∙◌}
use borrow.Author.Rules.{rules}
use Rattle.parts.proofs.step_default.Goals as goal

pub returns : goal.returns
returns c =
    let a = c.args in
    let s = a.shape in
    let e = c.requires.3 in
    let asked = asked_seven s e a.words.now a.at a.place a.value (c.requires.0, c.requires.1, c.requires.2) in
    c.store.ensures
    ∙ part_stored (record { uppers = s.uppers; width = 7; entries = s.entries; widths = s.widths }) a.words.now a.at a.place a.value (a.value % 128)
    c.take.result c.put.result (λ i. search rules) (search rules) (λ i. search rules) (search rules) (search rules) c.take.ensures c.put.ensures refl asked
    ∙ ap (λ (x : Shape). left x a.words.now a.at a.place a.value) (seven s e)
