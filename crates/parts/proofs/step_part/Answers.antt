use borrow.Author.Rules.{rules}
use mathlib.Core.Path.{ap, ◌∙◌}
use Prim.Native.Nat.{◌%◌}
use Rattle.parts.proofs.Parts.{part_stored}
use Rattle.parts.proofs.step_part.Goals as goal

pub returns : goal.returns
returns c =
    let a = c.args in
    c.store.ensures
    ∙ part_stored a.shape a.words.now a.at a.place a.value (a.value % c.pow2.result) c.take.result c.put.result
    (λ i. search rules) (search rules) (λ i. search rules) (search rules) (search rules)
    c.take.ensures c.put.ensures (ap (λ n. a.value % n) c.pow2.ensures.0) c.requires
