use mathlib.Core.List.{◌++◌}
use Prim.Native.Nat.{◌/◌, ◌%◌}
use Rattle.model.specs.Walls.{word_at}
use Rattle.texts.specs.Texts.{decimal, newline, total_text, full_text, total_line}
use Rattle.texts.proofs.Texts.{fits-first, fits_second, fits_third, all_three}
use Rattle.texts.proofs.Page.totals.Goals as goal

pub text-requires : goal.text-requires
unfolding total_line
text-requires c =
    let ws = c.args.words.now in
    fits-first c.args.self.now total_text ((decimal (word_at ws 2) ++ full_text) ++ (decimal (word_at ws 3 / 65536 % 65536) ++ newline)) c.requires

pub field-requires : goal.field-requires
unfolding total_line
field-requires c =
    rw c.word-total.ensures (fits_second _ _ _ (decimal (word_at c.args.words.now 3 / 65536 % 65536) ++ newline) c.requires c.text.ensures)

pub field-requires-2 : goal.field-requires-2
unfolding total_line
field-requires-2 c =
    rw c.word.ensures (fits_third _ _ _ _ c.requires c.text.ensures (rw c.word-total.ensures at c.field.ensures))

pub returns : goal.returns
unfolding total_line
returns c =
    all_three _ _ _ _ c.requires c.text.ensures (rw c.word-total.ensures at c.field.ensures) (rw c.word.ensures at c.field-2.ensures)
