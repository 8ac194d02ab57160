use mathlib.Core.Path.{◌∙◌}
use Prim.Native.Nat.{◌%◌, ◌^◌}
use native.Mathlib.Omega.{arith}
use lib.ListN.{length}
use Rattle.reads.proofs.Reading.{place-fits, count_stop}
use Rattle.plain.specs.Plain.{packed_of}
use Rattle.plain.proofs.Views.{own-here}
use Rattle.fulls.proofs.flagged.Flagged.own_count.Goals as goal

pub entry_at-requires : goal.entry_at-requires
entry_at-requires c =
    let s = c.args.self.now.site in
    let f = place-fits s.shape.width c.args.place s.at (length s.words.now) c.requires s.narrow (omega (arith, s.there)) in
    (f.0, f.1, s.wide, omega (arith, s.narrow))

pub returns-then-bit-eq0 : goal.returns-then-bit-eq0
returns-then-bit-eq0 c =
    let s = c.args.self.now.site in
    let h = s.shape in
    c.entry_at.ensures
    ∙ count_stop s.words.now s.at c.args.place (packed_of s % 2 ^ 40) h.width h.uppers h.entries h.widths s.fit c.requires (omega (arith, rw c.marks.ensures at c.bit.ensures))
    ∙ own-here h.width h.uppers h.entries h.widths s.words.now s.at (omega (arith, s.there)) c.args.place c.requires
