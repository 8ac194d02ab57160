use Rattle.std.proofs.Common.{arith, ◌≡◌, ◌++◌, ◌∙◌, drop}
use Rattle.texts.specs.Writing.{Added}
use Rattle.lines.specs.Transcript.{transcript}
use Rattle.lines.proofs.Turns.{too_long, words_stay, by_lines, words-by_lines, front}
use Rattle.lines.proofs.lines.Goals.{then-input-gt-INPUT, else-input-gt-INPUT}
use Rattle.lines.proofs.lines.Goals as goal

pub text-requires : goal.text-requires
text-requires c =
    let p = c.new-page.ensures in
    rw (p.kept, p.none) (omega (arith, rw (too_long c.args.input.now c.args.words.now (omega arith)) at c.requires))

pub each_line-requires : goal.each_line-requires
each_line-requires c =
    let p = c.new-page.ensures in
    rw (p.kept, p.none) (omega (arith, rw (by_lines c.args.input.now c.args.words.now (omega arith)) at c.requires))

pub returns : goal.returns
returns c =
    let input = c.args.input.now in
    let ws = c.args.words.now in
    let said : Added c.new-page.result (transcript input ws) c.if-input-gt-INPUT.page =
    elim c.if-input-gt-INPUT.branch [
      | then-input-gt-INPUT w ↦ rw (too_long input ws w.if-input-gt-INPUT.true, w.page-is) w.text.ensures
      | else-input-gt-INPUT w ↦ rw (by_lines input ws w.if-input-gt-INPUT.false, w.page-is) w.each_line.ensures.written
    ] in
    let p = c.new-page.ensures in
    let f = front p.kept p.none said.wrote in
    let same = said.same ∙ p.same in
    let shown : c.if-input-gt-INPUT.page.bytes.now ≡ transcript input ws ++ drop c.len.result c.args.out.now = rw c.len.ensures f.1 in
    record {
      size = c.len.ensures ∙ f.0;
      output = grind arith;
      words =
          elim c.if-input-gt-INPUT.branch [
            | then-input-gt-INPUT w ↦ rw (words_stay input ws w.if-input-gt-INPUT.true) w.words-is
            | else-input-gt-INPUT w ↦ rw (words-by_lines input ws w.if-input-gt-INPUT.false) (w.words-is ∙ w.each_line.ensures.words)
          ];
    }
