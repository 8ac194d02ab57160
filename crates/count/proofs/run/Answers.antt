use Rattle.std.proofs.Common.{take}
use Rattle.std.proofs.lemmas.Result.{on_ok_weaker}
use Rattle.count.proofs.Reading.{told, mapped}
use Rattle.count.proofs.run.Goals as goal

pub returns-clause-written : goal.returns-clause-written
returns-clause-written g c =
    let o = c.respond-written.ensures in
    let front = mapped c.read_whole.result _ (λ _ _. ⊥) _ c.in_ok-n.ensures.cases c.read_whole.ensures.front in
    mapped c.write_all.result _ _ _ c.map_err-2.ensures.cases
    (on_ok_weaker c.write_all.result
    (told (g.R.Read.remaining c.args.reader.now) (g.W.Write.contents c.args.writer.now) _ (take c.in_ok-n.n c.read_whole.new.buf) c.respond-written.new.out _ c.respond-written.result front o.size o.output)
    c.write_all.ensures.bytes)
