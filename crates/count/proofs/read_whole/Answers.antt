use Rattle.std.proofs.Common.{rules, subst}
use Rattle.std.specs.Io.KnownBytes.{Consumes}
use Rattle.std.proofs.KnownBytes.{Consumes-trans}
use Rattle.count.proofs.Reading.{both}
use Rattle.count.proofs.read_whole.Goals as goal

pub loop-done-preserved : goal.loop-done-preserved
loop-done-preserved g c =
    let s = c.in_ok-n.ensures in record {
      within = search rules;
      taken =
          subst (Consumes _ _)
          (both c.loop-done.done c.in_ok-n.n c.loop-done.buf c.read.new.buf c.loop-done.invariant.within s.bound.0)
          (Consumes-trans _ _ _ _ _ c.loop-done.invariant.taken s.bytes.0);
    }
