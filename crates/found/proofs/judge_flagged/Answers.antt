use native.Mathlib.Omega.{arith}
use Rattle.header.proofs.Places.{opened}
use Rattle.found.proofs.Here.{no_one, no_number, packed_one, flagged-judged}
use Rattle.found.proofs.judge_flagged.Goals as goal

pub returns-then-packed-ne1 : goal.returns-then-packed-ne1
returns-then-packed-ne1 c = let w = c.args.wall.now in no_one w.words.now w.header (opened w) c.args.i c.requires.0 c.args.packed c.requires.1 c.requires.2 c.if-packed-ne1.true

pub returns-then-wall-packed : goal.returns-then-wall-packed
returns-then-wall-packed c = let w = c.args.wall.now in no_number w.words.now w.header (opened w) c.args.i c.requires.0 c.args.packed c.requires.1 c.requires.2 (omega arith)

pub judge-requires : goal.judge-requires
judge-requires c = packed_one c.args.wall.now c.args.i c.requires.0 c.args.packed c.requires.1 c.if-packed-ne1.false (omega arith) c.flagged.result c.flagged.ensures

pub returns : goal.returns
returns c = flagged-judged c.args.wall.now c.args.i c.requires.0 c.args.packed c.requires.1 c.if-packed-ne1.false (omega arith) c.flagged.result c.flagged.ensures c.judge.result c.judge.ensures
