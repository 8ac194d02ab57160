use Rattle.plain.specs.Plain.{own_of}
use Rattle.fulls.proofs.Walk.{Going}
use Rattle.fulls.proofs.flagged.Flagged.judge_moved.Given as goal

abbrev pub invariant-loop-m : goal.invariant-loop-m
invariant-loop-m l = Going (own_of l.self.site) l.self.site.words.now l.self.full l.total l.m l.left

abbrev pub decreases-loop-m : goal.decreases-loop-m
decreases-loop-m l = l.m
