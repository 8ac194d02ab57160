use mathlib.Core.Path.{sym, ap, ◌∙◌}
use Prim.Native.Nat.{◌+◌, ◌-◌, ◌*◌, ◌/◌, ◌%◌, ◌^◌, ◌<◌}
use native.Mathlib.Omega.{arith}
use lib.Count.{ones}
use Rattle.uppers.specs.Uppers.{judged}
use Rattle.uppers.proofs.Uppers.{Walk, here, going, stopped, ahead_words, walk_step, judge_none, judge_high, judge_crowd, judge_marks, judge_stop, same_last, within, ones_none, some}
use Rattle.uppers.proofs.judge.Goals as goal
use Rattle.uppers.proofs.judge.Goals.{then-marks-eq0, else-marks-eq0}

pub returns-then-m-eq0 : goal.returns-then-m-eq0
returns-then-m-eq0 c =
    let l = c.loop-at in
    let a = c.args in
    let z = ones_none l.m c.if-m-eq0.true in
    let v = l.levels in
    c.then_some.ensures ∙ elim c.if-marks-eq0.branch [
      | then-marks-eq0 w ↦ rw (w.then_some-is, w.all_zero.ensures, ahead_words l.invariant)
          (judge_none v.count a.words.now l.at l.marks v.entries v.widths (ones l.m) l.weight l.sum l.invariant.some z (omega (arith, l.invariant.place, c.requires.3)) w.if-marks-eq0.true) ∙ l.invariant.same
      | else-marks-eq0 w ↦ rw (w.then_some-is, some l.marks (omega arith)) (judge_high v.count a.words.now l.at l.marks v.entries v.widths (ones l.m) l.weight l.sum l.invariant.some z (omega arith)) ∙ l.invariant.same
    ]

pub returns-then-k-n : goal.returns-then-k-n
returns-then-k-n c =
    let l = c.loop-at in
    let a = c.args in
    let v = l.levels in
    judge_crowd a.words.now l.at l.marks v.entries v.widths (ones l.m) l.weight l.sum v.count l.invariant.some (omega (arith, c.count-n.ensures.0, c.entries-k.ensures.0)) ∙ l.invariant.same

pub pow2-requires : goal.pow2-requires
pow2-requires c = let l = c.loop-at in omega (arith, (here l.invariant (going l.invariant c.loop-at-test.true)).3, c.entries-k.ensures.0)

pub pow2-requires-in-loop-at : goal.pow2-requires-in-loop-at
pow2-requires-in-loop-at c = let l = c.loop-at in omega (arith, (here l.invariant (going l.invariant c.loop-at-test.true)).3, c.entries-k.ensures.0)

pub returns-then-pow2-m : goal.returns-then-pow2-m
returns-then-pow2-m c =
    let l = c.loop-at in
    let a = c.args in
    let v = l.levels in
    judge_marks a.words.now l.at l.marks v.entries v.widths (ones l.m) l.weight l.sum v.count (going l.invariant c.loop-at-test.true)
    (omega (arith, c.count-n.ensures.0, c.entries-k.ensures.0)) (rw (c.pow2-in-loop-at.ensures.0, c.pow2.ensures.0, c.count-n.ensures.0, c.entries-k.ensures.0) at c.if-pow2-m.true) ∙ l.invariant.same

pub judge_level-requires : goal.judge_level-requires
judge_level-requires c =
    let l = c.loop-at in
    let b = here l.invariant (going l.invariant c.loop-at-test.true) in
    (rw c.width-w.ensures.0 b.0, rw c.width-w.ensures.0 b.1, c.count-n.ensures.1, rw c.pow2-in-loop-at.ensures.0 at c.if-pow2-m.false)

pub returns-in_err-own : goal.returns-in_err-own
returns-in_err-own c =
    let l = c.loop-at in
    let a = c.args in
    let v = l.levels in
    c.from_residual.ensures ∙ judge_stop a.words.now l.at l.marks v.entries v.widths (ones l.m) l.weight l.sum v.count (going l.invariant c.loop-at-test.true)
    (omega (arith, c.count-n.ensures.0, c.entries-k.ensures.0))
    (rw (c.width-w.ensures.0, c.pow2.ensures.0, c.count-n.ensures.0, c.entries-k.ensures.0) at (sym c.judge_level.ensures ∙ c.in_err-own.was)) ∙ l.invariant.same

pub pow2-requires-in-loop-at-2 : goal.pow2-requires-in-loop-at-2
pow2-requires-in-loop-at-2 c = let l = c.loop-at in omega (arith, (here l.invariant (going l.invariant c.loop-at-test.true)).2)

next : (c : goal.After-pow2-in-loop-at-2) → let l = c.loop-at in let a = c.args in let v = l.levels in
    Walk a.words.now (judged a.shape.uppers a.words.now a.first a.g a.shape.entries a.shape.widths (ones a.m1) a.shape.width 0) (a.first + a.shape.uppers)
    (l.at + 1) (l.marks % c.pow2.result) (l.marks / 2 ^ c.entries-k.result) (v.count - 1) (v.entries / 256) (v.widths / 256) (l.weight + c.width-w.result) (l.sum + c.in_ok-own.own * c.pow2-in-loop-at-2.result)
next c =
    walk_step c.loop-at.invariant c.loop-at-test.true c.count-n.result c.entries-k.result c.width-w.result c.pow2.result c.pow2-in-loop-at-2.result c.in_ok-own.own c.judge_level.result
    c.count-n.ensures.0 c.count-n.ensures.1 c.entries-k.ensures.0 c.width-w.ensures.0 (omega arith) c.pow2.ensures.0 c.pow2-in-loop-at-2.ensures.0 c.judge_level.ensures c.in_ok-own.was

small : (c : goal.After-pow2-in-loop-at-2) → let l = c.loop-at in l.sum + c.in_ok-own.own * c.pow2-in-loop-at-2.result < 2 ^ 63
small c =
    let l = c.loop-at in
    within (l.weight + c.width-w.result) (l.sum + c.in_ok-own.own * c.pow2-in-loop-at-2.result) (rw c.width-w.ensures.0 (here l.invariant (going l.invariant c.loop-at-test.true)).2) (next c).low

pub overflow_mul-sum : goal.overflow_mul-sum
overflow_mul-sum c = omega (arith, small c)

pub overflow_add-sum : goal.overflow_add-sum
overflow_add-sum c = omega (arith, small c)

pub overflow_shr-marks : goal.overflow_shr-marks
overflow_shr-marks c = let l = c.loop-at in omega (arith, (here l.invariant (going l.invariant c.loop-at-test.true)).3, c.entries-k.ensures.0)

pub overflow_add-weight : goal.overflow_add-weight
overflow_add-weight c = let l = c.loop-at in omega (arith, (here l.invariant (going l.invariant c.loop-at-test.true)).2, c.width-w.ensures.0)

pub loop-at-preserved : goal.loop-at-preserved
loop-at-preserved c =
    rw c.above-levels.ensures
    (walk_step c.loop-at.invariant c.loop-at-test.true c.count-n.result c.entries-k.result c.width-w.result c.pow2.result c.pow2-in-loop-at-2.result c.in_ok-own.own c.judge_level.result
    c.count-n.ensures.0 c.count-n.ensures.1 c.entries-k.ensures.0 c.width-w.ensures.0 (omega arith) c.pow2.ensures.0 c.pow2-in-loop-at-2.ensures.0 c.judge_level.ensures c.in_ok-own.was)

pub returns : goal.returns
returns c =
    let l = c.loop-at in
    let a = c.args in
    let v = l.levels in
    let e = stopped l.invariant c.loop-at-test.false in
    rw (c.count.ensures.0, ← e.1) at c.judge_last.ensures ∙ same_last a.words.now l.at l.marks v.entries v.widths (ones l.m) l.weight l.sum
    ∙ ap (λ k. judged k a.words.now l.at l.marks v.entries v.widths (ones l.m) l.weight l.sum) e.0 ∙ l.invariant.same
