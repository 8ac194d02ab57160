use mathlib.Core.Path.{sym, ◌∙◌}
use Prim.Native.Nat.{◌+◌, ◌/◌, ◌%◌, ◌^◌, ◌<◌}
use native.Mathlib.Omega.{arith}
use Rattle.model.specs.Packed.{bit}
use Rattle.uppers.proofs.Level.{some_left, some_right, Summing, level-empty, level-next, above_le, level-high, level-done}
use Rattle.uppers.proofs.judge_level.Goals as goal
use Rattle.uppers.proofs.judge_level.Goals.{else-x-p-eq0-via-then-x-p-eq0+else-bit-eq0, else-x-p-eq0-via-else-x-p-eq0}

pub returns-then-bit-eq0 : goal.returns-then-bit-eq0
returns-then-bit-eq0 c = level-empty c.loop-i.invariant c.loop-i-test.true (rw c.pow2-p.ensures.0 at c.if-x-p-eq0.true) (sym c.bit.ensures ∙ c.if-bit-eq0.true)

kept : (c : goal.Joined-else-x-p-eq0) → 0 < c.loop-i.x % 2 ^ c.args.w + bit c.args.marks c.loop-i.i
kept c =
    let l = c.loop-i in
    let a = c.args in
    let p = c.pow2-p in
    elim c.else-x-p-eq0.branch [
      | else-x-p-eq0-via-then-x-p-eq0+else-bit-eq0 w ↦ some_right (l.x % 2 ^ a.w) (bit a.marks l.i) w.bit.result w.bit.ensures w.if-bit-eq0.false
      | else-x-p-eq0-via-else-x-p-eq0 w ↦ some_left (l.x % 2 ^ a.w) (bit a.marks l.i) (rw p.ensures.0 at w.if-x-p-eq0.false)
    ]

more : (c : goal.Joined-else-x-p-eq0) → let a = c.args in let l = c.loop-i in Summing a.w a.n a.cells a.marks (l.x / 2 ^ a.w) (l.i + 1) (l.above + l.x / 2 ^ a.w)
more c = level-next c.loop-i.invariant c.loop-i-test.true (kept c)

pub overflow_add-above : goal.overflow_add-above
overflow_add-above c = omega (arith, above_le (more c) c.requires.0, c.ranges.cells)

pub loop-i-preserved : goal.loop-i-preserved
loop-i-preserved c = more c

pub returns-then-x-gt0 : goal.returns-then-x-gt0
returns-then-x-gt0 c = level-high c.loop-i.invariant (omega (arith, c.loop-i.invariant.within, c.loop-i-test.false)) c.if-x-gt0.true

pub returns : goal.returns
returns c = level-done c.loop-i.invariant c.pow2-p.result c.pow2-p.ensures.0 (omega (arith, c.loop-i.invariant.within, c.loop-i-test.false)) (omega arith) c.requires.3
