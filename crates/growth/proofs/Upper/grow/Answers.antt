use mathlib.Core.Path.{◌≡◌}
use Prim.Native.Nat.{◌+◌, ◌-◌}
use Rattle.growth.proofs.Coming.{level-here, bits-here, entry_64, shift_asks, put_asks, made_last, made_stop, going_on}
use lib.Dec.{lit<}
use native.Mathlib.Omega.{arith}
use Rattle.growth.proofs.Upper.grow.Goals as goal

pub width_at-w-requires : goal.width_at-w-requires
width_at-w-requires c = omega (arith, (level-here c.loop-j.invariant.comes.stands).index)

pub entries_at-k-requires : goal.entries_at-k-requires
entries_at-k-requires c = omega (arith, (level-here c.loop-j.invariant.comes.stands).index)

pub pow2-requires : goal.pow2-requires
pow2-requires c = omega (arith, (bits-here c.loop-j.invariant.comes.stands (omega arith)).1, c.entries_at-k.ensures.0)

pub pow2-requires-in-loop-j : goal.pow2-requires-in-loop-j
pow2-requires-in-loop-j c = omega (arith, (level-here c.loop-j.invariant.comes.stands).narrow, c.width_at-w.ensures.0)

pub overflow_shr-v : goal.overflow_shr-v
overflow_shr-v c = omega (arith, (level-here c.loop-j.invariant.comes.stands).narrow, c.width_at-w.ensures.0)

pub shift-requires : goal.shift-requires
shift-requires c = shift_asks c.loop-j.invariant (omega arith) 0 (lit< tt) c.width_at-w.result c.entries_at-k.result c.pow2-in-loop-j.result c.width_at-w.ensures.0 c.entries_at-k.ensures.0 c.pow2-in-loop-j.ensures.0

pub returns-then-v-eq0 : goal.returns-then-v-eq0
returns-then-v-eq0 c =
    made_stop c.loop-j.invariant (omega arith) c.width_at-w.result c.entries_at-k.result c.pow2-in-loop-j.result c.shift.result
    c.width_at-w.ensures.0 c.entries_at-k.ensures.0 c.pow2-in-loop-j.ensures.0 c.if-v-eq0.true c.shift.ensures

pub shift-self-requires : goal.shift-self-requires
shift-self-requires c = shift_asks c.loop-j.invariant (omega arith) 1 (lit< tt) c.width_at-w.result c.entries_at-k.result c.pow2-in-loop-j.result c.width_at-w.ensures.0 c.entries_at-k.ensures.0 c.pow2-in-loop-j.ensures.0

pub rank-a-requires : goal.rank-a-requires
rank-a-requires c = entry_64 c.loop-j.invariant.comes

pub loop-j-preserved : goal.loop-j-preserved
loop-j-preserved c =
    let n : c.args.j0 + c.args.levels - 1 + 1 - (c.loop-j.j + 1) ≡ c.args.j0 + c.args.levels - 1 + 1 - c.loop-j.j - 1 = omega arith in
    rw n
    (going_on c.loop-j.invariant (omega arith) c.width_at-w.result c.entries_at-k.result c.pow2-in-loop-j.result c.shift-self.result
    c.width_at-w.ensures.0 c.entries_at-k.ensures.0 c.pow2-in-loop-j.ensures.0 c.pow2.result c.rank-a.result c.pow2.ensures.0 c.rank-a.ensures.0
    (omega (arith, c.if-v-eq0.false)) c.shift-self.ensures)

pub width_at-requires : goal.width_at-requires
width_at-requires c = omega (arith, (level-here c.loop-j.invariant.comes.stands).index)

pub put_in-requires : goal.put_in-requires
put_in-requires c =
    let e : c.args.j0 + c.args.levels - 1 ≡ c.loop-j.j = omega (arith, c.loop-j.invariant.comes.stands.some) in
    rw e (put_asks c.loop-j.invariant (omega arith) c.width_at.result (rw e at c.width_at.ensures.0))

pub returns : goal.returns
returns c =
    let e : c.args.j0 + c.args.levels - 1 ≡ c.loop-j.j = omega (arith, c.loop-j.invariant.comes.stands.some) in
    made_last c.loop-j.invariant (omega arith) c.width_at.result c.put_in.result (rw e at c.width_at.ensures.0) (rw e at c.put_in.ensures)
