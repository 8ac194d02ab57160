use Rattle.growth.proofs.Climbing.{entry_in, entry_64, replace_asks, replace_last, made_last, made_stop, grows, made_in, climbing_on}
use Rattle.growth.proofs.Coming.{level-here, bits-here}
use mathlib.Core.Path.{◌≡◌, sym, ◌∙◌}
use Prim.Native.Nat.{◌+◌, ◌-◌}
use native.Mathlib.Omega.{arith}
use Rattle.growth.proofs.Upper.rise.Goals as goal

pub width_at-w-requires : goal.width_at-w-requires
width_at-w-requires c = omega (arith, (level-here c.loop-j.invariant.rises.stands).index)

pub pow2-requires : goal.pow2-requires
pow2-requires c = omega (arith, (level-here c.loop-j.invariant.rises.stands).narrow, c.width_at-w.ensures.0)

pub replace-self-requires : goal.replace-self-requires
replace-self-requires c = replace_asks c.loop-j.invariant c.width_at-w.result c.pow2.result c.width_at-w.ensures.0 c.pow2.ensures.0

pub overflow_shr-v : goal.overflow_shr-v
overflow_shr-v c = omega (arith, (level-here c.loop-j.invariant.rises.stands).narrow, c.width_at-w.ensures.0)

pub returns-then-v-eq0 : goal.returns-then-v-eq0
returns-then-v-eq0 c = made_stop c.loop-j.invariant (omega arith) c.width_at-w.result c.pow2.result c.replace-self.result c.width_at-w.ensures.0 c.pow2.ensures.0 c.replace-self.ensures c.if-v-eq0.true

pub entries_at-k-requires : goal.entries_at-k-requires
entries_at-k-requires c = omega (arith, (level-here c.loop-j.invariant.rises.stands).index)

pub pow2-requires-in-loop-j : goal.pow2-requires-in-loop-j
pow2-requires-in-loop-j c = omega (arith, (bits-here c.loop-j.invariant.rises.stands (omega arith)).1, c.entries_at-k.ensures.0)

pub rank-next-requires : goal.rank-next-requires
rank-next-requires c = entry_64 c.loop-j.invariant.rises

pub bit-requires : goal.bit-requires
bit-requires c = entry_64 c.loop-j.invariant.rises

pub overflow_add-off : goal.overflow_add-off
overflow_add-off c = omega (arith, (bits-here c.loop-j.invariant.rises.stands (omega arith)).0, entry_in c.loop-j.invariant.rises)

pub set_mark-requires : goal.set_mark-requires
set_mark-requires c = omega (arith, (bits-here c.loop-j.invariant.rises.stands (omega arith)).0, entry_in c.loop-j.invariant.rises)

pub grow-requires : goal.grow-requires
grow-requires c =
    let n : c.args.shape.uppers - 1 - c.loop-j.j ≡ c.args.shape.uppers - 1 + 1 - c.loop-j.j - 1 = omega arith in
    rw n
    (grows c.loop-j.invariant (omega arith) c.width_at-w.result c.pow2.result c.replace-self.result c.width_at-w.ensures.0 c.pow2.ensures.0 c.replace-self.ensures
    c.entries_at-k.result c.pow2-in-loop-j.result c.rank-next.result c.entries_at-k.ensures.0 c.pow2-in-loop-j.ensures.0 c.rank-next.ensures.0 (omega (arith, c.if-v-eq0.false))
    (sym c.bit.ensures ∙ c.if-bit-eq0.true)
    (record { words = c.replace-self.result.words; packed = c.set_mark.result }) (rw c.set_mark.ensures))

pub returns-then-bit-eq0 : goal.returns-then-bit-eq0
returns-then-bit-eq0 c =
    let n : c.args.shape.uppers - 1 - c.loop-j.j ≡ c.args.shape.uppers - 1 + 1 - c.loop-j.j - 1 = omega arith in
    made_in c.loop-j.invariant (omega arith) c.width_at-w.result c.pow2.result c.replace-self.result c.width_at-w.ensures.0 c.pow2.ensures.0 c.replace-self.ensures
    c.entries_at-k.result c.pow2-in-loop-j.result c.rank-next.result c.entries_at-k.ensures.0 c.pow2-in-loop-j.ensures.0 c.rank-next.ensures.0 (omega (arith, c.if-v-eq0.false))
    (sym c.bit.ensures ∙ c.if-bit-eq0.true)
    (record { words = c.replace-self.result.words; packed = c.set_mark.result }) (rw c.set_mark.ensures) c.grow.result (rw n at c.grow.ensures)

pub loop-j-preserved : goal.loop-j-preserved
loop-j-preserved c =
    let n : c.args.shape.uppers - 1 + 1 - (c.loop-j.j + 1) ≡ c.args.shape.uppers - 1 + 1 - c.loop-j.j - 1 = omega arith in
    rw n
    (climbing_on c.loop-j.invariant (omega arith) c.width_at-w.result c.pow2.result c.replace-self.result c.width_at-w.ensures.0 c.pow2.ensures.0 c.replace-self.ensures
    c.entries_at-k.result c.pow2-in-loop-j.result c.rank-next.result c.entries_at-k.ensures.0 c.pow2-in-loop-j.ensures.0 c.rank-next.ensures.0 (omega (arith, c.if-v-eq0.false)) (λ e. c.if-bit-eq0.false (c.bit.ensures ∙ e)))

pub width_at-requires : goal.width_at-requires
width_at-requires c = omega (arith, (level-here c.loop-j.invariant.rises.stands).index)

pub replace-requires : goal.replace-requires
replace-requires c =
    let e : c.args.shape.uppers - 1 ≡ c.loop-j.j = omega (arith, c.loop-j.invariant.rises.stands.some) in
    rw e (replace_last c.loop-j.invariant (omega arith) c.width_at.result (rw e at c.width_at.ensures.0))

pub returns : goal.returns
returns c =
    let e : c.args.shape.uppers - 1 ≡ c.loop-j.j = omega (arith, c.loop-j.invariant.rises.stands.some) in
    made_last c.loop-j.invariant (omega arith) c.width_at.result c.replace.result (rw e at c.width_at.ensures.0) (rw e at c.replace.ensures)
