use borrow.Author.Rules.{rules}
use Prim.Native.Nat.{◌^◌, ◌≤◌}
use native.Mathlib.Omega.{arith}
use lib.Pow.{pow_mono}
use Rattle.sums.proofs.sum_first.Goals as goal

pub sum_lanes-requires-in-0-to-7 : goal.sum_lanes-requires-in-0-to-7
sum_lanes-requires-in-0-to-7 c = let p : 2 ^ 4 ≤ 2 ^ c.args.w = pow_mono {i = 4} (omega arith) in search rules

pub sum_lanes-requires-in-0-to-15 : goal.sum_lanes-requires-in-0-to-15
sum_lanes-requires-in-0-to-15 c = let p : 2 ^ 5 ≤ 2 ^ c.args.w = pow_mono {i = 5} (omega arith) in search rules
