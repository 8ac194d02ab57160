use Rattle.std.proofs.Common.{◌≡◌, take, replicate, ap, arith}
use Rattle.std.proofs.Math.Nat.{le_trans}
use Rattle.model.specs.Walls.{fresh}
use Rattle.model.specs.Calls.{Outcome, ask, raise}
use Rattle.lines.proofs.Kept.{Small}
use Rattle.lines.proofs.Size.{size}
use Rattle.count.specs.Program.{raised, program}
use Rattle.count.proofs.Examples as known
use Rattle.count.proofs.respond.Goals as goal

small : Small 999 raised
unfolding raised raise fresh
small = record { limit = omega arith; total = omega arith }

-- the words that the raise leaves
wall : {r : Outcome} → r ≡ raise (ask 3 1 6 100 1 0) (replicate 74 0) → r.words ≡ raised
unfolding raised
wall e = ap (λ (r : Outcome). r.words) e

pub lines-requires : goal.lines-requires
lines-requires c = le_trans (rw (wall c.raise.ensures) (size (take c.args.n c.args.input.now) raised small)) c.requires.room

pub returns-clause-size : goal.returns-clause-size
unfolding program
returns-clause-size c = rw (wall c.raise.ensures) at c.lines.ensures.size

pub returns-clause-output : goal.returns-clause-output
unfolding program
returns-clause-output c = rw (wall c.raise.ensures) at c.lines.ensures.output

pub returns-clause-examples : goal.returns-clause-examples
returns-clause-examples c = known.examples
