use borrow.Author.Rules.{rules}
use native.Mathlib.Omega.{arith}
use Rattle.std.proofs.Math.Seq.{take_all}
use Rattle.image.proofs.Laws.{read, outside}
use Rattle.image.proofs.word.Goals as goal

-- `take_all` is for bytes taken from a place on: an edit of that place is refused for its value
pub returns-then-n-words : goal.returns-then-n-words
returns-then-n-words c = search (rules, read, take_all)

pub returns-else-n-words : goal.returns-else-n-words
returns-else-n-words c = cc (outside c.args.bytes.now c.args.n (omega (arith, c.as_chunks.ensures.front_len)))
