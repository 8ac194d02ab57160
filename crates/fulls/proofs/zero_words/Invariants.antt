use lib.ListN.{take}
use Rattle.std.specs.Prelude.{◌≡◌, ◌==◌, count_by}
use Rattle.fulls.proofs.zero_words.Given as goal

abbrev pub invariant-loop-word : goal.invariant-loop-word
invariant-loop-word l = l.zeros ≡ count_by (λ x. x == 0) (take l.word-index l.words)
