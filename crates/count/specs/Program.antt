-- The program as a function of the bytes that it reads.
use Rattle.std.specs.Prelude.{List, ℕ, replicate}
use Rattle.model.specs.Calls.{ask, raise}
use Rattle.lines.specs.Transcript.{transcript}

-- 74 zeroed words raised as shape 3, w1 1, b 6, M 100, J 1, spread 0
unfoldable pub raised : List ℕ
raised = (raise (ask 3 1 6 100 1 0) (replicate 74 0)).words

unfoldable pub program : List ℕ → List ℕ
program input = transcript input raised
