-- What the program writes: document 01's example, an empty input, a line that is no flow, and any longer input.
use Rattle.std.specs.Prelude.{◌≡◌, List, ℕ, ◌<◌, length}
use Rattle.texts.specs.Texts.{bytes_of}
use Rattle.count.specs.Program.{program}

pub record Examples : Type 0 where
  pub flows : program (bytes_of "1\n1\n2\n64\n") ≡ bytes_of "1 0 1\n1 0 2\n2 0 1\n64 8 0\ntotal 3 full 0\n"
  pub empty : program (bytes_of "") ≡ bytes_of "total 0 full 0\n"
  pub blank : program (bytes_of "7\n\n2\n") ≡ bytes_of "7 0 1\nbad line 2\n"
  pub longer : (input : List ℕ) → 65536 < length input → program input ≡ bytes_of "bad input\n"
