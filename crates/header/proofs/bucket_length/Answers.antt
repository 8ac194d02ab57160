use native.Mathlib.Omega.{arith}
use Rattle.header.proofs.Opening.{length_of_bucket}
use Rattle.header.proofs.bucket_length.Goals as goal

pub returns : goal.returns
returns c = (length_of_bucket c.args.v c.requires, omega arith)
