use native.Mathlib.Omega.{arith}
use Rattle.fulls.proofs.Zeros.{all_zeros}
use Rattle.fulls.proofs.flagged.Flagged.zero_places.Goals as goal

pub returns : goal.returns
returns c = let b = c.args.self.now in all_zeros b.site.words.now b.full b.room c.zero_words.result _ c.zero_words.ensures (omega arith)
