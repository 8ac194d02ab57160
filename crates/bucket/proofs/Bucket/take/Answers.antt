use Rattle.bucket.proofs.BucketWords.{room, taken}
use lib.ListN.{length}
use mathlib.Core.Path.{◌≡◌}
use native.Mathlib.Omega.{arith}
use borrow.Author.Rules.{rules}
use Rattle.bucket.proofs.Bucket.take.Goals as goal

pub copy-requires-2 : goal.copy-requires-2
copy-requires-2 c =
    let r = room c.args.shape c.args.at _ c.requires.0 c.requires.1 in
    let four : length c.args.self.upper.words ≡ 4 = search rules in
    (omega arith, omega arith)

pub overflow_add-upper-2 : goal.overflow_add-upper-2
overflow_add-upper-2 c = omega (arith, room c.args.shape c.args.at _ c.requires.0 c.requires.1)

pub offset_bounds-words-next-2 : goal.offset_bounds-words-next-2
offset_bounds-words-next-2 c = omega (arith, room c.args.shape c.args.at _ c.requires.0 c.requires.1)

pub bounds-words-next-2 : goal.bounds-words-next-2
bounds-words-next-2 c = omega (arith, room c.args.shape c.args.at _ c.requires.0 c.requires.1)

pub returns : goal.returns
returns c =
    let a = c.args in
    let r = room a.shape a.at _ c.requires.0 c.requires.1 in
    taken a.shape a.words.now a.at _ _ a.self.first a.self.upper.words r c.copy.ensures c.copy-2.ensures
