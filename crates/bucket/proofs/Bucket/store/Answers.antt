use Rattle.bucket.proofs.BucketWords.{room, stored}
use lib.ListN.{length, length-set}
use native.Mathlib.Omega.{arith}
use mathlib.Core.Path.{◌≡◌}
use borrow.Author.Rules.{rules}
use Rattle.bucket.proofs.Bucket.store.Goals as goal

pub copy-requires-2 : goal.copy-requires-2
copy-requires-2 c =
    let r = room c.args.shape c.args.at _ c.requires.0 c.requires.1 in
    let four : length c.args.self.upper.words ≡ 4 = search rules in
    (simp length-set (omega arith), omega arith)

pub overflow_add-words-2 : goal.overflow_add-words-2
overflow_add-words-2 c = omega (arith, room c.args.shape c.args.at _ c.requires.0 c.requires.1)

pub offset_bounds-words-next-2 : goal.offset_bounds-words-next-2
offset_bounds-words-next-2 c = omega (arith, room c.args.shape c.args.at _ c.requires.0 c.requires.1)

pub bounds-words-next-2 : goal.bounds-words-next-2
bounds-words-next-2 c =
    let r = room c.args.shape c.args.at _ c.requires.0 c.requires.1 in
    omega (arith, simp length-set at c.copy-2.auto.to, c.copy.auto.to)

pub returns : goal.returns
returns c =
    let a = c.args in
    let r = room a.shape a.at _ c.requires.0 c.requires.1 in
    stored a.shape a.self a.words.now a.at _ _ r (search rules) (search rules) c.copy.ensures c.copy-2.ensures
