use native.Mathlib.Omega.{arith}
use mathlib.Core.Path.{ap, ◌∙◌}
use lib.Arith.{lt_of_le-ne}
use lib.Dec.{eqb}
use lib.ListN.{drop}
use Rattle.model.specs.Lists.{sum}
use Rattle.header.proofs.Places.{opened, open_known, open_limits}
use Rattle.whole.proofs.Zeros.{start-within, zero-none, zero-words}
use Rattle.whole.proofs.fulls_zero.Goals as goal

pub returns-then-v : goal.returns-then-v
returns-then-v c = zero-none _ _ (opened c.args.wall.now) c.if-v.true

pub full_at-requires : goal.full_at-requires
full_at-requires c =
    let o = opened c.args.wall.now in
    let l = open_limits _ _ o in
    (open_known _ _ o, omega (arith, lt_of_le-ne l.spare_full c.if-v.false, l.full_most))

pub zero_from-requires : goal.zero_from-requires
zero_from-requires c =
    omega (arith, start-within _ _ (opened c.args.wall.now), c.full_at.ensures)

pub returns : goal.returns
returns c =
    c.zero_from.ensures ∙ ap (λ n. eqb (sum (drop n c.args.wall.now.words.now)) 0) c.full_at.ensures ∙ zero-words _ _ (opened c.args.wall.now)
