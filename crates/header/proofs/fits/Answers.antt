use lib.Dec.{leb, leb→le}
use Rattle.model.specs.Walls.{buckets_in}
use Rattle.model.proofs.Tools.{and_tests}
use native.Mathlib.Omega.{arith}
use mathlib.Core.Path.{ap, ◌∙◌}
use Rattle.std.specs.Prelude.{nat_eq, length}
use Rattle.model.specs.Slots.{valid_spread}
use Rattle.model.specs.Walls.{limit_fits, full_fits}
use Rattle.model.proofs.Headers.{limit_test, full_test}
use Rattle.layout.specs.Views.{header_of}
use Rattle.layout.proofs.Tests.{passed}
use Rattle.header.proofs.Opening.{fails_test, fails_fact, passes, spread_test}
use Rattle.std.proofs.lemmas.Bool.{not_from_false, not_from_true}
use Rattle.header.proofs.fits.Goals as goal

pub returns-then-not-limit_fits : goal.returns-then-not-limit_fits
returns-then-not-limit_fits c =
    fails_test c.args.words.now c.args.v c.requires.2 limit_fits limit_test c.limit_fits.result c.limit_fits.ensures (not_from_false _ c.if-not-limit_fits.true)

pub returns-then-not-full_fits : goal.returns-then-not-full_fits
returns-then-not-full_fits c =
    fails_test c.args.words.now c.args.v c.requires.2 full_fits full_test c.full_fits.result c.full_fits.ensures (not_from_false _ c.if-not-full_fits.true)

pub returns-then-v : goal.returns-then-v
returns-then-v c =
    fails_fact c.args.words.now c.args.v c.requires.2 (λ l. omega (arith, l.within))

pub returns-then-v-2 : goal.returns-then-v-2
returns-then-v-2 c =
    fails_fact c.args.words.now c.args.v c.requires.2 (λ l. omega (arith, l.spare_full))

pub returns-then-not-valid : goal.returns-then-not-valid
returns-then-not-valid c =
    fails_test c.args.words.now c.args.v c.requires.2 (λ h. valid_spread h.bits h.spread) spread_test c.valid.result c.valid.ensures (not_from_false _ c.if-not-valid.true)

pub size-requires : goal.size-requires
size-requires c =
    let f = passed c.full_fits.result (full_fits (header_of c.args.v)) c.full_fits.ensures (not_from_true _ c.if-not-full_fits.false) in
    (c.requires.0, leb→le c.args.v.full 4096 (and_tests (leb c.args.v.full (buckets_in (header_of c.args.v))) (leb c.args.v.full 4096) f).1)

pub returns : goal.returns
returns c =
    let v = c.args.v in
    let l = passed c.limit_fits.result (limit_fits (header_of v)) c.limit_fits.ensures (not_from_true _ c.if-not-limit_fits.false) in
    let f = passed c.full_fits.result (full_fits (header_of v)) c.full_fits.ensures (not_from_true _ c.if-not-full_fits.false) in
    let s = passed c.valid.result (valid_spread v.bits v.spread) c.valid.ensures (not_from_true _ c.if-not-valid.false) in
    ap (nat_eq (length c.args.words.now)) c.size.ensures ∙ passes c.args.words.now v c.requires.2 c.requires.1 c.requires.0 l f c.if-v.false c.if-v-2.false s
