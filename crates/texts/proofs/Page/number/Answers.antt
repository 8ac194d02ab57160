-- What the kit writes is the decimal.
use Rattle.std.proofs.Common.{◌∙◌}
use Rattle.texts.proofs.Decimals.{decimal_is}
use Rattle.texts.proofs.Page.number.Goals as goal

pub text-requires : goal.text-requires
text-requires c =
    let d = c.decimal-k.ensures in
    rw (d.digits ∙ decimal_is c.args.n c.decimal-k.result d.len) c.requires

pub returns : goal.returns
returns c =
    let d = c.decimal-k.ensures in
    rw (d.digits ∙ decimal_is c.args.n c.decimal-k.result d.len) at c.text.ensures
