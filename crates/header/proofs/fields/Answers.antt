use Rattle.header.proofs.Opening.{fields-words}
use Rattle.header.proofs.fields.Goals as goal

pub returns : goal.returns
returns c =
    let ws = c.args.words.now in
    fields-words ws (c.type_inv.words 0).fits
