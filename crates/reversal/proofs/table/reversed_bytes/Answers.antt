use Prim.Native.Nat.{◌<◌}
use Rattle.reversal.proofs.Bytes.{table_right}
use Rattle.reversal.proofs.table.reversed_bytes.Goals as goal

pub returns : goal.returns
returns c =
    let small : c.args.first < 256 = c.requires.0 in
    let small2 : c.args.second < 256 = c.requires.1 in
    let small3 : c.args.third < 256 = c.requires.2 in
    -- `rw` reads the table off the goal; its test computes to `Unit`, and the law's conditions are found here
    let right : Unit {0} = tt in
    rw (c.from.ensures, c.from-2.ensures, c.from-3.ensures, table_right 8)
