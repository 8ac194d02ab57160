use mathlib.Core.Path.{◌∙◌}
use mathlib.Core.List.{List, [], ◌∷◌}
use Prim.Native.Nat.{ℕ}
use lib.Dec.{T}
use Rattle.model.specs.Shapes.{Row}
use Rattle.shapes.specs.Shapes.{table_width}
use Rattle.shapes.proofs.Table.{right_table, right_row}
use Rattle.shapes.proofs.widths_of.Goals as goal

pub returns : goal.returns
returns c =
    let t : List (List ℕ) = (4 ∷ 13 ∷ 0 ∷ 0 ∷ []) ∷ (2 ∷ 4 ∷ 12 ∷ 0 ∷ []) ∷ (2 ∷ 3 ∷ 4 ∷ 9 ∷ []) ∷ [] in
    let right : T (right_table t table_width) = tt in
    c.row_bytes.ensures ∙ right_row t (λ (r : Row). r.width) right tt c.args.shape c.requires.0 c.requires.1
