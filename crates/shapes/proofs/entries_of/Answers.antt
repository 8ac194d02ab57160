use mathlib.Core.Path.{◌∙◌}
use mathlib.Core.List.{List, [], ◌∷◌}
use Prim.Native.Nat.{ℕ}
use lib.Dec.{T}
use Rattle.model.specs.Shapes.{Row}
use Rattle.shapes.specs.Shapes.{table_entries}
use Rattle.shapes.proofs.Table.{right_table, right_row}
use Rattle.shapes.proofs.entries_of.Goals as goal

pub returns : goal.returns
returns c =
    let t : List (List ℕ) = (15 ∷ 3 ∷ 0 ∷ 0 ∷ []) ∷ (25 ∷ 10 ∷ 2 ∷ 0 ∷ []) ∷ (25 ∷ 10 ∷ 3 ∷ 1 ∷ []) ∷ [] in
    let right : T (right_table t table_entries) = tt in
    c.row_bytes.ensures ∙ right_row t (λ (r : Row). r.entries) right tt c.args.shape c.requires.0 c.requires.1
