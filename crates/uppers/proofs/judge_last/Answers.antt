use mathlib.Core.Path.{◌≡◌, sym, ◌∙◌}
use mathlib.Core.List.{[], ◌∷◌}
use Prim.Native.Nat.{◌+◌, ◌*◌, ◌%◌, ◌^◌, ◌<◌}
use native.Mathlib.Omega.{arith}
use Rattle.std.specs.Prelude.{Some}
use Rattle.uppers.proofs.Uppers.{alone, alone-sum, judge_crowd, last-high, last_stop, last_done, weighed}
use Rattle.uppers.proofs.judge_last.Goals as goal

pub returns-then-g-gt0 : goal.returns-then-g-gt0
returns-then-g-gt0 c =
    let a = c.args in
    last-high (a.cells ∷ []) 0 a.g a.levels.entries a.levels.widths a.n a.weight a.sum c.if-g-gt0.true

pub returns-then-entries-n : goal.returns-then-entries-n
returns-then-entries-n c =
    let a = c.args in
    judge_crowd (a.cells ∷ []) 0 a.g a.levels.entries a.levels.widths a.n a.weight a.sum 1 (omega arith) (omega arith)

pub returns-in_err-own : goal.returns-in_err-own
returns-in_err-own c =
    let a = c.args in
    c.from_residual.ensures ∙ last_stop (a.cells ∷ []) 0 a.g a.levels.entries a.levels.widths a.n a.weight a.sum (omega arith) (omega arith) (rw c.width.ensures.0 at (sym c.judge_level.ensures ∙ c.in_err-own.was))

told : (c : goal.After-pow2) → let a = c.args in alone (a.cells ∷ []) 0 a.g a.levels.entries a.levels.widths a.n a.weight a.sum 0 ≡ Some c.in_ok-own.own
told c = rw c.width.ensures.0 at (sym c.judge_level.ensures ∙ c.in_ok-own.was)

small : (c : goal.After-pow2) → let a = c.args in a.sum + c.in_ok-own.own * c.pow2.result < 2 ^ 63
small c =
    let a = c.args in
    rw c.pow2.ensures.0 (weighed (a.levels.widths % 256) a.n a.cells c.in_ok-own.own a.weight a.sum c.requires.2 c.requires.3 c.requires.4 (alone-sum (a.cells ∷ []) 0 a.g a.levels.entries a.levels.widths a.n a.weight a.sum 0 (told c)))

pub overflow_mul-result : goal.overflow_mul-result
overflow_mul-result c = omega (arith, small c)

pub overflow_add-result : goal.overflow_add-result
overflow_add-result c = omega (arith, small c)

pub returns : goal.returns
returns c =
    let a = c.args in
    rw c.pow2.ensures.0 (last_done (a.cells ∷ []) 0 a.g a.levels.entries a.levels.widths a.n a.weight a.sum (omega arith) (omega arith) (told c))
