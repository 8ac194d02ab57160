use native.Mathlib.Omega.{arith}
use mathlib.Core.Path.{sym, ◌∙◌}
use Rattle.std.proofs.lemmas.Result.{err_from_is_err_and}
use Rattle.increment.proofs.Raising.{found, next-fits, next-small, not_found, stepped, told-sound, told-value, total_10, total-small, unsound_9}
use Rattle.increment.proofs.one_more_plain.Goals as goal

pub returns-in_err-was : goal.returns-in_err-was
returns-in_err-was c =
    let p = err_from_is_err_and c.from_residual.result c.from_residual.ensures.1 in
    let u = not_found c.read_plain.result c.in_err-was.field-0.0 c.in_err-was.ensures.value in
    rw (p.1, p.2, u.0) (unsound_9 _ c.args.i c.args.at _ _ c.read_plain.ensures u.1)

pub returns-then-v : goal.returns-then-v
returns-then-v c =
    let h = found c.read_plain.result _ c.in_ok-was.ensures.value in
    total_10 _ c.args.i c.args.at _ _ c.read_plain.ensures _ h _ c.requires.0 c.if-v.true

pub overflow_add-was : goal.overflow_add-was
overflow_add-was c =
    let h = found c.read_plain.result _ c.in_ok-was.ensures.value in
    record { fits = next-small _ c.args.i c.args.at _ _ c.read_plain.ensures _ h _ c.requires.0 c.if-v.false _ (sym (told-value _ c.args.i c.args.at _ _ c.read_plain.ensures _ h)) }

pub overflow_add-v : goal.overflow_add-v
overflow_add-v c = omega (arith, total-small _ _ c.requires.0)

pub step_plain-requires : goal.step_plain-requires
step_plain-requires c =
    let h = found c.read_plain.result _ c.in_ok-was.ensures.value in
    let e = told-value _ c.args.i c.args.at _ _ c.read_plain.ensures _ h in (
      record {
        header = c.requires.0;
        sound = told-sound _ c.args.i c.args.at _ _ c.read_plain.ensures _ h;
        bucket = c.requires.1;
        place = c.requires.2;
        larger = omega (arith, e);
        fits = next-fits _ _ _ _ _ c.read_plain.ensures _ h _ c.requires.0 c.if-v.false _ (sym e);
      },
      sym e,
      omega (arith, c.requires.3),
    )

pub returns : goal.returns
returns c =
    let h = found c.read_plain.result _ c.in_ok-was.ensures.value in
    let e = told-value _ c.args.i c.args.at _ _ c.read_plain.ensures _ h in
    c.step_plain.ensures ∙ stepped _ _ _ _ _ c.read_plain.ensures _ h _ c.requires.0 c.if-v.false _ (sym e)
