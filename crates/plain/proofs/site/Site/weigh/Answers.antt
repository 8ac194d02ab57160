use mathlib.Core.Path.{sym, ap, ◌∙◌}
use Prim.Native.Nat.{◌+◌, ◌^◌, ◌≤◌}
use native.Mathlib.Omega.{arith}
use lib.ListN.{drop}
use lib.Pow.{pow_mono}
use Rattle.plain.proofs.Soundness.{unsound_weighed, over_weighed, sound_weighed, upper_small, first_most}
use Rattle.plain.proofs.site.Site.weigh.Goals as goal

pub returns-in_err-own : goal.returns-in_err-own
returns-in_err-own c =
    let s = c.args.self.now in
    λ used. c.from_residual.ensures ∙ unsound_weighed s.shape.width s.shape.uppers s.shape.entries s.shape.widths s.words.now s.at (omega (arith, s.there)) s.fit c.requires c.args.total used (sym c.upper.ensures ∙ c.in_err-own.was)

pub overflow_add-own : goal.overflow_add-own
overflow_add-own c =
    let s = c.args.self.now in
    let p : 2 ^ s.shape.width ≤ 2 ^ 16 = pow_mono s.narrow in
    omega (
      arith,
      first_most s.shape.width (drop s.at s.words.now),
      c.sum_first.ensures,
      upper_small s.shape.width s.shape.uppers s.shape.entries s.shape.widths s.words.now s.at (omega (arith, s.there)) s.fit c.requires c.args.total 0 s.levels s.narrow (sym c.upper.ensures ∙ c.in_ok-own.was),
    )

pub returns-then-total-own : goal.returns-then-total-own
returns-then-total-own c =
    let s = c.args.self.now in
    λ used. over_weighed s.shape.width s.shape.uppers s.shape.entries s.shape.widths s.words.now s.at (omega (arith, s.there)) s.fit c.requires c.args.total used (sym c.upper.ensures ∙ c.in_ok-own.was)
    (c.in_ok-own.field-0 + c.sum_first.result) (ap (λ k. c.in_ok-own.field-0 + k) c.sum_first.ensures) (omega arith)

pub returns : goal.returns
returns c =
    let s = c.args.self.now in
    λ used. sound_weighed s.shape.width s.shape.uppers s.shape.entries s.shape.widths s.words.now s.at (omega (arith, s.there)) s.fit c.requires c.args.total used (sym c.upper.ensures ∙ c.in_ok-own.was)
    (c.in_ok-own.field-0 + c.sum_first.result) (ap (λ k. c.in_ok-own.field-0 + k) c.sum_first.ensures) (omega arith)
