use mathlib.Core.Path.{sym, ap, ◌∙◌}
use Prim.Native.Nat.{◌+◌, ◌^◌, ◌≤◌}
use native.Mathlib.Omega.{arith}
use lib.ListN.{drop}
use lib.Pow.{pow_mono}
use Rattle.plain.proofs.Soundness.{first_most}
use Rattle.fulls.specs.Fulls.{full_of}
use Rattle.fulls.proofs.Soundness.{levels-unsound, upper_fits, own-sum, own_over_total, tests_decide}
use Rattle.fulls.proofs.flagged.Flagged.judge.Goals as goal

pub returns-in_err-own : goal.returns-in_err-own
returns-in_err-own c =
    let b = c.args.self.now in
    let s = b.site in
    let h = s.shape in
    λ used num. c.from_residual.ensures ∙ levels-unsound h.width h.uppers h.entries h.widths s.words.now s.at (omega (arith, s.there)) s.fit c.requires (full_of b) c.args.total used num (sym c.upper.ensures ∙ c.in_err-own.was)

pub overflow_add-own : goal.overflow_add-own
overflow_add-own c =
    let s = c.args.self.now.site in
    let h = s.shape in
    let p : 2 ^ h.width ≤ 2 ^ 16 = pow_mono s.narrow in
    omega (arith, first_most h.width (drop s.at s.words.now), c.sum_first.ensures, upper_fits h.width h.uppers h.entries h.widths s.words.now s.at (omega (arith, s.there)) s.fit s.levels s.narrow (sym c.upper.ensures ∙ c.in_ok-own.was))

pub returns-then-total-own : goal.returns-then-total-own
returns-then-total-own c =
    let b = c.args.self.now in
    let s = b.site in
    let h = s.shape in
    λ used num. own_over_total h.width h.uppers h.entries h.widths s.words.now s.at (omega (arith, s.there)) s.fit c.requires (full_of b) c.args.total used num (sym c.upper.ensures ∙ c.in_ok-own.was)
    (c.in_ok-own.field-0 + c.sum_first.result) (ap (λ k. c.in_ok-own.field-0 + k) c.sum_first.ensures) (omega arith)

pub judge_moved-requires : goal.judge_moved-requires
judge_moved-requires c =
    let s = c.args.self.now.site in
    let h = s.shape in
    (own-sum h.width h.uppers h.entries h.widths s.words.now s.at (omega (arith, s.there)) s.fit (sym c.upper.ensures ∙ c.in_ok-own.was) (c.in_ok-own.field-0 + c.sum_first.result) (ap (λ k. c.in_ok-own.field-0 + k) c.sum_first.ensures), omega arith)

pub returns : goal.returns
returns c =
    let b = c.args.self.now in
    let s = b.site in
    let h = s.shape in
    λ used num. tests_decide h.width h.uppers h.entries h.widths s.words.now s.at (omega (arith, s.there)) s.fit c.requires (full_of b) c.args.total used num (sym c.upper.ensures ∙ c.in_ok-own.was)
    (c.in_ok-own.field-0 + c.sum_first.result) (ap (λ k. c.in_ok-own.field-0 + k) c.sum_first.ensures) c.judge_moved.result c.judge_moved.ensures
