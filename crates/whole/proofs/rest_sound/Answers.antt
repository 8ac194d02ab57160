use mathlib.Core.Path.{sym, ap, ◌∙◌}
use native.Mathlib.Omega.{arith}
use Rattle.model.specs.Walls.{Header, parse}
use Rattle.header.proofs.Places.{opened, open_header}
use Rattle.whole.proofs.Checking.{rest_again, rest-flags, rest_sum, rest-zero}
use Rattle.whole.proofs.rest_sound.Goals as goal

pub returns-then-t-wall : goal.returns-then-t-wall
returns-then-t-wall c =
    let e = open_header _ _ (opened c.args.wall.now) in
    rest_sum _ c.args.t c.requires (λ z. c.if-t-wall.true (z ∙ sym (ap (λ (h : Header). h.total) e)))

pub returns-then-t-wall-2 : goal.returns-then-t-wall-2
returns-then-t-wall-2 c =
    let e = open_header _ _ (opened c.args.wall.now) in
    rest-flags _ c.args.t c.requires (λ z. c.if-t-wall-2.true (z ∙ sym (ap (λ (h : Header). h.used) e)))

pub returns-then-t-gt0 : goal.returns-then-t-gt0
returns-then-t-gt0 c = rest_again _ c.args.t c.requires c.if-t-gt0.true

pub returns : goal.returns
returns c =
    let e = open_header _ _ (opened c.args.wall.now) in
    c.fulls_zero.ensures
    ∙ rest-zero (parse c.args.wall.now.words.now) c.args.t c.requires (c.if-t-wall.false ∙ ap (λ (h : Header). h.total) e)
    (c.if-t-wall-2.false ∙ ap (λ (h : Header). h.used) e) (omega arith)
