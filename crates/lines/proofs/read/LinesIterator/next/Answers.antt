use Rattle.std.proofs.Common.{rules, arith, tests, ◌≡◌, ◌≢◌, ap, length}
use Rattle.std.proofs.lemmas.Iterator.{IsFirst-from_position, YieldsList-from_slice}
use Rattle.std.proofs.option.Match.{if_some, if_none}
use Rattle.lines.proofs.Found.{lines_none, at_newline, no_newline}
use Rattle.lines.proofs.read.LinesIterator.next.Goals as goal

pub returns-then-is_empty-clause-steps : goal.returns-then-is_empty-clause-steps
returns-then-is_empty-clause-steps c =
    let e = lines_none c.args.self.now.rest.now (search (rules, tests)) in (e, e)

pub returns-in-Some-clause-steps : goal.returns-in-Some-clause-steps
returns-in-Some-clause-steps c =
    let found = if_some _ _ _ c.in-Some.is (IsFirst-from_position _ _ _ (λ x. x ≡ 10) (λ x. x ≢ 10) c.position.ensures.ran (YieldsList-from_slice _ c.iter.ensures.rest) (λ x q k. search (rules, tests)) (λ x q k. search (rules, tests))) in
    at_newline _ _ _ found (omega (arith, found.0))

pub returns-in-Some-clause-goes : goal.returns-in-Some-clause-goes
returns-in-Some-clause-goes c = let e = returns-in-Some-clause-steps c in record { on = λ _. (search rules, search rules, omega (arith, ap length e)); keeps = search rules; rests = search rules }

pub returns-in-None-clause-steps : goal.returns-in-None-clause-steps
returns-in-None-clause-steps c = no_newline _ (search (rules, tests)) (if_none _ _ c.in-None.is (IsFirst-from_position _ _ _ (λ x. x ≡ 10) (λ x. x ≢ 10) c.position.ensures.ran (YieldsList-from_slice _ c.iter.ensures.rest) (λ x q k. search (rules, tests)) (λ x q k. search (rules, tests))))

pub returns-in-None-clause-goes : goal.returns-in-None-clause-goes
returns-in-None-clause-goes c = let e = returns-in-None-clause-steps c in record { on = λ _. (search rules, search rules, omega (arith, ap length e)); keeps = search rules; rests = search rules }
