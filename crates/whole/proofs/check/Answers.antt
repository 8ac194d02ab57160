use borrow.Author.Rules.{rules}
use mathlib.Core.Path.{◌≡◌, sym, ap, ◌∙◌, subst}
use mathlib.Core.Bool.{Bool, true, false, not}
use mathlib.Core.List.{List}
use Prim.Native.Nat.{ℕ}
use lib.Dec.{T}
use Rattle.std.specs.Prelude.{Result, Ok, Err}
use Rattle.std.proofs.lemmas.Result.{err_from_is_err_and}
use Rattle.model.specs.Walls.{buckets_in, good, parse}
use Rattle.model.specs.Sound.{sound_rest}
use Rattle.model.specs.Calls.{check}
use Rattle.answer.specs.declared.Fault.TheVariants.{BadHeader}
use Rattle.header.specs.declared.Opened.{Opened}
use Rattle.header.proofs.Opening.{unopened}
use Rattle.whole.specs.declared.Tally.{Tally}
use Rattle.whole.specs.Check.{Counted, Passed}
use Rattle.whole.proofs.Checking.{all_sound, check_0, check_13, check_7, check_9}
use Rattle.whole.proofs.check.Goals as goal

-- o is the wall as the code opened it, and f what it found of the buckets
module _ (ws : List ℕ) (o : Opened) (same : o.words.now ≡ ws) (f : Result Tally ℕ) (counts : Counted (parse o.words.now) f) where
  good_words : T (good ws)
  good_words = subst (λ ws. T (good ws)) same o.good

  counted : Counted (parse ws) f
  counted = subst (λ ws. Counted (parse ws) f) same counts

  refused_9 : (i : ℕ) → f ≡ Err i → record { number = 9; value = i; words = ws } ≡ check ws
  refused_9 i e = let z = subst (λ (f : Result Tally ℕ). Counted (parse ws) f) e counted in check_9 ws good_words i z.0 z.1

  module _ (t : Tally) (all : f ≡ Ok t) where
    passed : Passed (parse ws) (buckets_in (parse ws).header) t
    passed = subst (λ (f : Result Tally ℕ). Counted (parse ws) f) all counted

    module _ (b : Bool) (rest : b ≡ sound_rest (parse o.words.now)) where
      accepts : b ≡ true → record { number = 0; value = 0; words = ws } ≡ check ws
      accepts y = check_0 ws good_words (all_sound (parse ws) t passed) (subst T (sym y ∙ rest ∙ ap (λ ws. sound_rest (parse ws)) same) tt)

      refused_13 : b ≡ false → record { number = 13; value = 0; words = ws } ≡ check ws
      refused_13 y =
          check_13 ws good_words (all_sound (parse ws) t passed) (subst (λ b. T (not b)) (sym y ∙ rest ∙ ap (λ ws. sound_rest (parse ws)) same) tt)

pub returns-in_err-wall : goal.returns-in_err-wall
returns-in_err-wall c =
    let ws = c.args.words.now in
    let p = err_from_is_err_and c.from_residual.result c.from_residual.ensures.1 in
    let u = unopened _ c.open.result ws c.in_err-wall.field-0.0 BadHeader c.open.ensures.header c.in_err-wall.ensures.value in
    rw (p.1, p.2, u.0) (check_7 ws u.1)

pub returns-in_err-t : goal.returns-in_err-t
returns-in_err-t c = search (rules, refused_9)

pub rest_sound-requires : goal.rest_sound-requires
rest_sound-requires c = search (rules, passed)

pub returns-then-rest_sound : goal.returns-then-rest_sound
returns-then-rest_sound c = search (rules, accepts)

pub returns-else-rest_sound : goal.returns-else-rest_sound
returns-else-rest_sound c = search (rules, refused_13)
