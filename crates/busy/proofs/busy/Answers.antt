use borrow.Author.Rules.{rules}
use mathlib.Core.Path.{◌≡◌, sym, ap, ap₂, ◌∙◌, subst}
use mathlib.Core.List.{List}
use Prim.Native.Nat.{ℕ, ◌*◌, ◌≤◌, ◌<◌}
use lib.Dec.{lit<}
use lib.ListN.{length}
use Rattle.model.specs.Walls.{parse}
use Rattle.model.specs.Sound.{count}
use Rattle.model.specs.Calls.{Outcome, check}
use Rattle.model.specs.BusyLists.{busy, busy_flows, written}
use Rattle.model.proofs.BusyLists.{busy-refused, busy_short, busy-done}
use Rattle.std.specs.Prelude.{Err}
use Rattle.std.proofs.lemmas.Result.{err_from_is_err_and}
use Rattle.answer.specs.declared.Refusal.TheVariants as refusal
use Rattle.answer.specs.declared.Fault.{Fault}
use Rattle.answer.specs.declared.Fault.TheVariants.{BadHeader, Unsound, UnsoundWall}
use Rattle.answer.specs.Answers.{answer_of, checked_of, listing_of, outcome_of, refusal_of}
use Rattle.header.specs.declared.Opened.{Opened}
use Rattle.header.proofs.Opening.{unopened, same_words}
use Rattle.whole.proofs.Checking.{check_7}
use Rattle.busy.proofs.busy.Goals as goal

-- o is the wall as the code opened it, and the check accepts it
module _ (ws : List ℕ) (o : Opened) (same : o.words.now ≡ ws) (checks : record { number = 0; value = 0; words = ws } ≡ check ws) (floor : ℕ) where
  accepts : (check o.words.now).number ≡ 0
  accepts = ap (λ ws. (check ws).number) same ∙ sym (ap (λ (o : Outcome). o.number) checks)

  -- and n the number of flows to list
  module _ (list : List ℕ) (n : ℕ) (lists : n ≡ length (busy_flows (parse o.words.now) floor)) where
    refused_14 : length list < 2 * n → record { number = 14; value = 0; words = ws; list = list } ≡ busy ws floor list
    refused_14 h = subst (λ ws. record { number = 14; value = 0; words = ws; list = list } ≡ busy ws floor list) same (busy_short o.words.now floor list accepts (subst (λ n. length list < 2 * n) lists h))

    listed_all : (us : List ℕ) → us ≡ written (count (parse o.words.now)) (busy_flows (parse o.words.now) floor) list → 2 * n ≤ length list
        → record { number = 0; value = n; words = ws; list = us } ≡ busy ws floor list
    listed_all us w h =
        subst (λ ws. record { number = 0; value = n; words = ws; list = us } ≡ busy ws floor list) same
        (ap₂ (λ n us. record { number = 0; value = n; words = o.words.now; list = us }) lists w ∙ busy-done o.words.now floor list accepts (subst (λ n. 2 * n ≤ length list) lists h))

-- where the check finds a fault f, its number comes without the bucket
as_checked : (ws : List ℕ) (floor : ℕ) (list : List ℕ) (f : Fault) → outcome_of (checked_of (Err f)) ws ≡ check ws → listing_of (answer_of (Err (refusal_of f))) ws list ≡ busy ws floor list
as_checked ws floor list BadHeader e = busy-refused ws floor list 7 (lit< tt) (sym (ap (λ (o : Outcome). o.number) e))
as_checked ws floor list (Unsound b) e = busy-refused ws floor list 9 (lit< tt) (sym (ap (λ (o : Outcome). o.number) e))
as_checked ws floor list UnsoundWall e = busy-refused ws floor list 13 (lit< tt) (sym (ap (λ (o : Outcome). o.number) e))

pub returns-in_err-wall : goal.returns-in_err-wall
returns-in_err-wall c =
    let ws = c.args.words.now in
    let p = err_from_is_err_and c.from_residual.result c.from_residual.ensures.1 in
    let u = unopened _ c.open.result ws c.in_err-wall.field-0.0 refusal.BadHeader c.open.ensures.header c.in_err-wall.ensures.value in
    rw (p.1, p.2, u.0) (busy-refused ws c.args.floor c.args.list.now 7 (lit< tt) (sym (ap (λ (o : Outcome). o.number) (check_7 ws u.1))))

pub returns-in_err-check : goal.returns-in_err-check
returns-in_err-check c =
    let p = err_from_is_err_and c.from_residual-in_err-check.result c.from_residual-in_err-check.ensures.1 in
    rw (p.1, p.2) (as_checked c.args.words.now c.args.floor c.args.list.now c.in_err-check.field-0.0 c.in_err-check.ensures)

pub returns-then-list-end : goal.returns-then-list-end
returns-then-list-end c = search (rules, refused_14)

pub returns : goal.returns
returns c =
    let o = c.in_ok-wall.wall in
    let same = same_words _ c.open.result c.args.words.now o refusal.BadHeader c.open.ensures.words c.in_ok-wall.ensures.value in
    listed_all _ o same c.in_ok-check.ensures c.args.floor c.args.list.now _ c.listed-k.ensures.0 c.fill.new.list c.fill.ensures c.if-list-end.false
