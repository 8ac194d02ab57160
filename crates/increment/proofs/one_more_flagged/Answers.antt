use borrow.Author.Rules.{rules}
use native.Mathlib.Omega.{arith}
use native.Mathlib.Nat.{le_trans}
use mathlib.Core.Path.{◌≡◌, sym, ap, ◌∙◌}
use mathlib.Core.List.{List, [], ◌∷◌}
use Prim.Native.Nat.{ℕ, ◌+◌, ◌*◌, ◌/◌, ◌^◌, ◌≤◌, ◌<◌}
use lib.ListN.{get_or, length, set}
use Rattle.std.proofs.lemmas.Result.{err_from_is_err_and}
use Rattle.model.specs.Lists.{sum, splice}
use Rattle.model.specs.Packed.{join_fields}
use Rattle.model.specs.Walls.{buckets_in, bucket_length, full_fields, full_words, parse, word_at}
use Rattle.model.specs.Calls.{move_in}
use Rattle.moves.specs.Full.{full_at}
use Rattle.model.specs.Sound.{bucket_at, counts_at, flag, sound_at}
use Rattle.layout.specs.declared.Wall.{Wall}
use Rattle.layout.specs.Views.{header_of}
use Rattle.std.specs.Prelude.{Option, Some}
use Rattle.uppers.specs.Judge.{verdict}
use Rattle.header.specs.Headers.{Open}
use Rattle.header.proofs.Places.{full-within, open_good, open_known, open_limits, open_spread}
use Rattle.steps.specs.Step.{Ready}
use Rattle.steps.proofs.Writing.{ready, flag-here, number-used, step-moved}
use Rattle.increment.specs.OneMore.{one_more}
use Rattle.increment.proofs.Raising.{found, limit_10, next-fits, next-small, not_found, stepped, told-sound, total-small, unsound_9}
use Rattle.increment.proofs.one_more_flagged.Goals as goal

-- n is the packed word of bucket i, which j finds sound, m the count at place a, and there is room for one more
module _ (ws : List ℕ) (v : Wall) (i a n : ℕ) (o : Open ws v) (here : i < buckets_in (header_of v)) (place : a < 64) (e : n ≡ (bucket_at (parse ws) i).packed)
    (more : 0 < n / 2 ^ 40) (j : Option ℕ) (judges : j ≡ verdict (sound_at (parse ws) i) (sum (counts_at (parse ws) i))) (x : ℕ) (says : j ≡ Some x)
    (room : v.limit ≡ v.total → ⊥) (m : ℕ) (counts : m ≡ get_or (counts_at (parse ws) i) a 0) where
  below : v.total ≡ v.limit → ⊥
  below z = room (sym z)

  fits : m + 1 < 2 ^ 64
  fits = next-small ws i a j _ judges x says v o below m counts

  goes : Ready ws v i a (m + 1)
  goes = ready ws v i a m o (told-sound ws i a j _ judges x says) here place counts (omega (arith, next-fits ws i a j _ judges x says v o below m counts, counts))

  flagged : flag (bucket_at (parse ws) i) ≡ 1
  flagged = flag-here ws v i a (m + 1) goes n e more

  used : n / 2 ^ 48 < v.used
  used = omega (arith, ap (λ x. x / 2 ^ 48) e, number-used ws v i a (m + 1) goes flagged)

  number-few : n / 2 ^ 48 < 4096
  number-few = let l = open_limits ws v o in omega (arith, used, l.full_most, l.spare_full)

  -- its full-size bucket stands at k
  module _ (k : ℕ) (stands : k ≡ 4 + (buckets_in (header_of v) * bucket_length (header_of v) + n / 2 ^ 48 * 65)) where
    inside : k + 65 ≤ length ws
    inside = omega (arith, full-within ws v o (n / 2 ^ 48) (le_trans used (open_limits ws v o).spare_full))

    done : word_at ws 0 < 2 ^ 64 → (us xs : List ℕ) → us ≡ splice ws k (full_words (move_in (full_at ws k) a (m + 1)))
        → xs ≡ set (set us 2 (v.total + 1)) 3 (join_fields full_fields (v.full ∷ v.used ∷ v.spread ∷ []))
        → record { number = 0; value = m + 1; words = xs } ≡ one_more ws i a
    done low us xs moved totals =
        ap (λ (x : List ℕ). record { number = 0; value = m + 1; words = x }) totals
        ∙ step-moved ws v i a (m + 1) goes (v.total + 1) low us k flagged
        (stands ∙ ap (λ x. 4 + (buckets_in (header_of v) * bucket_length (header_of v) + x / 2 ^ 48 * 65)) e) moved
        ∙ stepped ws i a j _ judges x says v o below m counts

pub returns-in_err-ok_or : goal.returns-in_err-ok_or
returns-in_err-ok_or c =
    let p = err_from_is_err_and c.from_residual.result c.from_residual.ensures.1 in
    let u = not_found c.judge_flagged.result c.in_err-ok_or.field-0.0 c.in_err-ok_or.ensures.value in
    rw (p.1, p.2, u.0) (unsound_9 _ c.args.i c.args.at _ _ c.judge_flagged.ensures u.1)

pub returns-then-v : goal.returns-then-v
returns-then-v c = search (rules, limit_10, found)

pub count_flagged-count-requires : goal.count_flagged-count-requires
count_flagged-count-requires c = search (rules, told-sound, found)

pub overflow_add-count : goal.overflow_add-count
overflow_add-count c = search (rules, fits, found)

pub full_at-requires : goal.full_at-requires
full_at-requires c =
    let few : c.args.packed / 2 ^ 48 < 4096 = search (rules, number-few, found) in
    (open_known _ _ c.requires.0, omega arith)

pub move_in-requires : goal.move_in-requires
move_in-requires c =
    let r = c.requires in
    let h = found c.judge_flagged.result _ c.in_ok-ok_or.ensures.value in
    (inside _ _ c.args.i c.args.at c.args.packed r.0 r.1 r.2 r.3 r.4 _ c.judge_flagged.ensures _ h c.if-v.false _ c.count_flagged-count.ensures _ c.full_at.ensures, r.2)

pub overflow_add-v : goal.overflow_add-v
overflow_add-v c = omega (arith, total-small _ _ c.requires.0)

pub put_totals-requires : goal.put_totals-requires
put_totals-requires c =
    let o = c.requires.0 in
    let l = open_limits _ _ o in
    (omega (arith, (open_good _ _ o).long, c.move_in.auto.words), l.full_most, omega (arith, l.full_most, l.spare_full), open_spread _ _ o)

pub returns : goal.returns
returns c =
    let r = c.requires in
    let h = found c.judge_flagged.result _ c.in_ok-ok_or.ensures.value in
    done _ _ c.args.i c.args.at c.args.packed r.0 r.1 r.2 r.3 r.4 _ c.judge_flagged.ensures _ h c.if-v.false _ c.count_flagged-count.ensures _ c.full_at.ensures
    (search rules) _ _ c.move_in.ensures c.put_totals.ensures
