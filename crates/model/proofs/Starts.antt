-- A wall raised or closed is the fresh wall of its header, and demand 3 starts there; prefixes.
use mathlib.Core.Logic.{◌↔◌}
use mathlib.Core.Path.{◌≡◌, refl, sym, ap, ◌∙◌}
use mathlib.Core.List.{List, [], ◌∷◌, ◌++◌}
use Prim.Native.Nat.{ℕ, zero, suc, ◌≤◌, zero-le}
use native.Mathlib.Omega.{arith}
use lib.Dec.{T, leb, eqb, le→leb, nltb→le, eqb→eq, lit<, lit≤}
use lib.Arith.{le→nltb}
use lib.ListN.{length}
use Rattle.model.specs.Shapes.{known_shape, width_asked}
use Rattle.model.specs.Slots.{known_bits, valid_spread}
use Rattle.model.specs.Walls.{Header, wall_size, limit_fits, full_fits, read_header, good, with_totals, fresh}
use Rattle.model.specs.Calls.{Outcome, first_met, Ask, asked, raise_refusals, raise, close_refusals, close, increment}
use Rattle.model.specs.Runs.{run}
use Rattle.model.proofs.Tools.{tests_and, not-not, to_not-not}
use Rattle.model.proofs.Headers.{Limits, rows_fine, limits_of, shape_test, bits_test, limit_test, full_test, eq-eqb}
use Rattle.model.proofs.Refusals.{clear_first, first_clear, answer_no, answer_done}
use Rattle.model.proofs.Demand3.{run_on, run-first}

width_low : (w : ℕ) → 1 ≤ width_asked w
width_low zero = lit≤ tt
width_low (suc w) = omega arith

width_high : (w : ℕ) → w ≤ 16 → width_asked w ≤ 16
width_high zero h = lit≤ tt
width_high (suc w) h = h

width_given : (w : ℕ) → width_asked w ≤ 16 → w ≤ 16
width_given zero h = zero-le
width_given (suc w) h = h

module _ (a : Ask) (ws : List ℕ) where
  abbrev h : Header
  h = asked a

  -- a wall is raised exactly where its fields keep their limits and the length is exact
  pub raised_iff : ((raise a ws).number ≡ 0) ↔ (Limits h × (length ws ≡ wall_size h))
  unfolding raise
  raised_iff = (
    (λ e.
        let c = clear_first (raise_refusals a ws) (lit< tt, (lit< tt, (lit< tt, (lit< tt, (lit< tt, (lit< tt, (lit< tt, tt))))))) (sym (answer_no 0 (fresh h) ws (first_met (raise_refusals a ws))) ∙ e) in
        let s = not-not (known_shape a.shape) c.0 in
        let w = tests_and (leb 1 h.width) (leb h.width 16) (le→leb 1 h.width (width_low a.width)) (le→leb h.width 16 (width_high a.width (nltb→le 16 a.width c.1.0))) in
        let m = not-not (valid_spread a.bits a.spread) c.1.1.1.1.1.0 in (
          limits_of h (rows_fine a.shape s) (s, (w, (not-not (known_bits a.bits) c.1.1.0, (not-not (limit_fits h) c.1.1.1.0, (not-not (full_fits h) c.1.1.1.1.0, (le→leb 0 a.limit zero-le, (le→leb 0 a.full zero-le, (m, tt)))))))),
          eqb→eq (length ws) (wall_size h) (not-not (eqb (length ws) (wall_size h)) c.1.1.1.1.1.1.0),
        )),
    (λ g.
        let l = g.0 in
        answer_no 0 (fresh h) ws (first_met (raise_refusals a ws)) ∙ first_clear (raise_refusals a ws) (
          to_not-not (known_shape a.shape) (shape_test h l),
          (
            le→nltb 16 a.width (width_given a.width l.width_high),
            (to_not-not (known_bits a.bits) (bits_test h l), (to_not-not (limit_fits h) (limit_test h l), (to_not-not (full_fits h) (full_test h l), (to_not-not (valid_spread a.bits a.spread) l.spread-valid, (to_not-not (eqb (length ws) (wall_size h)) (eq-eqb g.1), tt))))),
          ),
        )),
  )

  pub raised-words : (raise a ws).number ≡ 0 → (raise a ws).words ≡ fresh h
  unfolding raise
  raised-words e =
      ap (λ (r : Outcome). r.words) (answer_done 0 (fresh h) ws (first_met (raise_refusals a ws)) (sym (answer_no 0 (fresh h) ws (first_met (raise_refusals a ws))) ∙ e))

-- ---- close

pub cleared : (g : Header) → Limits g → Limits (with_totals g 0 0)
cleared g l = record {
  fine = l.fine;
  shape_low = l.shape_low;
  shape_high = l.shape_high;
  width_low = l.width_low;
  width_high = l.width_high;
  bits_low = l.bits_low;
  bits_high = l.bits_high;
  limit-low = l.limit-low;
  limit-high = l.limit-high;
  full_most = l.full_most;
  full-number = l.full-number;
  within = zero-le;
  spare_full = zero-le;
  spread-valid = l.spread-valid;
}

module _ (ws : List ℕ) where
  -- a good header is all that close needs
  pub closed_iff : ((close ws).number ≡ 0) ↔ T (good ws)
  unfolding close
  closed_iff = (
    (λ e. not-not (good ws) (clear_first (close_refusals ws) (lit< tt, tt) (sym (answer_no 0 (fresh (read_header ws)) ws (first_met (close_refusals ws))) ∙ e)).0),
    (λ g. answer_no 0 (fresh (read_header ws)) ws (first_met (close_refusals ws)) ∙ first_clear (close_refusals ws) (to_not-not (good ws) g, tt)),
  )

  pub closed-words : (close ws).number ≡ 0 → (close ws).words ≡ fresh (read_header ws)
  unfolding close
  closed-words e =
      ap (λ (a : Outcome). a.words) (answer_done 0 (fresh (read_header ws)) ws (first_met (close_refusals ws)) (sym (answer_no 0 (fresh (read_header ws)) ws (first_met (close_refusals ws))) ∙ e))

-- ---- every prefix of an accepted list is accepted

pub prefix : (xs ys ws : List ℕ) → (run ws (xs ++ ys)).number ≡ 0 → (run ws xs).number ≡ 0
unfolding run
prefix [] ys ws e = refl
prefix (x ∷ xs) ys ws e =
    let z = run-first ws x (xs ++ ys) e in
    ap (λ (a : Outcome). a.number) (run_on ws x xs z) ∙ prefix xs ys (increment ws x).words (sym (ap (λ (a : Outcome). a.number) (run_on ws x (xs ++ ys) z)) ∙ e)
