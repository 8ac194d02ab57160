-- Demand 3: from the words of a fresh wall, what a list of increments comes to.
use mathlib.Core.Path.{◌≡◌, refl, sym, ap, ◌∙◌, subst}
use mathlib.Core.Bool.{Bool, true, false}
use mathlib.Core.List.{List, [], ◌∷◌}
use Prim.Native.Nat.{ℕ, ◌+◌, ◌<◌}
use native.Mathlib.Omega.{arith}
use lib.Dec.{T, eqb, ltb, eqb→eq, ltb→lt, lt→ltb}
use lib.ListN.{length}
use Rattle.model.specs.Lists.{one_if, choose}
use Rattle.model.specs.Levels.{crowded}
use Rattle.model.specs.Walls.{Header, flows, buckets_in, with_totals, read_header, parse, fresh}
use Rattle.model.specs.Sound.{counts_at}
use Rattle.model.specs.Need.{Needed}
use Rattle.model.specs.Calls.{refuse, first_met, asked}
use Rattle.model.specs.Runs.{run, listed, crowded_buckets}
use Rattle.model.proofs.Headers.{Limits, good_of, eq-eqb}
use Rattle.model.proofs.SoundWalls.{check_sound}
use Rattle.model.proofs.Needed.{needed-crowded}
use Rattle.model.proofs.Demand2.{Tabled}
use Rattle.model.proofs.Demand3.{fresh_on, accepted-list, after_list, accepted_alike, ends_alike, next-after}
use Rattle.model.proofs.Known.{run-known}
use Rattle.model.proofs.Starts.{raised_iff, raised-words, closed_iff, closed-words, cleared, prefix}
use Rattle.demands.specs.DemandTwo.{Accepted}
use Rattle.demands.specs.DemandThree.{Flows, Rearranged, none, skip, swap, then, After, Ends, Next, Listed, DemandThree}

-- ---- the number of the next increment

next_of : (n m c j : ℕ) → Next n m c j (first_met (refuse 10 (eqb n m) ∷ refuse 12 (ltb j c) ∷ []))
next_of n m c j = go (eqb n m) (λ t. eqb→eq n m t) (λ e. eq-eqb e) (ltb j c) (ltb→lt j c) (lt→ltb j c)
  where
    go : (p : Bool) → (T p → n ≡ m) → (n ≡ m → T p) → (q : Bool) → (T q → j < c) → (j < c → T q) → Next n m c j (choose p 10 (choose q 12 0))
    go true f g q h k = record {
      ten = ((λ _. f tt), (λ _. refl));
      twelve = ((λ e. absurd (omega arith)), (λ e. absurd (e.0 (f tt))));
      zero = ((λ e. absurd (omega arith)), (λ e. absurd (e.0 (f tt))));
      only = λ a b. absurd (b refl);
    }
    go false f g true h k = record {
      ten = ((λ e. absurd (omega arith)), (λ e. absurd (g e)));
      twelve = ((λ _. (g, (let l = h tt in omega arith))), (λ _. refl));
      zero = ((λ e. absurd (omega arith)), (λ e. let l = h tt in absurd (omega (arith, e.1))));
      only = λ _ _. refl;
    }
    go false f g false h k = record {
      ten = ((λ e. absurd (omega arith)), (λ e. absurd (g e)));
      twelve = ((λ e. absurd (omega arith)), (λ e. absurd (k e.1)));
      zero = ((λ _. (g, (let z : ¬ (j < c) = k in omega arith))), (λ _. refl));
      only = λ a b. absurd (a refl);
    }

-- ---- a rearrangement

relisted : (xs ys : List ℕ) → Rearranged xs ys → (y : ℕ) → listed y xs ≡ listed y ys
relisted xs ys r y = go r
  where
    go : {xs ys : List ℕ} → Rearranged xs ys → listed y xs ≡ listed y ys
    go none = refl
    go (skip {x} r) = ap (λ n. one_if (eqb y x) + n) (go r)
    go (swap {x = x} {y = z} {xs = xs}) = omega arith
    go (then p q) = go p ∙ go q

reordered : (n : ℕ) {xs ys : List ℕ} → Rearranged xs ys → Flows n xs → Flows n ys
reordered n none b = b
reordered n (skip r) b = (b.0, reordered n r b.1)
reordered n swap b = (b.1.0, (b.0, b.1.1))
reordered n (then p q) b = reordered n q (reordered n p b)

-- ---- from the fresh wall of a header within its limits

module _ (h : Header) (l : Limits (with_totals h 0 0)) (k : Tabled h) where
  afterwards : (ys : List ℕ) → Flows (flows h) ys → (run (fresh h) ys).number ≡ 0 → After h ys (run (fresh h) ys).words
  afterwards ys b e =
      let a = after_list h l k ys b e in
      record { counts = a.counts; header = a.header; flags = a.flags; tallied = a.tallied; needed = a.needed; accepted = a.accepted }

  known : (ys : List ℕ) → (run (fresh h) ys).number ≡ 0 → Flows (flows h) ys
  known ys e = run-known h ys [] (fresh h) (fresh_on h l k) e

  ends : (xs ys : List ℕ) → Flows (flows h) xs → Flows (flows h) ys → ((y : ℕ) → y < flows h → listed y xs ≡ listed y ys) → (run (fresh h) xs).number ≡ 0 → Ends h (run (fresh h) xs).words (run (fresh h) ys).words
  ends xs ys bx by f e = let a = ends_alike h l k xs ys bx by f e in record { counts = a.counts; header = a.header; flags = a.flags }

  any_order : (xs ys : List ℕ) → Rearranged xs ys → (run (fresh h) xs).number ≡ 0 → ((run (fresh h) ys).number ≡ 0) × Ends h (run (fresh h) xs).words (run (fresh h) ys).words
  any_order xs ys r e =
      let bx = known xs e in
      let by = reordered (flows h) r bx in
      let f : (y : ℕ) → y < flows h → listed y xs ≡ listed y ys = λ y m. relisted xs ys r y in
      (accepted_alike h l k xs ys bx by f e, ends xs ys bx by f e)

  fresh-listed : Listed h (fresh h)
  fresh-listed = record {
    accepted = accepted-list h l k;
    orders = accepted_alike h l k;
    prefixes = λ xs ys. prefix xs ys (fresh h);
    after = afterwards;
    known = known;
    any_order = any_order;
    ends = ends;
    next = λ ys b e y m. subst (Next (length ys) h.limit (crowded_buckets h (y ∷ ys)) h.full) (sym (next-after h l k ys b e y m)) (next_of (length ys) h.limit (crowded_buckets h (y ∷ ys)) h.full);
  }

-- in any wall that the check accepts, a bucket that has need of the flag is crowded
pub needed_is_crowded : (ws : List ℕ) → Accepted ws → (i : ℕ) → i < buckets_in (parse ws).header → Needed (parse ws) i
    → T (crowded (parse ws).header.width (parse ws).header.rows (counts_at (parse ws) i))
needed_is_crowded ws ok = needed-crowded (parse ws) ((check_sound ws).0 ok).1

pub demand_three : DemandThree
demand_three = record {
  raised = λ a ws e. subst (Listed (asked a)) (sym (raised-words a ws e)) (fresh-listed (asked a) ((raised_iff a ws).0 e).0 refl);
  closed = λ ws e. subst (Listed (read_header ws)) (sym (closed-words ws e)) (fresh-listed (read_header ws) (cleared (read_header ws) (good_of ws ((closed_iff ws).0 e)).limits) refl);
  rearranged = relisted;
}
