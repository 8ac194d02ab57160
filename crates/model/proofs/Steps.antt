-- One count of a sound wall rises by d, at least 1: the wall is sound again, and no other count changes.
use mathlib.Core.Logic.{◌≢◌}
use mathlib.Core.Path.{◌≡◌, refl, sym, ap, ap₂, ◌∙◌, subst, subst₂}
use mathlib.Core.Bool.{Bool, true, false, not}
use mathlib.Core.List.{List}
use Prim.Native.Nat.{ℕ, zero, suc, ◌+◌, ◌≤◌, ◌<◌}
use native.Mathlib.Nat.{add-zero, le_of_eq, not-suc-le-zero, zero-lt-suc}
use native.Mathlib.Omega.{arith}
use lib.Dec.{T, eqb, eqb→eq}
use lib.ListN.{length, get_or, set, length-set, length-replicate}
use lib.Seq.{get_or-set_other}
use Rattle.model.specs.Lists.{sum, one_if, by_mark, choose}
use Rattle.model.specs.Shapes.{Row, row, all_rows}
use Rattle.model.specs.Levels.{crowded}
use Rattle.model.specs.Walls.{Bucket, Full, Wall, buckets_in, empty_full, empty_bucket, with_totals, wall}
use Rattle.model.specs.Sound.{flag, full_number, own_counts, full_of, bucket_counts, bucket_at, own_at, full_for, counts_at, holds_number, holders, all_counts, is_empty_full}
use Rattle.model.specs.Calls.{no_room, overflows, step, holding, overflowed, move_in}
use Rattle.model.specs.After.{own_after, full_after}
use Rattle.model.proofs.Coding.{Fits}
use Rattle.model.proofs.Crowding.{bucket-fits, T_true}
use Rattle.model.proofs.Tools.{by_eq}
use Rattle.model.proofs.Headers.{Fine, eq-eqb}
use Rattle.model.proofs.Parsing.{Shaped}
use Rattle.model.proofs.Sums.{tab_ext, sum-set, sum_change, sum_two, sum-zero}
use Rattle.model.proofs.Buckets.{SoundB, sound_more, sound_hold, sound_over, sound-moved, length-own, own-fits, hold_flag, over_flag, over_number, over_own, moved_here, full-here}
use Rattle.model.proofs.SoundWalls.{SoundWall}
use Rattle.model.specs.Need.{needed_from, Needed}
use Rattle.model.proofs.OwnSteps.{length-counts_at, number_lt}
use Rattle.model.proofs.OwnSteps as own
use Rattle.model.proofs.Needed.{AllNeeded, need_new, need_kept, moved_rises}

-- what an increment by d of place a of bucket i makes of the wall x
pub record Stepped (x : Wall) (i a d : ℕ) (y : Wall) : Type 0 where
  pub sound : SoundWall y
  pub header : y.header ≡ with_totals x.header (x.header.total + d) y.header.used
  pub here : counts_at y i ≡ set (counts_at x i) a (get_or (counts_at x i) a 0 + d)
  pub there : (k : ℕ) → k < buckets_in x.header → k ≢ i → counts_at y k ≡ counts_at x k
  pub flag-here : flag (bucket_at y i) ≡ by_mark (flag (bucket_at x i)) (one_if (no_room x i a (get_or (counts_at x i) a 0 + d))) (flag (bucket_at x i))
  pub used : y.header.used ≡ x.header.used + one_if (overflows x i a (get_or (counts_at x i) a 0 + d))
  pub own : (bucket_at y i ≡ own_after x i a (get_or (counts_at x i) a 0 + d)) × (full_for y i ≡ full_after x i a (get_or (counts_at x i) a 0 + d))
  pub others : (k : ℕ) → k < buckets_in x.header → k ≢ i → (bucket_at y k ≡ bucket_at x k) × (full_for y k ≡ full_for x k)
  pub needed : AllNeeded x → AllNeeded y

-- ---- flags and numbers

full_of-set : (fs : List Full) (q : ℕ) (f : Full) (b : Bucket) → (0 < flag b → full_number b ≢ q) → full_of (set fs q f) b ≡ full_of fs b
full_of-set fs q f b z = go (flag b) z
  where
    go : (m : ℕ) → (0 < m → full_number b ≢ q) → by_mark m empty_full (get_or (set fs q f) (full_number b) empty_full) ≡ by_mark m empty_full (get_or fs (full_number b) empty_full)
    go zero z = refl
    go (suc m) z = get_or-set_other fs q (full_number b) f empty_full (z (zero-lt-suc m))

pub eqb-false : (m n : ℕ) → m ≢ n → eqb m n ≡ false
eqb-false m n z = go (eqb m n) refl
  where
    go : (b : Bool) → eqb m n ≡ b → b ≡ false
    go true e = absurd (z (eqb→eq m n (rw e tt)))
    go false e = refl

pub holds_none : (q : ℕ) (b : Bucket) → (0 < flag b → full_number b ≢ q) → holds_number q b ≡ 0
holds_none q b z = go (flag b) z
  where
    go : (m : ℕ) → (0 < m → full_number b ≢ q) → by_mark m 0 (one_if (eqb (full_number b) q)) ≡ 0
    go zero z = refl
    go (suc m) z = ap one_if (eqb-false (full_number b) q (z (zero-lt-suc m)))

pub holds_one : (q : ℕ) (b : Bucket) → 0 < flag b → full_number b ≡ q → holds_number q b ≡ 1
holds_one q b h e = go (flag b) h
  where
    go : (m : ℕ) → 0 < m → by_mark m 0 (one_if (eqb (full_number b) q)) ≡ 1
    go zero h = absurd (not-suc-le-zero h)
    go (suc m) h = ap one_if (sym (T_true (eqb (full_number b) q) (eq-eqb e)))

pub length_moved : (f : Full) (a v : ℕ) → length f.counts ≡ 64 → length (move_in f a v).counts ≡ 64
unfolding move_in
length_moved f a v n = length-set f.counts a v ∙ n

-- the wall with new buckets, full-size buckets and U
module _ (x : Wall) (s : SoundWall x) (i a d : ℕ) (li : i < buckets_in x.header) (la : a < 64) (pos : 1 ≤ d) (room : x.header.total + d ≤ x.header.limit) where
  abbrev next : ℕ → List Bucket → List Full → Wall
  next u bs fs = wall (with_totals x.header (x.header.total + d) u) bs fs

  abbrev c : ℕ
  c = get_or (counts_at x i) a 0

  abbrev b : Bucket
  b = bucket_at x i

  abbrev w : ℕ
  w = x.header.width

  abbrev rs : List Row
  rs = x.header.rows

  abbrev os : List ℕ
  os = own_at x i

  abbrev vs : List ℕ
  vs = set os a (c + d)

  -- bucket i is as it should be, and the others and their full-size buckets stay
  record Local (u : ℕ) (bs : List Bucket) (fs : List Full) : Type 0 where
    shaped : Shaped (next u bs fs)
    used : u ≡ x.header.used + one_if (overflows x i a (c + d))
    own : bucket_at (next u bs fs) i ≡ own_after x i a (c + d)
    own_full : full_for (next u bs fs) i ≡ full_after x i a (c + d)
    spare : u ≤ x.header.full
    buckets : (k : ℕ) → k < buckets_in x.header → k ≢ i → bucket_at (next u bs fs) k ≡ bucket_at x k
    fulls : (k : ℕ) → k < buckets_in x.header → k ≢ i → full_of fs (bucket_at x k) ≡ full_for x k
    sound : SoundB x.header.width x.header.rows (x.header.total + d) u (bucket_at (next u bs fs) i) (full_for (next u bs fs) i)
    counts : counts_at (next u bs fs) i ≡ set (counts_at x i) a (c + d)
    held : (q : ℕ) → q < u → holders (next u bs fs) q ≡ 1
    zeros : (q : ℕ) → q < x.header.full → u ≤ q → T (is_empty_full (get_or fs q empty_full))
    needed : (flag (bucket_at x i) ≡ 1 → Needed x i) → flag (bucket_at (next u bs fs) i) ≡ 1 → Needed (next u bs fs) i
    flagged : flag (bucket_at (next u bs fs) i) ≡ by_mark (flag (bucket_at x i)) (one_if (no_room x i a (c + d))) (flag (bucket_at x i))

  -- their sum rises by d
  sum-here : sum (set (counts_at x i) a (c + d)) ≡ sum (counts_at x i) + d
  sum-here = omega (arith, sum-set (counts_at x i) a (c + d) (rw length-counts_at la))

  module _ (u : ℕ) (bs : List Bucket) (fs : List Full) (l : Local u bs fs) where
    full-other : (k : ℕ) → k < buckets_in x.header → k ≢ i → full_for (next u bs fs) k ≡ full_for x k
    full-other k h z = ap (full_of fs) (l.buckets k h z) ∙ l.fulls k h z

    other : (k : ℕ) → k < buckets_in x.header → k ≢ i → counts_at (next u bs fs) k ≡ counts_at x k
    unfolding counts_at
    other k h z =
        ap (λ b. bucket_counts (own_counts x.header.width x.header.rows b) (full_of fs b)) (l.buckets k h z)
        ∙ ap (bucket_counts (own_at x k)) (l.fulls k h z)

    sums : all_counts (next u bs fs) ≡ x.header.total + d
    unfolding all_counts
    sums = omega (
      arith,
      sum_change (buckets_in x.header) (λ k. sum (counts_at x k)) (λ k. sum (counts_at (next u bs fs) k)) i li (λ k h z. ap sum (other k h z)),
      ap sum l.counts ∙ sum-here,
      s.sums,
    )

    local : Stepped x i a d (next u bs fs)
    local = record {
      sound = record {
        shaped = l.shaped;
        limits = record {
          fine = s.limits.fine;
          shape_low = s.limits.shape_low;
          shape_high = s.limits.shape_high;
          width_low = s.limits.width_low;
          width_high = s.limits.width_high;
          bits_low = s.limits.bits_low;
          bits_high = s.limits.bits_high;
          limit-low = s.limits.limit-low;
          limit-high = s.limits.limit-high;
          full_most = s.limits.full_most;
          full-number = s.limits.full-number;
          within = omega arith;
          spare_full = l.spare;
          spread-valid = s.limits.spread-valid;
        };
        each = λ k h. by_eq k i
            (λ e. subst (λ n. SoundB x.header.width x.header.rows (x.header.total + d) u (bucket_at (next u bs fs) n) (full_for (next u bs fs) n)) (sym e) l.sound)
            (λ z. subst₂ (λ b f. SoundB x.header.width x.header.rows (x.header.total + d) u b f) (sym (l.buckets k h z)) (sym (full-other k h z))
            (sound_more (x.header.total + d) u (omega arith) (omega (arith, l.used)) (s.each k h)));
        sums = sums;
        held = l.held;
        zeros = l.zeros;
      };
      header = refl;
      here = l.counts;
      there = other;
      flag-here = l.flagged;
      used = l.used;
      own = (l.own, l.own_full);
      others = λ k h z. (l.buckets k h z, full-other k h z);
      needed = λ n k h e. by_eq k i
          (λ z. subst (Needed (next u bs fs)) (sym z) (l.needed (n i li) (ap (λ j. flag (bucket_at (next u bs fs) j)) (sym z) ∙ e)))
          (λ z. subst₂ (λ b f. needed_from x.header.width x.header.rows (own_counts x.header.width x.header.rows b) f) (sym (l.buckets k h z)) (sym (full-other k h z))
          (n k h (ap flag (sym (l.buckets k h z)) ∙ e)));
    }

  -- ---- the three cases

  at_here : (b' : Bucket) → get_or (set x.buckets i b') i (empty_bucket w rs) ≡ b'
  at_here = own.at_here x s.shaped s.limits i a d li la (s.each i li) room

  at_other : (b' : Bucket) (k : ℕ) → k ≢ i → get_or (set x.buckets i b') k (empty_bucket w rs) ≡ bucket_at x k
  at_other b' k z = get_or-set_other x.buckets i k b' (empty_bucket w rs) z

  -- U rises by one exactly where the bucket overflows
  used-by : (m : ℕ) {u : ℕ} {t : Bool} → flag b ≡ m → no_room x i a (c + d) ≡ t → u ≡ x.header.used + one_if (by_mark m t false) → u ≡ x.header.used + one_if (overflows x i a (c + d))
  used-by m e t z = z ∙ ap₂ (λ m t. x.header.used + one_if (by_mark m t false)) (sym e) (sym t)

  own-by : (m : ℕ) {t : Bool} {b' : Bucket} → flag b ≡ m → no_room x i a (c + d) ≡ t → b' ≡ by_mark m (choose t (overflowed b x.header.used) (holding w rs vs)) b → b' ≡ own_after x i a (c + d)
  unfolding own_after
  own-by m e t z = z ∙ ap₂ (λ m t. by_mark m (choose t (overflowed b x.header.used) (holding w rs vs)) b) (sym e) (sym t)

  full_by : (m : ℕ) {t : Bool} {f : Full} → flag b ≡ m → no_room x i a (c + d) ≡ t → f ≡ by_mark m (choose t (move_in empty_full a (c + d)) empty_full) (move_in (full_for x i) a (c + d)) → f ≡ full_after x i a (c + d)
  unfolding full_after
  full_by m e t z = z ∙ ap₂ (λ m t. by_mark m (choose t (move_in empty_full a (c + d)) empty_full) (move_in (full_for x i) a (c + d))) (sym e) (sym t)

  most_here : sum (set (counts_at x i) a (c + d)) ≤ x.header.total + d
  most_here = own.most_here x s.shaped s.limits i a d li la (s.each i li) room

  module _ (e : flag b ≡ 0) where
    none : full_for x i ≡ empty_full
    none = own.none x s.shaped s.limits i a d li la (s.each i li) room e

    counts-own : counts_at x i ≡ os
    counts-own = own.counts-own x s.shaped s.limits i a d li la (s.each i li) room e

    sum_vs : sum vs ≤ x.header.total + d
    sum_vs = own.sum_vs x s.shaped s.limits i a d li la (s.each i li) room e

    length_vs : length vs ≡ 64
    length_vs = own.length_vs x s.shaped s.limits i a d li la (s.each i li) room e

    no_flag : {A : Type 0} (p q : A) → by_mark (flag b) p q ≡ p
    no_flag p q = ap (λ m. by_mark m p q) e

    no_number : 0 < flag b → ⊥
    no_number h = omega (arith, e)

    module _ (t : no_room x i a (c + d) ≡ false) where
      fits_vs : Fits (all_rows w rs) vs
      fits_vs = own.fits_vs x s.shaped s.limits i a d li la (s.each i li) room e t

      abbrev kept : Bucket
      kept = holding w rs vs

      fine : Fine rs
      fine = s.limits.fine

      kept-flag : flag kept ≡ 0
      kept-flag = hold_flag w rs fine vs fits_vs length_vs

      kept-none : full_of x.fulls kept ≡ empty_full
      kept-none = ap (λ m. by_mark m empty_full (get_or x.fulls (full_number kept) empty_full)) kept-flag

      held_holders : (q : ℕ) → holders (next x.header.used (set x.buckets i kept) x.fulls) q ≡ holders x q
      unfolding holders
      held_holders q = ap sum (tab_ext (buckets_in x.header) (λ k. holds_number q (get_or (set x.buckets i kept) k (empty_bucket w rs))) (λ k. holds_number q (bucket_at x k)) (λ k h.
          by_eq k i
          (λ z. ap (λ n. holds_number q (get_or (set x.buckets i kept) n (empty_bucket w rs))) z ∙ ap (holds_number q) (at_here kept) ∙ holds_none q kept (λ y. absurd (omega (arith, kept-flag)))
          ∙ sym (ap (λ n. holds_number q (bucket_at x n)) z ∙ holds_none q b (λ y. absurd (no_number y))))
          (λ z. ap (holds_number q) (at_other kept k z))))

      held_local : Local x.header.used (set x.buckets i kept) x.fulls
      held_local = record {
        shaped = (own.kept_held x s.shaped s.limits i a d li la (s.each i li) room e t).shaped;
        used = used-by 0 e t (sym (add-zero x.header.used));
        own = own-by 0 e t (at_here kept);
        own_full = full_by 0 e t (ap (full_of x.fulls) (at_here kept) ∙ kept-none);
        spare = s.limits.spare_full;
        buckets = λ k h z. at_other kept k z;
        fulls = λ k h z. refl;
        sound = subst₂ (λ b f. SoundB w rs (x.header.total + d) x.header.used b f) (sym (at_here kept)) (sym (ap (full_of x.fulls) (at_here kept) ∙ kept-none))
            (sound_hold w rs fine vs fits_vs length_vs (x.header.total + d) x.header.used sum_vs);
        counts = (own.kept_held x s.shaped s.limits i a d li la (s.each i li) room e t).counts;
        held = λ q h. held_holders q ∙ s.held q h;
        zeros = s.zeros;
        needed = λ n z. absurd (omega (arith, z, ap flag (at_here kept) ∙ kept-flag));
        flagged = ap flag (at_here kept) ∙ kept-flag ∙ sym (no_flag (one_if (no_room x i a (c + d))) (flag b) ∙ ap one_if t);
      }

    module _ (t : no_room x i a (c + d) ≡ true) (free : x.header.used < x.header.full) where
      abbrev u : ℕ
      u = x.header.used

      abbrev moved : Full
      moved = move_in empty_full a (c + d)

      abbrev over : Bucket
      over = overflowed b u

      abbrev bs : List Bucket
      bs = set x.buckets i over

      abbrev fs : List Full
      fs = set x.fulls u moved

      len0 : length empty_full.counts ≡ 64
      len0 = length-replicate {A = ℕ} 64 0

      over_full : full_of fs over ≡ moved
      over_full = own.over_full x s.shaped s.limits i a d li la (s.each i li) room e free

      others : (k : ℕ) → k < buckets_in x.header → 0 < flag (bucket_at x k) → full_number (bucket_at x k) ≢ u
      others k h p z = omega (arith, number_lt (s.each k h) p)

      number_over : (q : ℕ) → holders (next (u + 1) bs fs) q ≡ holders x q + holds_number q over
      unfolding holders
      number_over q = omega (
        arith,
        sum_change (buckets_in x.header) (λ k. holds_number q (bucket_at x k)) (λ k. holds_number q (get_or bs k (empty_bucket w rs))) i li (λ k h z. ap (holds_number q) (at_other over k z)),
        holds_none q b (λ y. absurd (no_number y)),
        ap (holds_number q) (at_here over),
      )

      none_yet : holders x u ≡ 0
      unfolding holders
      none_yet = sum-zero (buckets_in x.header) (λ k. holds_number u (bucket_at x k)) (λ k h. holds_none u (bucket_at x k) (others k h))

      over_held : (q : ℕ) → q < u + 1 → holders (next (u + 1) bs fs) q ≡ 1
      over_held q h = by_eq q u
          (λ z. subst (λ n. holders (next (u + 1) bs fs) n ≡ 1) (sym z) (number_over u ∙ ap₂ ◌+◌ none_yet (holds_one u over (omega (arith, over_flag b u)) (over_number b u))))
          (λ z. number_over q ∙ ap₂ ◌+◌ (s.held q (omega arith)) (holds_none q over (λ p y. z (sym y ∙ over_number b u))))

      own_below : get_or os a 0 < c + d
      own_below = omega (arith, ap (λ l. get_or l a 0) counts-own)

      own_room : T (not (crowded w rs os))
      own_room = ((bucket-fits (row 64 w) rs os (le_of_eq (length-own w rs b))).0 (own-fits w rs b (s.each i li).levels)).0

      no-room : T (crowded w rs vs)
      unfolding no_room
      no-room = subst T (sym t) tt

      over_needed : Needed (next (u + 1) bs fs) i
      over_needed =
          subst₂ (needed_from w rs) (sym (ap (own_counts w rs) (at_here over) ∙ over_own b u w rs)) (sym (ap (full_of fs) (at_here over) ∙ over_full))
          (need_new w rs os a (c + d) moved (length-own w rs b) la own_room no-room (moved_here empty_full a (c + d) la len0) (full-here empty_full a (c + d) la len0))

      over_local : Local (u + 1) bs fs
      over_local = record {
        shaped = (own.kept_over x s.shaped s.limits i a d li la (s.each i li) room e free).shaped;
        used = used-by 0 e t refl;
        own = own-by 0 e t (at_here over);
        own_full = full_by 0 e t (ap (full_of fs) (at_here over) ∙ over_full);
        spare = omega arith;
        buckets = λ k h z. at_other over k z;
        fulls = λ k h z. full_of-set x.fulls u moved (bucket_at x k) (others k h);
        sound = subst₂ (λ b f. SoundB w rs (x.header.total + d) (u + 1) b f) (sym (at_here over)) (sym (ap (full_of fs) (at_here over) ∙ over_full))
            (sound_over w rs x.header.total u (x.header.total + d) b (subst (SoundB w rs x.header.total u b) none (s.each i li)) a (c + d) la own_below sum_vs);
        counts = (own.kept_over x s.shaped s.limits i a d li la (s.each i li) room e free).counts;
        held = over_held;
        zeros = λ q h k. subst (λ f. T (is_empty_full f)) (sym (get_or-set_other x.fulls u q moved empty_full (λ z. omega arith))) (s.zeros q h (omega arith));
        needed = λ _ _. over_needed;
        flagged = ap flag (at_here over) ∙ over_flag b u ∙ sym (no_flag (one_if (no_room x i a (c + d))) (flag b) ∙ ap one_if t);
      }

  module _ (m : ℕ) (e : flag b ≡ suc m) where
    abbrev n : ℕ
    n = full_number b

    abbrev f : Full
    f = full_for x i

    abbrev raised : Full
    raised = move_in f a (c + d)

    abbrev fs' : List Full
    fs' = set x.fulls n raised

    n_lt : n < x.header.used
    n_lt = own.n_lt x s.shaped s.limits i a d li la (s.each i li) room m e

    len_f : length f.counts ≡ 64
    len_f = own.len_f x s.shaped s.limits i a d li la (s.each i li) room m e

    raised-full : full_of fs' b ≡ raised
    raised-full = own.raised-full x s.shaped s.limits i a d li la (s.each i li) room m e

    apart : (k : ℕ) → k < buckets_in x.header → k ≢ i → 0 < flag (bucket_at x k) → full_number (bucket_at x k) ≢ n
    unfolding holders
    apart k h z p y = omega (
      arith,
      sum_two (buckets_in x.header) (λ j. holds_number n (bucket_at x j)) k i h li z,
      s.held n n_lt,
      holds_one n (bucket_at x k) p y,
      holds_one n b (omega (arith, e)) refl,
    )

    same_holders : (q : ℕ) → holders (next x.header.used x.buckets fs') q ≡ holders x q
    unfolding holders
    same_holders q = refl

    raised-sound : SoundB w rs (x.header.total + d) x.header.used b raised
    unfolding counts_at
    raised-sound = sound-moved w rs x.header.total x.header.used (x.header.total + d) b f (s.each i li) a (c + d) la len_f (omega arith) most_here

    raised-needed : Needed x i → Needed (next x.header.used x.buckets fs') i
    unfolding counts_at
    raised-needed z = subst (needed_from w rs os) (sym raised-full) (need_kept w rs os f raised (moved_rises os f a (c + d) la len_f (omega arith)) z)

    raised_local : Local x.header.used x.buckets fs'
    raised_local = record {
      shaped = (own.kept-raised x s.shaped s.limits i a d li la (s.each i li) room m e).shaped;
      used = used-by (suc m) e refl (sym (add-zero x.header.used));
      own = own-by (suc m) e refl refl;
      own_full = full_by (suc m) e refl raised-full;
      spare = s.limits.spare_full;
      buckets = λ k h z. refl;
      fulls = λ k h z. full_of-set x.fulls n raised (bucket_at x k) (apart k h z);
      sound = subst (SoundB w rs (x.header.total + d) x.header.used b) (sym raised-full) raised-sound;
      counts = (own.kept-raised x s.shaped s.limits i a d li la (s.each i li) room m e).counts;
      held = λ q h. same_holders q ∙ s.held q h;
      zeros = λ q h k. subst (λ f. T (is_empty_full f)) (sym (get_or-set_other x.fulls n q raised empty_full (λ z. omega (arith, n_lt)))) (s.zeros q h k);
      needed = λ n z. raised-needed (n z);
      flagged = sym (ap (λ k. by_mark k (one_if (no_room x i a (c + d))) (flag b)) e);
    }

  -- ---- together: where the bucket need not overflow, or a full-size bucket is left

  pub step-sound : (flag b ≡ 0 → no_room x i a (c + d) ≡ true → x.header.used < x.header.full) → Stepped x i a d (step x i a (c + d) (x.header.total + d))
  unfolding step
  step-sound free = go (flag b) refl (no_room x i a (c + d)) refl
    where
      go : (m : ℕ) → flag b ≡ m → (t : Bool) → no_room x i a (c + d) ≡ t → Stepped x i a d (by_mark m
          (choose t
          (next (x.header.used + 1) (set x.buckets i (overflowed b x.header.used)) (set x.fulls x.header.used (move_in empty_full a (c + d))))
          (next x.header.used (set x.buckets i (holding w rs vs)) x.fulls))
          (next x.header.used x.buckets (set x.fulls (full_number b) (move_in (full_for x i) a (c + d)))))
      go zero e true t = local (x.header.used + 1) _ _ (over_local e t (free e t))
      go zero e false t = local x.header.used _ _ (held_local e t)
      go (suc m) e t z = local x.header.used _ _ (raised_local m e)
