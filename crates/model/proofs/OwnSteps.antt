-- A step of a wall of which only the own bucket is known to be sound: the wall is shaped as before, and the one count rises.
use mathlib.Core.Path.{◌≡◌, sym, ap, ap₂, ◌∙◌, subst}
use mathlib.Core.Bool.{false, not}
use mathlib.Core.List.{List}
use Prim.Native.Nat.{ℕ, zero, suc, ◌+◌, ◌≤◌, ◌<◌}
use native.Mathlib.Nat.{le_of_eq, not-suc-le-zero}
use native.Mathlib.Omega.{arith}
use lib.Dec.{T, ltb, eqb, ltb→lt}
use lib.ListN.{length, get_or, set, length-set, length-replicate, length-map}
use lib.Seq.{get_or-set_same}
use Rattle.model.specs.Lists.{sum, by_mark}
use Rattle.model.specs.Shapes.{Row, row, all_rows}
use Rattle.model.specs.Levels.{onward, Level, encode}
use Rattle.model.specs.Walls.{Bucket, Full, Wall, wall, buckets_in, count_end, with_totals, empty_bucket, empty_full}
use Rattle.model.specs.Sound.{flag, full_number, own_counts, full_of, bucket_counts, bucket_at, own_at, full_for, counts_at}
use Rattle.model.specs.Calls.{no_room, holding, overflowed, move_in}
use Rattle.model.proofs.Packing.{length-unpack}
use Rattle.model.proofs.Coding.{Fits}
use Rattle.model.proofs.Crowding.{at_least-sum, bucket-fits}
use Rattle.model.proofs.Tools.{each_set, each_at}
use Rattle.model.proofs.Headers.{Limits}
use Rattle.model.proofs.Parsing.{Shaped, Lengths}
use Rattle.model.proofs.Sums.{sum-set}
use Rattle.model.proofs.Buckets.{SoundB, length-own, length-counts, counts-none, counts-moved, own_hold, hold_flag, over_flag, over_number, over_own, length-encode, moved_length}

pub length-counts_at : (x : Wall) (k : ℕ) → length (counts_at x k) ≡ 64
unfolding counts_at
length-counts_at x k = length-counts (own_at x k) (full_for x k)

pub number_lt : {w : ℕ} {rs : List Row} {t u : ℕ} {b : Bucket} {f : Full} → SoundB w rs t u b f → 0 < flag b → full_number b < u
number_lt {u = u} {b = b} s h = go (flag b) h s.number
  where
    go : (m : ℕ) → 0 < m → T (by_mark m (eqb (full_number b) 0) (ltb (full_number b) u)) → full_number b < u
    go zero h t = absurd (not-suc-le-zero h)
    go (suc m) h t = ltb→lt (full_number b) u t

pub hold_lengths : (w : ℕ) (rs : List Row) (vs : List ℕ) → Lengths w (length rs) (holding w rs vs)
unfolding holding encode
hold_lengths w rs vs = record { first = length-unpack 64 w _; uppers = length-map (encode rs (onward w vs)) (λ (x : Level). x.cells) ∙ length-encode rs (onward w vs) }

pub over_lengths : (w n : ℕ) (b : Bucket) (q : ℕ) → Lengths w n b → Lengths w n (overflowed b q)
unfolding overflowed
over_lengths w n b q l = record { first = l.first; uppers = l.uppers }

pub empty_lengths : (w : ℕ) (rs : List Row) → Lengths w (length rs) (empty_bucket w rs)
empty_lengths w rs = record { first = length-replicate w 0; uppers = length-replicate (length rs) 0 }

-- of the wall y after the step: place a of bucket i has d more
pub record Kept (x : Wall) (i a d : ℕ) (y : Wall) : Type 0 where
  pub shaped : Shaped y
  pub counts : counts_at y i ≡ set (counts_at x i) a (get_or (counts_at x i) a 0 + d)

module _ (x : Wall) (sh : Shaped x) (l : Limits x.header) (i a d : ℕ) (li : i < buckets_in x.header) (la : a < 64)
    (s : SoundB x.header.width x.header.rows x.header.total x.header.used (bucket_at x i) (full_for x i)) (room : x.header.total + d ≤ x.header.limit) where
  abbrev next : ℕ → List Bucket → List Full → Wall
  next u bs fs = wall (with_totals x.header (x.header.total + d) u) bs fs

  abbrev c : ℕ
  c = get_or (counts_at x i) a 0

  abbrev b : Bucket
  b = bucket_at x i

  abbrev w : ℕ
  w = x.header.width

  abbrev rs : List Row
  rs = x.header.rows

  abbrev os : List ℕ
  os = own_at x i

  abbrev vs : List ℕ
  vs = set os a (c + d)

  pub at_here : (b' : Bucket) → get_or (set x.buckets i b') i (empty_bucket w rs) ≡ b'
  at_here b' = get_or-set_same x.buckets i b' (empty_bucket w rs) (rw sh.buckets-number li)

  pub most_here : sum (set (counts_at x i) a (c + d)) ≤ x.header.total + d
  unfolding counts_at
  most_here = omega (arith, sum-set (counts_at x i) a (c + d) (rw length-counts_at la), s.most)

  -- ---- without the flag

  module _ (e : flag b ≡ 0) where
    pub none : full_for x i ≡ empty_full
    none = ap (λ m. by_mark m empty_full (get_or x.fulls (full_number b) empty_full)) e

    pub counts-own : counts_at x i ≡ os
    unfolding counts_at
    counts-own = ap (bucket_counts os) none ∙ counts-none os (length-own w rs b)

    pub sum_vs : sum vs ≤ x.header.total + d
    sum_vs = subst (λ k. sum (set k a (c + d)) ≤ x.header.total + d) counts-own most_here

    pub length_vs : length vs ≡ 64
    length_vs = length-set os a (c + d) ∙ length-own w rs b

    -- its levels hold the new count
    module _ (t : no_room x i a (c + d) ≡ false) where
      pub fits_vs : Fits (all_rows w rs) vs
      unfolding no_room
      fits_vs = (bucket-fits (row 64 w) rs vs (le_of_eq length_vs)).1 (subst (λ z. T (not z)) (sym t) tt, at_least-sum (count_end x.header) vs (omega (arith, sum_vs, l.limit-high)))

      abbrev holds : Bucket
      holds = holding w rs vs

      held_none : full_of x.fulls holds ≡ empty_full
      held_none = ap (λ m. by_mark m empty_full (get_or x.fulls (full_number holds) empty_full)) (hold_flag w rs l.fine vs fits_vs length_vs)

      held_counts : counts_at (next x.header.used (set x.buckets i holds) x.fulls) i ≡ set (counts_at x i) a (c + d)
      unfolding counts_at
      held_counts =
          ap (λ b. bucket_counts (own_counts w rs b) (full_of x.fulls b)) (at_here holds) ∙ ap (bucket_counts (own_counts w rs holds)) held_none
          ∙ counts-none (own_counts w rs holds) (length-own w rs holds) ∙ own_hold w rs l.fine vs fits_vs length_vs ∙ ap (λ k. set k a (c + d)) (sym counts-own)

      pub kept_held : Kept x i a d (next x.header.used (set x.buckets i holds) x.fulls)
      kept_held = record {
        shaped = record {
          buckets-number = length-set x.buckets i holds ∙ sh.buckets-number;
          fulls-number = sh.fulls-number;
          buckets = each_set (Lengths w (length rs)) x.buckets i holds sh.buckets (hold_lengths w rs vs);
          fulls = sh.fulls;
        };
        counts = held_counts;
      }

    -- it overflows
    module _ (free : x.header.used < x.header.full) where
      abbrev u : ℕ
      u = x.header.used

      abbrev moved : Full
      moved = move_in empty_full a (c + d)

      abbrev over : Bucket
      over = overflowed b u

      abbrev bs : List Bucket
      bs = set x.buckets i over

      abbrev fs : List Full
      fs = set x.fulls u moved

      len0 : length empty_full.counts ≡ 64
      len0 = length-replicate {A = ℕ} 64 0

      pub over_full : full_of fs over ≡ moved
      over_full = ap₂ (λ m n. by_mark m empty_full (get_or fs n empty_full)) (over_flag b u) (over_number b u) ∙ get_or-set_same x.fulls u moved empty_full (rw sh.fulls-number free)

      over_counts : counts_at (next (u + 1) bs fs) i ≡ set (counts_at x i) a (c + d)
      unfolding counts_at
      over_counts =
          ap (λ b. bucket_counts (own_counts w rs b) (full_of fs b)) (at_here over) ∙ ap₂ bucket_counts (over_own b u w rs) over_full
          ∙ counts-moved empty_full a (c + d) la len0 os ∙ ap (λ f. set (bucket_counts os f) a (c + d)) (sym none)

      pub kept_over : Kept x i a d (next (u + 1) bs fs)
      kept_over = record {
        shaped = record {
          buckets-number = length-set x.buckets i over ∙ sh.buckets-number;
          fulls-number = length-set x.fulls u moved ∙ sh.fulls-number;
          buckets = each_set (Lengths w (length rs)) x.buckets i over sh.buckets
              (over_lengths w (length rs) b u (each_at (Lengths w (length rs)) x.buckets i (empty_bucket w rs) sh.buckets (empty_lengths w rs)));
          fulls = each_set (λ (f : Full). length f.counts ≡ 64) x.fulls u moved sh.fulls (moved_length empty_full a (c + d) la len0);
        };
        counts = over_counts;
      }

  -- ---- with the flag: its full-size bucket takes the count

  module _ (m : ℕ) (e : flag b ≡ suc m) where
    abbrev n : ℕ
    n = full_number b

    abbrev raised : Full
    raised = move_in (full_for x i) a (c + d)

    abbrev fs' : List Full
    fs' = set x.fulls n raised

    pub n_lt : n < x.header.used
    n_lt = number_lt s (omega (arith, e))

    pub len_f : length (full_for x i).counts ≡ 64
    len_f = subst (λ k. length (by_mark k empty_full (get_or x.fulls n empty_full)).counts ≡ 64) (sym e)
        (each_at (λ (f : Full). length f.counts ≡ 64) x.fulls n empty_full sh.fulls (length-replicate {A = ℕ} 64 0))

    pub raised-full : full_of fs' b ≡ raised
    raised-full = ap (λ k. by_mark k empty_full (get_or fs' n empty_full)) e ∙ get_or-set_same x.fulls n raised empty_full (rw sh.fulls-number (omega (arith, n_lt, l.spare_full)))

    raised-counts : counts_at (next x.header.used x.buckets fs') i ≡ set (counts_at x i) a (c + d)
    unfolding counts_at
    raised-counts = ap (bucket_counts os) raised-full ∙ counts-moved (full_for x i) a (c + d) la len_f os

    pub kept-raised : Kept x i a d (next x.header.used x.buckets fs')
    kept-raised = record {
      shaped = record {
        buckets-number = sh.buckets-number;
        fulls-number = length-set x.fulls n raised ∙ sh.fulls-number;
        buckets = sh.buckets;
        fulls = each_set (λ (f : Full). length f.counts ≡ 64) x.fulls n raised sh.fulls (moved_length (full_for x i) a (c + d) la len_f);
      };
      counts = raised-counts;
    }
