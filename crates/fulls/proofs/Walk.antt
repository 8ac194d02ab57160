-- The walk over the moved places, as the code goes: m has the marks of those still ahead.
use mathlib.Core.Path.{◌≡◌, sym, ap, ◌∙◌}
use mathlib.Core.List.{List}
use Prim.Native.Nat.{ℕ, ◌+◌, ◌-◌, ◌*◌, ◌/◌, ◌^◌, ◌≤◌, ◌<◌, zero-le}
use native.Mathlib.Nat.{div-one, mul-one, le_refl}
use native.Mathlib.Omega.{arith}
use lib.ListN.{length, get_or}
use Rattle.std.specs.Prelude.{Option, Some, None}
use Rattle.model.specs.Lists.{sum, all}
use Rattle.model.specs.Packed.{bit, rank}
use Rattle.model.specs.Sound.{moved_at, bucket_counts, sound_place}
use Rattle.uppers.specs.Judge.{verdict}
use Rattle.moves.specs.Full.{full_at}
use Rattle.moves.proofs.Fulls.{full-moved}
use Rattle.fulls.specs.Fulls.{full_tests, gained, zero_places}
use Rattle.fulls.proofs.Gains.{Walked, none_walked, unmoved_walked, gains_over, one_walked, all_walked}
use Rattle.fulls.proofs.Marks.{Lowest, none_left, passed, between, taken}

-- some are behind, as many as past says, and s is what the total leaves
pub record Going (os ws : List ℕ) (at total m s : ℕ) : Type 0 where
  pub past : ℕ
  pub few : past ≤ 64
  pub marks : m ≡ get_or ws at 0 / 2 ^ past * 2 ^ past
  pub walked : Walked os (full_at ws at) total past s

module _ (os ws : List ℕ) (at total : ℕ) (long : length os ≡ 64) where
  abbrev pub said : Option ℕ
  said = verdict (all (full_tests os (full_at ws at) total)) (sum (bucket_counts os (full_at ws at)))

  -- a mark of the word is one of the model
  flag : (i : ℕ) → bit (get_or ws at 0) i ≡ 0 → moved_at (full_at ws at) i ≡ 0
  flag i e = ap (λ x. bit x i) (full-moved ws at) ∙ e

  pub at-start : (own : ℕ) → own ≡ sum os → own ≤ total → Going os ws at total (get_or ws at 0) (total - own)
  at-start own e h = record { past = 0; few = zero-le; marks = sym (mul-one (get_or ws at 0 / 1) ∙ div-one (get_or ws at 0)); walked = none_walked os (full_at ws at) total long own e h }

  module _ (m s t : ℕ) (q : Going os ws at total m s) (l : Lowest 64 m t) where
    to_place : Walked os (full_at ws at) total t s
    to_place =
        unmoved_walked os (full_at ws at) total long q.past t s (passed (get_or ws at 0) q.past m q.marks 64 t l) (omega (arith, l.within))
        (λ i h k. flag i (between (get_or ws at 0) q.past m q.marks 64 t l i h k)) q.walked

    module _ (c : ℕ) (e : verdict (sound_place os (full_at ws at) t) (gained os (full_at ws at) t) ≡ Some c) where
      pub over : s < c → None ≡ said
      over = gains_over os (full_at ws at) total long t s c l.within to_place e

      pub one_behind : c ≤ s → Going os ws at total (m - 2 ^ t) (s - c)
      one_behind h = record {
        past = t + 1;
        few = omega (arith, l.within);
        marks = taken (get_or ws at 0) q.past m q.marks 64 t l;
        walked = one_walked os (full_at ws at) total long t s c l.within to_place e h;
      }

  pub at-end : (m s : ℕ) → m ≡ 0 → 1 ≤ rank (full_at ws at).moved 64 → 64 ≤ zero_places (full_at ws at) 64 + rank (full_at ws at).moved 64
      → Going os ws at total m s → (s ≤ total) × (Some (total - s) ≡ said)
  at-end m s z h n q =
      all_walked os (full_at ws at) total long s h n
      (unmoved_walked os (full_at ws at) total long q.past 64 s q.few (le_refl 64) (λ i k j. flag i (none_left (get_or ws at 0) q.past m q.marks z i k)) q.walked)
