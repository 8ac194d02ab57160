-- What code that steps the levels in place has to show: the bucket with one more at one place, and its room.
use mathlib.Core.Logic.{◌↔◌}
use mathlib.Core.Path.{◌≡◌, sym, ap, ap₂, ◌∙◌, subst, subst₂}
use mathlib.Core.Bool.{not}
use mathlib.Core.List.{List}
use Prim.Native.Nat.{ℕ, ◌+◌, ◌^◌, ◌<◌}
use native.Mathlib.Nat.{le_of_eq}
use native.Mathlib.Omega.{arith}
use lib.Dec.{T}
use lib.ListN.{length, get_or, set, length-set}
use Rattle.model.specs.Lists.{sum}
use Rattle.model.specs.Packed.{pack, unpack}
use Rattle.model.specs.Shapes.{Row, counter_bits, row, all_rows}
use Rattle.model.specs.Levels.{crowded}
use Rattle.model.specs.Growing.{incremented, has_room}
use Rattle.model.specs.Walls.{Bucket}
use Rattle.model.specs.Sound.{levels_of, own_counts}
use Rattle.model.specs.Calls.{from_levels, holding}
use Rattle.model.proofs.Lists.{Below}
use Rattle.model.proofs.Packing.{unpack-pack}
use Rattle.model.proofs.Coding.{Fits, Sound}
use Rattle.model.proofs.Crowding.{at_least-sum, bucket-fits}
use Rattle.model.proofs.Growth.{Wide, bump_encode, room_fits}
use Rattle.model.proofs.Sums.{sum-set}
use Rattle.model.proofs.Buckets.{own-fits, own_coded, length-own}

module _ (w : ℕ) (rs : List Row) (wide : Wide (all_rows w rs)) (b : Bucket) (s : Sound 0 (all_rows w rs) 64 (levels_of rs b)) (a : ℕ) (la : a < 64) where
  abbrev os : List ℕ
  os = own_counts w rs b

  in_own : a < length os
  in_own = subst (λ n. a < n) (sym (length-own w rs b)) la

  -- the carry walk gives the levels of the counts with one more at one place
  pub bump_hold : from_levels w rs (incremented (all_rows w rs) (levels_of rs b) a) 0 0 ≡ holding w rs (set os a (get_or os a 0 + 1))
  unfolding holding
  bump_hold = ap (λ ls. from_levels w rs ls 0 0) (ap (λ ls. incremented (all_rows w rs) ls a) (sym (own_coded w rs b s)) ∙ bump_encode (all_rows w rs) os a wide in_own)

  -- and it has room exactly where these are not crowded
  pub room-crowded : sum os + 1 < 2 ^ counter_bits w rs → T (has_room (all_rows w rs) 64 (levels_of rs b) a) ↔ T (not (crowded w rs (set os a (get_or os a 0 + 1))))
  room-crowded h =
      let r : T (has_room (all_rows w rs) 64 (levels_of rs b) a) ↔ Fits (all_rows w rs) (set os a (get_or os a 0 + 1)) =
      subst₂ (λ n ls. T (has_room (all_rows w rs) n ls a) ↔ Fits (all_rows w rs) (set os a (get_or os a 0 + 1))) (length-own w rs b) (own_coded w rs b s) (room_fits (all_rows w rs) os a wide (own-fits w rs b s) in_own) in
      let l : length (set os a (get_or os a 0 + 1)) ≡ 64 = length-set os a (get_or os a 0 + 1) ∙ length-own w rs b in
      let f = bucket-fits (row 64 w) rs (set os a (get_or os a 0 + 1)) (le_of_eq l) in (
        (λ t. (f.0 (r.0 t)).0),
        (λ t. r.1 (f.1 (t, at_least-sum (2 ^ counter_bits w rs) (set os a (get_or os a 0 + 1)) (omega (arith, sum-set os a (get_or os a 0 + 1) in_own))))),
      )

-- the words of level 1 are those of its cells
pub first-words : (ws : List ℕ) (w c : ℕ) → Below (2 ^ 64) ws → length ws ≡ w → pack 64 ws ≡ c → unpack 64 w c ≡ ws
first-words ws w c h n e = ap₂ (unpack 64) (sym n) (sym e) ∙ unpack-pack 64 ws h
