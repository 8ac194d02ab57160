-- Bits of one word of b bits: where a read ends, and that a store stays within the word. Every law is for any widths.
use mathlib.Core.Path.{◌≡◌, sym}
use Prim.Native.Nat.{ℕ, ◌+◌, ◌-◌, ◌*◌, ◌/◌, ◌%◌, ◌^◌, ◌≤◌, ◌<◌}
use native.Mathlib.Nat.{mod-lt, add-mul, div-eq_of_lt, zero-mod, lt_of_lt_of_le}
use native.Mathlib.Omega.{arith}
use lib.Arith.{digits_lt}
use lib.Pow.{pow-add, pow_mono, pow_pos, shr_lt, split}
use lib.Count.{ones-le}
use Rattle.model.specs.Packed.{entry, put_in, rank, replaced}
use Rattle.model.proofs.Packing.{rank-ones}
use Rattle.model.proofs.AcrossWords.{put_adds}

-- past the word there is nothing
pub entry_past : (b w x a : ℕ) → x < 2 ^ b → b ≤ w * a → 0 ≡ entry w x a
entry_past b w x a h l =
    let e : x < 2 ^ (w * a) = lt_of_lt_of_le h (pow_mono l) in
    rw (div-eq_of_lt e) (sym (zero-mod (2 ^ w)))

pub rank_le : (x a : ℕ) → rank x a ≤ a
rank_le x a = rw (← rank-ones x a) (ones-le a (x % 2 ^ a) (mod-lt x (pow_pos a)))

-- ---- a field of k bits from bit s on, j bits above it: the bound of both stores

joined_lt : (hi v lo j k s b : ℕ) → j + k + s ≡ b → hi < 2 ^ j → v < 2 ^ k → lo < 2 ^ s → (hi * 2 ^ k + v) * 2 ^ s + lo < 2 ^ b
joined_lt hi v lo j k s b e h u l = rw (← e, pow-add, pow-add) (digits_lt (digits_lt h u) l)

pub put_in_lt : (b w x a v : ℕ) → x < 2 ^ (b - w) → w * a + w ≤ b → v < 2 ^ w → put_in w x a v < 2 ^ b
put_in_lt b w x a v h l k =
    let j : ℕ = b - (w * a + w) in
    let e : j + w * a ≡ b - w = omega arith in
    joined_lt (x / 2 ^ (w * a)) v (x % 2 ^ (w * a)) j w (w * a) b (omega arith) (shr_lt j (w * a) (rw e h)) k (mod-lt x (pow_pos (w * a)))

module _ (x s k : ℕ) where
  field_parts : x / 2 ^ s / 2 ^ k * 2 ^ k * 2 ^ s + x / 2 ^ s % 2 ^ k * 2 ^ s + x % 2 ^ s ≡ x
  field_parts = rw (← add-mul, split (x / 2 ^ s) k) (split x s)

  -- what a store takes away is there
  pub field_le : x / 2 ^ s % 2 ^ k * 2 ^ s ≤ x
  field_le = omega (arith, field_parts)

  pub field_lt : (b u : ℕ) → x < 2 ^ b → s + k ≤ b → u < 2 ^ k → x - x / 2 ^ s % 2 ^ k * 2 ^ s + u * 2 ^ s < 2 ^ b
  field_lt b u h l hu =
      let j : ℕ = b - (s + k) in
      let e : j + k + s ≡ b = omega arith in
      let t = joined_lt (x / 2 ^ s / 2 ^ k) u (x % 2 ^ s) j k s b e (shr_lt j k (shr_lt (j + k) s (rw e h))) hu (mod-lt x (pow_pos s)) in
      omega (arith, field_parts, rw add-mul at t)

pub replaced_lt : (b w x a v : ℕ) → x < 2 ^ b → w * a + w ≤ b → v < 2 ^ w → replaced w x a v < 2 ^ b
replaced_lt b w x a v h l k = omega (arith, put_adds w x a v, field_le x (w * a) w, field_lt x (w * a) w b v h l k)
