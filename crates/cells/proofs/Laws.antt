-- An entry of w bits of the words from one on, read in one word or across two.
use mathlib.Core.Path.{◌≡◌}
use mathlib.Core.List.{List}
use Prim.Native.Nat.{ℕ, ◌+◌, ◌*◌, ◌/◌, ◌%◌, ◌^◌, ◌≤◌, ◌<◌}
use native.Mathlib.Nat.{mod-lt, lt_of_lt_of_le, add_assoc}
use native.Mathlib.Omega.{arith}
use lib.ListN.{get_or, drop}
use lib.Seq.{get_or-drop}
use lib.Pow.{pow_pos, pow_mono}
use Rattle.model.specs.Packed.{pack, entry}
use Rattle.cells.proofs.Crossing.{entry_one, entry_two}

pub entry_lt : (w x a : ℕ) → entry w x a < 2 ^ w
entry_lt w x a = mod-lt (x / 2 ^ (w * a)) (pow_pos w)

pub entry-word : (w x a : ℕ) → w < 64 → entry w x a < 2 ^ 64
entry-word w x a h = lt_of_lt_of_le (entry_lt w x a) (pow_mono {i = w} {j = 64} (omega arith))

module _ (ws : List ℕ) (at w a : ℕ) (each : (i : ℕ) → get_or ws i 0 < 2 ^ 64) where
  below : (i : ℕ) → get_or (drop at ws) i 0 < 2 ^ 64
  below i = rw get_or-drop (each (at + i))

  pub one_at : (p : ℕ) → p ≡ 2 ^ w → w * a % 64 + w ≤ 64
      → get_or ws (at + w * a / 64) 0 / 2 ^ (w * a % 64) % p ≡ entry w (pack 64 (drop at ws)) a
  one_at p e h =
      let s : ℕ = w * a in
      rw (e, ← get_or-drop at ws (s / 64) 0) (entry_one 64 (drop at ws) w a (s / 64) (s % 64) below (omega arith) (omega arith) h)

  -- m bits end the first word, n start the next
  pub two_at : (m n p r : ℕ) → m + w * a % 64 ≡ 64 → n + m ≡ w → w ≤ 64 → p ≡ 2 ^ n → r ≡ 2 ^ m
      → get_or ws (at + w * a / 64) 0 / 2 ^ (w * a % 64) + get_or ws (at + w * a / 64 + 1) 0 % p * r ≡ entry w (pack 64 (drop at ws)) a
  two_at m n p r h k l e f =
      let s : ℕ = w * a in
      rw (e, f, add_assoc at (s / 64) 1, ← get_or-drop at ws (s / 64) 0, ← get_or-drop at ws (s / 64 + 1) 0)
      (entry_two 64 (drop at ws) w a (s / 64) (s % 64) below (omega arith) (omega arith) m n h k l)
