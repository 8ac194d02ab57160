-- Room, level by level.
use mathlib.Core.Path.{◌≡◌, refl, sym, ap, ◌∙◌}
use mathlib.Core.Bool.{Bool, true, false}
use mathlib.Core.List.{List}
use Prim.Native.Nat.{ℕ, zero, suc, ◌+◌, ◌-◌, ◌/◌, ◌%◌, ◌^◌, ◌≤◌, ◌<◌}
use native.Mathlib.Nat.{not-suc-le-zero, add_assoc}
use native.Mathlib.Numerals.{add-one, sub-one}
use native.Mathlib.Omega.{arith}
use lib.Count.{ones}
use lib.Dec.{eqb, eqb-suc-zero}
use borrow.Author.Tests.{lt-ltb, le-ltb}
use Rattle.model.specs.Lists.{by_mark}
use Rattle.rooms.specs.Growth.{room_to_enter}
use Rattle.uppers.specs.Uppers.{rows_by, levels_by, Ahead}
use Rattle.uppers.proofs.Uppers.{ahead_on, ahead_last}
use Rattle.rooms.specs.Rooms.{room_by}

by-some : (v : ℕ) (b : Bool) → (v ≡ 0 → ⊥) → by_mark v true b ≡ b
by-some zero b f = absurd (f refl)
by-some (suc v) b f = refl

module _ (ws : List ℕ) (at g e w m v : ℕ) where
  pub full : (left : ℕ) → 0 < left → e % 256 ≤ ones m → false ≡ room_by left ws at g e w m v
  unfolding room_by room_to_enter rows_by levels_by
  full zero h k = absurd (not-suc-le-zero h)
  full (suc l) h k = rw (le-ltb (ones m) (e % 256) k)

  pub fits : (left : ℕ) → 1 < left → ones m < e % 256 → v / 2 ^ (w % 256) ≡ 0 → true ≡ room_by left ws at g e w m v
  unfolding room_by room_to_enter rows_by levels_by
  fits zero h k z = absurd (omega arith)
  fits (suc l) h k z = rw (lt-ltb (ones m) (e % 256) k, z)

  pub on : (left : ℕ) → 1 < left → ones m < e % 256 → (v / 2 ^ (w % 256) ≡ 0 → ⊥)
      → room_by left ws at g e w m v ≡ room_by (left - 1) ws (at + 1) (g / 2 ^ (e % 256)) (e / 256) (w / 256) (g % 2 ^ (e % 256)) (v / 2 ^ (w % 256))
  unfolding room_by room_to_enter rows_by levels_by
  on zero h k f = absurd (omega arith)
  on (suc zero) h k f = absurd (omega arith)
  on (suc (suc l)) h k f =
      rw (lt-ltb (ones m) (e % 256) k, sub-one, add-one)
      (by-some (v / 2 ^ (w % 256)) (room_to_enter (rows_by (suc l) (e / 256) (w / 256)) (ones (g % 2 ^ (e % 256))) (levels_by (suc l) ws (suc at) (g / 2 ^ (e % 256)) (e / 256)) (v / 2 ^ (w % 256))) f)

  pub last : (left : ℕ) → left ≡ 1 → ones m < e % 256 → eqb (v / 2 ^ (w % 256)) 0 ≡ room_by left ws at g e w m v
  unfolding room_by room_to_enter rows_by levels_by
  last left h k = rw (h, lt-ltb (ones m) (e % 256) k) (none (v / 2 ^ (w % 256)))
    where
      none : (x : ℕ) → eqb x 0 ≡ by_mark x true false
      none zero = refl
      none (suc x) = eqb-suc-zero x

-- ---- the walk

pub record Rooming (n g₀ e₀ w₀ m₀ v₀ left g e w m v : ℕ) : Type 0 where
  pub some : 0 < left
  pub weight : ℕ
  pub ahead : Ahead left e w weight
  pub few : 1 < left → e % 256 < 64
  pub passed : ℕ
  pub same : (ws : List ℕ) (at : ℕ) → room_by left ws (at + passed) g e w m v ≡ room_by n ws at g₀ e₀ w₀ m₀ v₀

module _ {n g₀ e₀ w₀ m₀ v₀ left g e w m v : ℕ} (k : Rooming n g₀ e₀ w₀ m₀ v₀ left g e w m v) where
  pub narrow : w % 256 ≤ 16
  narrow = (ahead_last left e w k.weight k.some k.ahead).1

  pub room-full : e % 256 ≤ ones m → (ws : List ℕ) (at : ℕ) → false ≡ room_by n ws at g₀ e₀ w₀ m₀ v₀
  room-full h ws at = full ws (at + k.passed) g e w m v left k.some h ∙ k.same ws at

  pub room_fits : 1 < left → ones m < e % 256 → v / 2 ^ (w % 256) ≡ 0 → (ws : List ℕ) (at : ℕ) → true ≡ room_by n ws at g₀ e₀ w₀ m₀ v₀
  room_fits h l z ws at = fits ws (at + k.passed) g e w m v left h l z ∙ k.same ws at

  pub room-last : left ≡ 1 → ones m < e % 256 → (ws : List ℕ) (at : ℕ) → eqb (v / 2 ^ (w % 256)) 0 ≡ room_by n ws at g₀ e₀ w₀ m₀ v₀
  room-last h l ws at = last ws (at + k.passed) g e w m v left h l ∙ k.same ws at

  -- the marks of the next level are what p cuts off, a power of 2 that the code found
  pub room_on : (p : ℕ) → p ≡ 2 ^ (e % 256) → 1 < left → ones m < e % 256 → (v / 2 ^ (w % 256) ≡ 0 → ⊥)
      → Rooming n g₀ e₀ w₀ m₀ v₀ (left - 1) (g / 2 ^ (e % 256)) (e / 256) (w / 256) (g % p) (v / 2 ^ (w % 256))
  room_on p q h l f = rw q record {
    some = omega arith;
    weight = k.weight + w % 256;
    ahead = (ahead_on left e w k.weight h k.ahead).4;
    few = λ l. (ahead_on (left - 1) (e / 256) (w / 256) (k.weight + w % 256) l (ahead_on left e w k.weight h k.ahead).4).3;
    passed = k.passed + 1;
    same = λ ws at.
        ap (λ i. room_by (left - 1) ws i (g / 2 ^ (e % 256)) (e / 256) (w / 256) (g % 2 ^ (e % 256)) (v / 2 ^ (w % 256))) (sym (add_assoc at k.passed 1))
        ∙ sym (on ws (at + k.passed) g e w m v left h l f) ∙ k.same ws at;
  }
