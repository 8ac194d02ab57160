-- Room for a counter that is there, level by level.
use mathlib.Core.Path.{◌≡◌, refl, sym, ap, ◌∙◌}
use mathlib.Core.Bool.{Bool, true, false}
use mathlib.Core.List.{List}
use Prim.Native.Nat.{ℕ, zero, suc, ◌+◌, ◌-◌, ◌/◌, ◌%◌, ◌^◌, ◌≤◌, ◌<◌}
use native.Mathlib.Nat.{not-suc-le-zero, add_assoc, zero-div}
use native.Mathlib.Numerals.{add-one, sub-one}
use native.Mathlib.Omega.{arith}
use lib.Count.{ones}
use lib.Dec.{eqb, eqb-suc-zero}
use Rattle.model.specs.Lists.{by_mark}
use Rattle.model.specs.Packed.{bit, rank}
use Rattle.packed.proofs.Words.{rank_le}
use Rattle.rooms.specs.Growth.{room_to_enter, room_to_raise}
use Rattle.uppers.specs.Uppers.{rows_by, levels_by, Ahead}
use Rattle.uppers.proofs.Uppers.{ahead_on, ahead_last}
use Rattle.rooms.specs.Rooms.{room_by, raise_by}

by-some : (v : ℕ) (b c : Bool) → (v ≡ 0 → ⊥) → by_mark v b c ≡ c
by-some zero b c f = absurd (f refl)
by-some (suc v) b c f = refl

-- less weight asks less
pub ahead_less : (n e w t s : ℕ) → s ≤ t → Ahead n e w t → Ahead n e w s
ahead_less zero e w t s h a = tt
ahead_less (suc n) e w t s h a = (a.0, a.1, omega (arith, a.2), a.3, ahead_less n (e / 256) (w / 256) (t + w % 256) (s + w % 256) (omega arith) a.4)

module _ (ws : List ℕ) (at g e w a v : ℕ) where
  stays : (left : ℕ) → 0 < left → v / 2 ^ (w % 256) ≡ 0 → true ≡ raise_by left ws at g e w a v
  unfolding raise_by room_to_raise rows_by levels_by
  stays zero h z = absurd (not-suc-le-zero h)
  stays (suc l) h z = rw z

  enters : (left : ℕ) → 1 < left → (v / 2 ^ (w % 256) ≡ 0 → ⊥) → bit (g % 2 ^ (e % 256)) a ≡ 0
      → room_by (left - 1) ws (at + 1) (g / 2 ^ (e % 256)) (e / 256) (w / 256) (g % 2 ^ (e % 256)) (v / 2 ^ (w % 256)) ≡ raise_by left ws at g e w a v
  unfolding raise_by room_by room_to_raise rows_by levels_by
  enters zero h f z = absurd (omega arith)
  enters (suc zero) h f z = absurd (omega arith)
  enters (suc (suc l)) h f z = rw (z, sub-one, add-one) (sym (by-some (v / 2 ^ (w % 256)) true (room_to_enter (rows_by (suc l) (e / 256) (w / 256)) (ones (g % 2 ^ (e % 256))) (levels_by (suc l) ws (suc at) (g / 2 ^ (e % 256)) (e / 256)) (v / 2 ^ (w % 256))) f))

  on : (left : ℕ) → 1 < left → (v / 2 ^ (w % 256) ≡ 0 → ⊥) → (bit (g % 2 ^ (e % 256)) a ≡ 0 → ⊥)
      → raise_by (left - 1) ws (at + 1) (g / 2 ^ (e % 256)) (e / 256) (w / 256) (rank (g % 2 ^ (e % 256)) a) (v / 2 ^ (w % 256)) ≡ raise_by left ws at g e w a v
  unfolding raise_by room_to_raise rows_by levels_by
  on zero h f z = absurd (omega arith)
  on (suc zero) h f z = absurd (omega arith)
  on (suc (suc l)) h f z =
      let q : ℕ = v / 2 ^ (w % 256) in
      let m : ℕ = g % 2 ^ (e % 256) in
      let r : Bool = room_to_raise (rows_by (suc l) (e / 256) (w / 256)) (levels_by (suc l) ws (suc at) (g / 2 ^ (e % 256)) (e / 256)) (rank m a) q in
      let b : Bool = room_to_enter (rows_by (suc l) (e / 256) (w / 256)) (ones m) (levels_by (suc l) ws (suc at) (g / 2 ^ (e % 256)) (e / 256)) q in
      rw (sub-one, add-one) (sym (by-some q true (by_mark (bit m a) b r) f ∙ by-some (bit m a) b r z))

  last : (left : ℕ) → left ≡ 1 → eqb (v / 2 ^ (w % 256)) 0 ≡ raise_by left ws at g e w a v
  unfolding raise_by room_to_raise room_to_enter rows_by levels_by
  last left h = rw (h, zero-div) (none (v / 2 ^ (w % 256)))
    where
      none : (x : ℕ) → eqb x 0 ≡ by_mark x true false
      none zero = refl
      none (suc x) = eqb-suc-zero x

-- ---- the walk

pub record Raising (n g₀ e₀ w₀ a₀ v₀ left g e w a v : ℕ) : Type 0 where
  pub some : 0 < left
  pub weight : ℕ
  pub ahead : Ahead left e w weight
  pub in_word : a < 64
  pub passed : ℕ
  pub same : (ws : List ℕ) (at : ℕ) → raise_by left ws (at + passed) g e w a v ≡ raise_by n ws at g₀ e₀ w₀ a₀ v₀

module _ {n g₀ e₀ w₀ a₀ v₀ left g e w a v : ℕ} (k : Raising n g₀ e₀ w₀ a₀ v₀ left g e w a v) where
  pub narrow : w % 256 ≤ 16
  narrow = (ahead_last left e w k.weight k.some k.ahead).1

  pub marked : 1 < left → e % 256 < 64
  marked h = (ahead_on left e w k.weight h k.ahead).3

  pub ahead_next : 1 < left → Ahead (left - 1) (e / 256) (w / 256) 0
  ahead_next h = ahead_less (left - 1) (e / 256) (w / 256) (k.weight + w % 256) 0 (omega arith) (ahead_on left e w k.weight h k.ahead).4

  pub raise_stays : v / 2 ^ (w % 256) ≡ 0 → (ws : List ℕ) (at : ℕ) → true ≡ raise_by n ws at g₀ e₀ w₀ a₀ v₀
  raise_stays z ws at = stays ws (at + k.passed) g e w a v left k.some z ∙ k.same ws at

  pub raise-last : left ≡ 1 → (ws : List ℕ) (at : ℕ) → eqb (v / 2 ^ (w % 256)) 0 ≡ raise_by n ws at g₀ e₀ w₀ a₀ v₀
  raise-last h ws at = last ws (at + k.passed) g e w a v left h ∙ k.same ws at

  module _ (h : 1 < left) (f : v / 2 ^ (w % 256) ≡ 0 → ⊥) where
    pub raise_enters : (r : Bool) → bit (g % 2 ^ (e % 256)) a ≡ 0
        → ((ws : List ℕ) (at : ℕ) → r ≡ room_by (left - 1) ws at (g / 2 ^ (e % 256)) (e / 256) (w / 256) (g % 2 ^ (e % 256)) (v / 2 ^ (w % 256)))
        → (ws : List ℕ) (at : ℕ) → r ≡ raise_by n ws at g₀ e₀ w₀ a₀ v₀
    raise_enters r z s ws at = s ws (at + k.passed + 1) ∙ enters ws (at + k.passed) g e w a v left h f z ∙ k.same ws at

    pub raise_on : (bit (g % 2 ^ (e % 256)) a ≡ 0 → ⊥)
        → Raising n g₀ e₀ w₀ a₀ v₀ (left - 1) (g / 2 ^ (e % 256)) (e / 256) (w / 256) (rank (g % 2 ^ (e % 256)) a) (v / 2 ^ (w % 256))
    raise_on z = record {
      some = omega arith;
      weight = k.weight + w % 256;
      ahead = (ahead_on left e w k.weight h k.ahead).4;
      in_word = omega (arith, k.in_word, rank_le (g % 2 ^ (e % 256)) a);
      passed = k.passed + 1;
      same = λ ws at.
          ap (λ i. raise_by (left - 1) ws i (g / 2 ^ (e % 256)) (e / 256) (w / 256) (rank (g % 2 ^ (e % 256)) a) (v / 2 ^ (w % 256))) (sym (add_assoc at k.passed 1))
          ∙ on ws (at + k.passed) g e w a v left h f z ∙ k.same ws at;
    }
