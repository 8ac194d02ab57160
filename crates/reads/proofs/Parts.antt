-- The count at a place, level by level: what one level gives.
use mathlib.Core.Path.{◌≡◌, refl, sym, ap, ◌∙◌, subst}
use mathlib.Core.List.{List, ◌∷◌}
use Prim.Native.Nat.{ℕ, zero, suc, ◌+◌, ◌-◌, ◌*◌, ◌/◌, ◌%◌, ◌^◌, ◌≤◌}
use native.Mathlib.Nat.{zero-mul, zero-add}
use native.Mathlib.Omega.{arith}
use lib.ListN.{take}
use lib.Pow.{field, mod-mod-pow}
use Rattle.model.specs.Lists.{by_mark}
use Rattle.model.specs.Packed.{pack, entry, bit, rank}
use Rattle.model.specs.Shapes.{Row}
use Rattle.model.specs.Levels.{Level, level, read_at}
use Rattle.model.proofs.Lists.{Below}
use Rattle.model.proofs.Packing.{pack-take}

-- ---- one level

by-some : (m x y : ℕ) → (m ≡ 0 → ⊥) → by_mark m x y ≡ y
by-some zero x y f = absurd (f refl)
by-some (suc m) x y f = refl

module _ (r : Row) (rs : List Row) (c m : ℕ) (ls : List Level) (a : ℕ) where
  pub level_stop : bit m a ≡ 0 → entry r.width c a ≡ read_at (r ∷ rs) (level c m ∷ ls) a
  unfolding read_at
  level_stop e = rw (e, zero-mul, zero-add)

  pub level_on : (bit m a ≡ 0 → ⊥) → read_at rs ls (rank m a) * 2 ^ r.width + entry r.width c a ≡ read_at (r ∷ rs) (level c m ∷ ls) a
  unfolding read_at
  level_on f = rw (by-some (bit m a) 0 (read_at rs ls (rank m a)) f)

-- ---- level 1

-- the first n words hold the entries that end in them
pub entry-take : (b : ℕ) (ws : List ℕ) (n w a : ℕ) → Below (2 ^ b) ws → w * a + w ≤ b * n → entry w (pack b ws) a ≡ entry w (pack b (take n ws)) a
entry-take b ws n w a h l =
    let x : ℕ = pack b ws in
    let e : b * n - (w * a + w) + (w + w * a) ≡ b * n = omega arith in
    let m : x % 2 ^ (b * n) % 2 ^ (w + w * a) ≡ x % 2 ^ (w + w * a) = subst (λ k. x % 2 ^ k % 2 ^ (w + w * a) ≡ x % 2 ^ (w + w * a)) e (mod-mod-pow x (b * n - (w * a + w)) (w + w * a)) in
    sym (field x w (w * a)) ∙ ap (λ y. y / 2 ^ (w * a)) (sym m) ∙ field (x % 2 ^ (b * n)) w (w * a) ∙ rw (pack-take b ws n h)
