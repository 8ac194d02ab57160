-- What a verdict tells, and what it takes to give it.
use mathlib.Core.Path.{◌≡◌, refl}
use mathlib.Core.Bool.{Bool, true, false}
use Prim.Native.Nat.{ℕ}
use native.Mathlib.Omega.{arith}
use lib.Dec.{T}
use Rattle.std.specs.Prelude.{Some, None}
use Rattle.uppers.specs.Judge.{verdict}

pub said-sound : (b : Bool) (n : ℕ) {x : ℕ} → verdict b n ≡ Some x → (b ≡ true) × (n ≡ x)
said-sound true n e = (refl, cc)
said-sound false n e = let z : ◌≡◌ {A = ℕ} 0 1 = cc in absurd (omega arith)

pub said-not : (b : Bool) (n : ℕ) → verdict b n ≡ None → b ≡ false
said-not false n e = refl
said-not true n e = let z : ◌≡◌ {A = ℕ} 0 1 = cc in absurd (omega arith)

pub say_sound : (b : Bool) (n : ℕ) → T b → Some n ≡ verdict b n
say_sound true n t = refl
say_sound false n t = absurd t

pub say_not : (b : Bool) (n : ℕ) → (T b → ⊥) → None ≡ verdict b n
say_not true n f = absurd (f tt)
say_not false n f = refl
