-- Tests at each number below n.
use mathlib.Core.Bool.{Bool, true, false, ◌&&◌}
use mathlib.Core.Logic.{◌↔◌}
use Prim.Native.Nat.{ℕ, zero, suc, ◌<◌, suc-le-suc}
use native.Mathlib.Nat.{not-suc-le-zero, le_of_suc-le-suc, zero-lt-suc}
use lib.Dec.{T}
use Rattle.model.specs.Lists.{every}

and_iff : (a b : Bool) → T (a && b) ↔ (T a × T b)
and_iff true b = ((λ t. (tt, t)), (λ h. h.1))
and_iff false b = ((λ t. absurd t), (λ h. h.0))

pub every-at : (n : ℕ) (p : ℕ → Bool) → T (every n p) → (i : ℕ) → i < n → T (p i)
every-at zero p t i h = absurd (not-suc-le-zero h)
every-at (suc n) p t zero h = ((and_iff (p 0) (every n (λ i. p (suc i)))).0 t).0
every-at (suc n) p t (suc i) h = every-at n (λ i. p (suc i)) ((and_iff (p 0) (every n (λ i. p (suc i)))).0 t).1 i (le_of_suc-le-suc h)

pub every_of : (n : ℕ) (p : ℕ → Bool) → ((i : ℕ) → i < n → T (p i)) → T (every n p)
every_of zero p f = tt
every_of (suc n) p f = (and_iff (p 0) (every n (λ i. p (suc i)))).1 (f 0 (zero-lt-suc n), every_of n (λ i. p (suc i)) (λ i h. f (suc i) (suc-le-suc h)))
