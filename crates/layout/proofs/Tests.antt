-- A test of the code and what it says.
use mathlib.Core.Path.{◌≡◌, sym, subst}
use mathlib.Core.Bool.{Bool, true, false, not}
use lib.Dec.{T}

-- r is what the code found of the test t: its negation failed, or was met
pub passed : (r t : Bool) → r ≡ t → not r ≡ false → T t
passed true t e n = subst T e tt
passed false t e n = absurd (subst T n tt)

pub failed : (r t : Bool) → r ≡ t → not r ≡ true → T (not t)
failed true t e n = absurd (subst T (sym n) tt)
failed false t e n = subst (λ b. T (not b)) e tt
