-- How long numbers and the lines of the output are.
use mathlib.Core.Path.{◌≡◌}
use Prim.Native.Nat.{ℕ, suc, ◌+◌, ◌^◌, ◌≤◌, ◌<◌}
use native.Mathlib.Omega.{arith}
use lib.ListN.{length, length-append}
use Rattle.texts.specs.Texts.{places, decimal, answer_line, total_line, bad_line}
use Rattle.texts.proofs.Decimals.{length_digits, fewest_least, places_fewest}

-- n below 10 ^ (k + 1) has at most k + 1 digits
pub few_digits : (k n : ℕ) → n < 10 ^ suc k → length (decimal n) ≤ suc k
unfolding decimal
few_digits k n h = rw (length_digits 10 (places n) n) (fewest_least n (places n) (suc k) (places_fewest n) (omega arith) h)

pub total-short : (t u : ℕ) → t < 1000 → u < 100000 → length (total_line t u) ≤ 21
unfolding total_line
total-short t u p q = simp length-append (omega (arith, few_digits 2 t p, few_digits 4 u q))

pub bad_short : (n : ℕ) → n < 100000 → length (bad_line n) ≤ 21
unfolding bad_line
bad_short n h = simp length-append (omega (arith, few_digits 4 n h))

pub answer_long : (y n v : ℕ) → length (answer_line y n v) ≡ length (decimal y) + (length (decimal n) + (length (decimal v) + 3))
unfolding answer_line
answer_long y n v = simp length-append (omega arith)
