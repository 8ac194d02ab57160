-- The entries of level 1, drawn in chunks and added lane by lane.
use mathlib.Core.Path.{◌≡◌, sym, ap, ◌∙◌, subst}
use Prim.Native.Nat.{ℕ, suc, ◌+◌, ◌-◌, ◌*◌, ◌/◌, ◌^◌, ◌≤◌, ◌<◌}
use native.Mathlib.Nat.{mod-lt, mul-zero, mul-suc, mul_comm, mul_assoc, add-mul, one-mul, zero-mul, mul-le-mul, mul-le-mul_left, lt_of_lt_of_le}
use native.Mathlib.Omega.{arith}
use lib.Bits.{bit_and}
use lib.Pow.{pow_pos, pow_mono}
use Rattle.model.specs.Lists.{sum}
use Rattle.model.specs.Packed.{unpack, entry}
use Rattle.sums.proofs.Lanes.{Lanes, no_lanes, lanes_add, lanes_sum, lanes_lt, mask, paired_lanes, picked_le, sum_chunk, room}

-- g chunks of n pairs each, of the entries of w bits of x, are added up in the lanes of acc
abbrev pub Added : ℕ → ℕ → ℕ → ℕ → ℕ → Type 0
Added w n g x acc = Lanes (w + w) n (g * (2 * (2 ^ w - 1))) (sum (unpack w (n * 2 * g) x)) acc

pub added_none : (w n x : ℕ) → Added w n 0 x 0
added_none w n x = rw (zero-mul, mul-zero) (no_lanes (w + w) n)

wide : (w n : ℕ) → (w + w) * n ≡ w * (n * 2)
wide w n = omega (arith, add-mul w w n, mul_assoc w n 2)

module _ (w n g x k o y : ℕ) (ek : k ≡ (w + w) * n) (eo : o ≡ mask w n) (ey : y ≡ entry k x g) where
  chunk_lt : y < 2 ^ ((w + w) * n)
  chunk_lt = rw (ey, ← ek) (mod-lt (x / 2 ^ (k * g)) (pow_pos k))

  pub chunk_le : bit_and (y / 2 ^ w) o * (2 ^ w - 1) ≤ y
  chunk_le = rw eo (picked_le w n y chunk_lt)

  pub added_one : (acc r : ℕ) → r + bit_and (y / 2 ^ w) o * (2 ^ w - 1) ≡ y → Added w n g x acc → Added w n (g + 1) x (acc + r)
  added_one acc r h l =
      let m : ℕ = 2 * (2 ^ w - 1) in
      let e : g * m + m ≡ (g + 1) * m = rw (add-mul g 1 m, one-mul) in
      let s : sum (unpack w (n * 2 * g) x) + sum (unpack w (n * 2) y) ≡ sum (unpack w (n * 2 * (g + 1)) x) =
      sym (sum_chunk w (n * 2) k g x (ek ∙ wide w n) ∙ ap (λ z. sum (unpack w (n * 2 * g) x) + sum (unpack w (n * 2) z)) (sym ey)) in
      subst (λ b. Lanes (w + w) n b (sum (unpack w (n * 2 * (g + 1)) x)) (acc + r)) e
      (subst (λ t. Lanes (w + w) n (g * m + m) t (acc + r)) s (lanes_add l (paired_lanes w n y chunk_lt r (subst (λ z. r + bit_and (y / 2 ^ w) z * (2 ^ w - 1) ≡ y) eo h))))

module _ (w n chunks x acc : ℕ) (few : chunks * 2 ≤ 2 ^ w) where
  pub added_lt : (g : ℕ) → g ≤ chunks → (w + w) * n < 64 → Added w n g x acc → acc < 2 ^ 64
  added_lt g h k l = lt_of_lt_of_le (lanes_lt l (room w g chunks h few)) (pow_mono {i = (w + w) * n} {j = 64} (omega arith))

  pub added_all : (g : ℕ) → g ≡ chunks → n * chunks ≡ 32 → Added w n g x acc → (k : ℕ) → k ≡ n * 2 * g → sum (unpack (w + w) n acc) ≡ sum (unpack w k x)
  added_all g e h l k f = rw f (lanes_sum l (room w g chunks (omega arith) few))

pub sixty_four : (n chunks g : ℕ) → n * chunks ≡ 32 → g ≡ chunks → 64 ≡ n * 2 * g
sixty_four n chunks g h e = rw (e, mul_assoc, mul_comm 2 chunks, ← mul_assoc, h)

-- chunk g lies in w words
pub chunk-fits : (w n chunks g k at l : ℕ) → k ≡ (w + w) * n → n * chunks ≡ 32 → g < chunks → w ≤ 16 → at + w ≤ l → (64 * at + (k * g + k) ≤ 64 * l) × (k * g + k ≤ 1024)
chunk-fits w n chunks g k at l ek h m b f =
    let s : suc g ≤ chunks = m in
    let e : k * chunks ≡ (w + w) * 32 = rw (ek, mul_assoc, h) in
    let u : k * g + k ≤ (w + w) * 32 = omega (arith, mul-suc k g, mul-le-mul_left k s) in
    (omega arith, omega arith)

pub chunk_some : (w n k : ℕ) → k ≡ (w + w) * n → 1 ≤ w → 1 ≤ n → 1 ≤ k
chunk_some w n k e h m =
    let v : 1 ≤ w + w = omega arith in
    let u : 1 * 1 ≤ (w + w) * n = mul-le-mul v m in
    omega arith
