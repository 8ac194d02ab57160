-- A packed number held as words of B bits, lowest first: an entry of w bits is read from one or two of them, and stored into them.
use mathlib.Core.Path.{◌≡◌, refl, sym, ap, ◌∙◌}
use mathlib.Core.List.{List, [], ◌∷◌}
use Prim.Native.Nat.{ℕ, zero, suc, ◌+◌, ◌-◌, ◌*◌, ◌/◌, ◌%◌, ◌^◌, ◌≤◌, ◌<◌}
use native.Mathlib.Nat.{le_of_suc-le-suc, not-suc-le-zero, zero-mul, mul-zero, mul-one, mul-suc, add-mul, mul_assoc, mul_comm, add_assoc, mul-add-div_right, mul-add-mod_self_right}
use native.Mathlib.Omega.{arith}
use lib.ListN.{length, drop, get_or, set, length-set}
use lib.Seq.{get_or-set_other}
use lib.Pow.{pow_pos, pow-add, shr-shr, split}
use Rattle.model.specs.Packed.{pack, entry, replaced}
use Rattle.model.proofs.Lists.{Below}
use Rattle.model.proofs.Packing.{pack-drop}

-- the word at j is the lowest of those from j on; past the end all are 0
pub pack_from : (b : ℕ) (ws : List ℕ) (j : ℕ) → pack b (drop j ws) ≡ pack b (drop (suc j) ws) * 2 ^ b + get_or ws j 0
pack_from b [] zero = rw zero-mul
pack_from b [] (suc j) = rw zero-mul
pack_from b (x ∷ xs) zero = refl
pack_from b (x ∷ xs) (suc j) = pack_from b xs j

-- what stands w bits or more up is cut off
pub mod_high : (h r c w : ℕ) → w ≤ c → (h * 2 ^ c + r) % 2 ^ w ≡ r % 2 ^ w
mod_high h r c w k =
    let e : 2 ^ c ≡ 2 ^ (c - w) * 2 ^ w = ap (λ x. 2 ^ x) (omega arith) ∙ pow-add 2 (c - w) w in
    rw (e, ← mul_assoc) (mul-add-mod_self_right (h * 2 ^ (c - w)) (2 ^ w) r)

-- a number shifted right by j words and s bits, cut to w bits
pub shifted : (b : ℕ) (ws : List ℕ) (j s w : ℕ) → Below (2 ^ b) ws → s ≤ b → w ≤ b
    → pack b ws / 2 ^ (b * j + s) % 2 ^ w ≡ (get_or ws (suc j) 0 * 2 ^ (b - s) + get_or ws j 0 / 2 ^ s) % 2 ^ w
shifted b ws j s w h l k =
    let t : ℕ = pack b (drop (suc (suc j)) ws) in
    let x : ℕ = get_or ws j 0 in
    let y : ℕ = get_or ws (suc j) 0 in
    let eb : 2 ^ b ≡ 2 ^ (b - s) * 2 ^ s = ap (λ e. 2 ^ e) (omega arith) ∙ pow-add 2 (b - s) s in
    let down : pack b ws / 2 ^ (b * j + s) ≡ (t * 2 ^ b + y) * 2 ^ (b - s) + x / 2 ^ s =
    sym (shr-shr (pack b ws) (b * j) s) ∙ ap (λ z. z / 2 ^ s) (pack-drop b ws j h ∙ pack_from b ws j ∙ ap (λ z. z * 2 ^ b + x) (pack_from b ws (suc j)))
    ∙ ap (λ z. ((t * 2 ^ b + y) * z + x) / 2 ^ s) eb ∙ rw (← mul_assoc) (mul-add-div_right (pow_pos s) ((t * 2 ^ b + y) * 2 ^ (b - s)) x) in
    rw (down, add-mul, mul_assoc, mul_comm (2 ^ b) (2 ^ (b - s)), ← mul_assoc, add_assoc) (mod_high (t * 2 ^ (b - s)) (y * 2 ^ (b - s) + x / 2 ^ s) b w k)

-- an entry that lies in one word
pub within : (x s w c : ℕ) (y : ℕ) → s + w ≤ c → (y * 2 ^ (c - s) + x / 2 ^ s) % 2 ^ w ≡ x / 2 ^ s % 2 ^ w
within x s w c y l = mod_high y (x / 2 ^ s) (c - s) w (omega arith)

-- ---- a store, by what it changes: v comes in where e was

pub put_adds : (w x a v : ℕ) → replaced w x a v + entry w x a * 2 ^ (w * a) ≡ x + v * 2 ^ (w * a)
put_adds w x a v =
    let e : x / 2 ^ (w * suc a) ≡ x / 2 ^ (w * a) / 2 ^ w = rw (mul-suc, ← shr-shr) in
    let f = rw (← split (x / 2 ^ (w * a)) w, add-mul) at (sym (split x (w * a))) in
    rw (e, add-mul) (omega arith)

pub set_adds : (b : ℕ) (ws : List ℕ) (j y : ℕ) → j < length ws → pack b (set ws j y) + get_or ws j 0 * 2 ^ (b * j) ≡ pack b ws + y * 2 ^ (b * j)
set_adds b [] j y l = absurd (not-suc-le-zero l)
set_adds b (x ∷ xs) zero y l = rw (mul-zero, mul-one, mul-one) (omega arith)
set_adds b (x ∷ xs) (suc j) y l =
    rw (mul-suc, pow-add) (omega (arith, simp (add-mul, mul_assoc) at (ap (λ z. z * 2 ^ b) (set_adds b xs j y (le_of_suc-le-suc l)))))

-- A store of v at entry a: the words j and, where the entry reaches into it, the next are changed so that what they hold changes as the
-- entry does. e is the entry as it was.
module _ (b : ℕ) (ws : List ℕ) (w a v j s : ℕ) (at : w * a ≡ b * j + s) where
  put_adds_at : (n : ℕ) → n ≡ 2 ^ (w * a) → replaced w (pack b ws) a v + entry w (pack b ws) a * n ≡ pack b ws + v * n
  put_adds_at n e = rw e (put_adds w (pack b ws) a v)

  weight : 2 ^ s * 2 ^ (b * j) ≡ 2 ^ (w * a)
  weight = rw (at, pow-add, mul_comm (2 ^ (b * j)) (2 ^ s))

  pub store_one : (y : ℕ) → j < length ws → y + entry w (pack b ws) a * 2 ^ s ≡ get_or ws j 0 + v * 2 ^ s
      → pack b (set ws j y) ≡ replaced w (pack b ws) a v
  store_one y l h =
      let f = simp (add-mul, mul_assoc) at (ap (λ z. z * 2 ^ (b * j)) h) in
      let p = put_adds_at (2 ^ s * 2 ^ (b * j)) weight in
      omega (arith, set_adds b ws j y l)

  pub store_two : (y z : ℕ) → suc j < length ws
      → z * 2 ^ b + y + entry w (pack b ws) a * 2 ^ s ≡ get_or ws (suc j) 0 * 2 ^ b + get_or ws j 0 + v * 2 ^ s
      → pack b (set (set ws j y) (suc j) z) ≡ replaced w (pack b ws) a v
  store_two y z l h =
      let f = simp (add-mul, mul_assoc) at (ap (λ z. z * 2 ^ (b * j)) h) in
      let p = put_adds_at (2 ^ s * 2 ^ (b * j)) weight in
      let q = rw (mul-suc, pow-add, mul_comm (2 ^ (b * j)) (2 ^ b), get_or-set_other ws j (suc j) y 0 (λ e. omega arith)) at (set_adds b (set ws j y) (suc j) z (rw length-set l)) in
      omega (arith, set_adds b ws j y (omega arith))
