-- A packed word: the entries of a list, each in w bits, the first lowest. Every law is for any width and any list.
use mathlib.Core.Path.{◌≡◌, refl, sym, ap, ◌∙◌}
use mathlib.Core.List.{List, [], ◌∷◌, ◌++◌}
use Prim.Native.Nat.{ℕ, zero, suc, ◌+◌, ◌*◌, ◌/◌, ◌%◌, ◌^◌, ◌≤◌, ◌<◌}
use native.Mathlib.Nat.{le_of_suc-le-suc, not-suc-le-zero, zero-lt-suc, zero-div, zero-mod, div-one, mod-one, mod-lt, mul-zero, mul-suc, mul-one, mul_comm, mul_assoc, mul-le-mul_left, add-mul, add-zero, add_comm, add_assoc, one-mul, mod-eq_of_lt}
use native.Mathlib.Omega.{arith}
use lib.ListN.{length, take, drop, get_or, set}
use lib.Seq.{set_split, length-take-le}
use lib.Arith.{digits_lt}
use lib.Pow.{pow_pos, pow-add, shr-shr, high, low, mod-pow-add}
use lib.Count.{ones, ones_cat}
use Rattle.model.specs.Lists.{sum}
use Rattle.model.specs.Packed.{pack, unpack, entry, replaced, put_in, rank}
use Rattle.model.proofs.Lists.{Below, insert, below-take, insert_split}

-- ---- cutting a word: below entry a and from entry a on

-- the exponent of one entry more
exp_suc : (w a : ℕ) → w + w * a ≡ w * suc a
exp_suc w a = rw (mul-suc, add_comm w)

pub pack-drop : (w : ℕ) (es : List ℕ) (a : ℕ) → Below (2 ^ w) es → pack w es / 2 ^ (w * a) ≡ pack w (drop a es)
pack-drop w es zero h = rw (mul-zero, div-one)
pack-drop w [] (suc a) h = zero-div (2 ^ (w * suc a))
pack-drop w (e ∷ es) (suc a) h = rw (← exp_suc w a, ← shr-shr, high (pack w es) w h.0) (pack-drop w es a h.1)

pub pack-take : (w : ℕ) (es : List ℕ) (a : ℕ) → Below (2 ^ w) es → pack w es % 2 ^ (w * a) ≡ pack w (take a es)
pack-take w es zero h = rw (mul-zero, mod-one)
pack-take w [] (suc a) h = zero-mod (2 ^ (w * suc a))
pack-take w (e ∷ es) (suc a) h =
    rw (mul-suc, mod-pow-add, high (pack w es) w h.0, low (pack w es) w h.0, pack-take w es a h.1)

pub pack_lt : (w : ℕ) (es : List ℕ) → Below (2 ^ w) es → pack w es < 2 ^ (w * length es)
pack_lt w [] h = rw mul-zero (zero-lt-suc 0)
pack_lt w (e ∷ es) h = rw (mul-suc, pow-add) (digits_lt (pack_lt w es h.1) h.0)

pub pack_append : (w : ℕ) (xs ys : List ℕ) → pack w (xs ++ ys) ≡ pack w ys * 2 ^ (w * length xs) + pack w xs
pack_append w [] ys = rw (mul-zero, mul-one, add-zero)
pack_append w (x ∷ xs) ys = rw (pack_append w xs ys, mul-suc, pow-add) (simp (add-mul, mul_assoc, add_assoc))

-- ---- one entry: read, replaced, replaced in

pub pack-entry : (w : ℕ) (es : List ℕ) (a : ℕ) → Below (2 ^ w) es → entry w (pack w es) a ≡ get_or es a 0
pack-entry w es a h = rw (pack-drop w es a h) (head es a h)
  where
    head : (es : List ℕ) (a : ℕ) → Below (2 ^ w) es → pack w (drop a es) % 2 ^ w ≡ get_or es a 0
    head [] zero h = zero-mod (2 ^ w)
    head [] (suc a) h = zero-mod (2 ^ w)
    head (e ∷ es) zero h = low (pack w es) w h.0
    head (e ∷ es) (suc a) h = head es a h.1

module _ (w : ℕ) (es : List ℕ) (a v : ℕ) (h : Below (2 ^ w) es) where
  pub pack-set : a < length es → pack w (set es a v) ≡ replaced w (pack w es) a v
  pack-set l =
      let k : length (take a es) ≡ a = length-take-le a es (omega arith) in
      rw (set_split es a v, pack_append, k, pack-take w es a h, pack-drop w es (suc a) h)

  pub pack_insert : a ≤ length es → pack w (insert es a v) ≡ put_in w (pack w es) a v
  pack_insert l =
      let k : length (take a es) ≡ a = length-take-le a es l in
      rw (insert_split es a v, pack_append, k, pack-take w es a h, pack-drop w es a h)

-- ---- a word of n entries and its list determine each other

pub length-unpack : (w n x : ℕ) → length (unpack w n x) ≡ n
length-unpack w zero x = refl
length-unpack w (suc n) x = ap suc (length-unpack w n (x / 2 ^ w))

pub below-unpack : (w n x : ℕ) → Below (2 ^ w) (unpack w n x)
below-unpack w zero x = tt
below-unpack w (suc n) x = (mod-lt x (pow_pos w), below-unpack w n (x / 2 ^ w))

pub pack-unpack : (w n x : ℕ) → pack w (unpack w n x) ≡ x % 2 ^ (w * n)
pack-unpack w zero x = rw (mul-zero, mod-one)
pack-unpack w (suc n) x = rw (mul-suc, mod-pow-add, pack-unpack w n (x / 2 ^ w))

pub unpack-pack : (w : ℕ) (es : List ℕ) → Below (2 ^ w) es → unpack w (length es) (pack w es) ≡ es
unpack-pack w [] h = refl
unpack-pack w (e ∷ es) h = rw (low (pack w es) w h.0, high (pack w es) w h.0, unpack-pack w es h.1)

-- ---- marks: words of one-bit entries

ones_bit : (m : ℕ) → m < 2 → ones m ≡ m
unfolding ones
ones_bit zero h = refl
ones_bit (suc zero) h = refl
ones_bit (suc (suc m)) h = absurd (not-suc-le-zero (le_of_suc-le-suc (le_of_suc-le-suc h)))

pub ones-pack : (ms : List ℕ) → Below 2 ms → ones (pack 1 ms) ≡ sum ms
ones-pack [] h = ones_bit 0 (zero-lt-suc 1)
ones-pack (m ∷ ms) h = rw (ones_cat 1 (pack 1 ms) m h.0, ones-pack ms h.1, ones_bit m h.0) (add_comm (sum ms) m)

-- the rank of place a: the marks strictly below it
pub rank-pack : (ms : List ℕ) (a : ℕ) → Below 2 ms → ones (pack 1 ms % 2 ^ a) ≡ sum (take a ms)
rank-pack ms a h = rw (one-mul a) at (ap ones (pack-take 1 ms a h) ∙ ones-pack (take a ms) (below-take 2 ms a h))

pub bit-pack : (ms : List ℕ) (a : ℕ) → Below 2 ms → pack 1 ms / 2 ^ a % 2 ≡ get_or ms a 0
bit-pack ms a h = rw (one-mul a) at (pack-entry 1 ms a h)

-- the rank is the machine's count of the ones below bit a
pub rank-ones : (x a : ℕ) → ones (x % 2 ^ a) ≡ rank x a
rank-ones x a = ap (λ n. ones (x % 2 ^ n)) (sym (one-mul a)) ∙ ap ones (sym (pack-unpack 1 a x)) ∙ ones-pack (unpack 1 a x) (below-unpack 1 a x)

pub rank-all : (x n : ℕ) → x < 2 ^ n → rank x n ≡ ones x
rank-all x n h = sym (rank-ones x n) ∙ ap ones (mod-eq_of_lt h)

-- entry a of 64 lies within 64 entries
pub first_fits : (w a : ℕ) → a < 64 → w * a + w ≤ 64 * w
first_fits w a h = let k : suc a ≤ 64 = h in omega (arith, mul-suc w a, mul_comm w 64, mul-le-mul_left w k)
