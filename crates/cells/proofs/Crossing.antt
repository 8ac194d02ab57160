-- A list of words of b bits as one long word: an entry of w bits starts at bit s of word j, and may reach into the next.
use mathlib.Core.Path.{◌≡◌, sym, ap, ◌∙◌}
use mathlib.Core.List.{List, [], ◌∷◌}
use Prim.Native.Nat.{ℕ, suc, ◌+◌, ◌-◌, ◌*◌, ◌/◌, ◌%◌, ◌^◌, ◌≤◌, ◌<◌}
use native.Mathlib.Nat.{add_comm, add-mul, mul_assoc, mul-one, div-one}
use native.Mathlib.Numerals.{add-one}
use native.Mathlib.Omega.{arith}
use lib.ListN.{get_or, length, set}
use lib.Pow.{pow-add, mod-pow-add, high, low, shr_lt, shr_mod, split}
use Rattle.model.specs.Packed.{pack, entry, replaced}
use Rattle.model.proofs.Lists.{Below}
use Rattle.model.proofs.AcrossWords.{shifted, within, store_one, store_two}

pub below_of : (b : ℕ) (ws : List ℕ) → ((i : ℕ) → get_or ws i 0 < b) → Below b ws
below_of b [] h = tt
below_of b (x ∷ xs) h = (h 0, below_of b xs (λ i. h (suc i)))

module _ (b : ℕ) (ws : List ℕ) (w a j s : ℕ) (each : (i : ℕ) → get_or ws i 0 < 2 ^ b) (at : w * a ≡ b * j + s) (in_word : s < b) where
  entry_at : w ≤ b → entry w (pack b ws) a ≡ (get_or ws (suc j) 0 * 2 ^ (b - s) + get_or ws j 0 / 2 ^ s) % 2 ^ w
  entry_at h = rw at (shifted b ws j s w (below_of (2 ^ b) ws each) (omega arith) h)

  -- ---- in one word

  pub entry_one : s + w ≤ b → get_or ws j 0 / 2 ^ s % 2 ^ w ≡ entry w (pack b ws) a
  entry_one h = sym (entry_at (omega arith) ∙ within (get_or ws j 0) s w b (get_or ws (suc j) 0) h)

  pub put_one : (v y : ℕ) → s + w ≤ b → j < length ws → y + get_or ws j 0 / 2 ^ s % 2 ^ w * 2 ^ s ≡ get_or ws j 0 + v * 2 ^ s
      → pack b (set ws j y) ≡ replaced w (pack b ws) a v
  put_one v y h l e = store_one b ws w a v j s at y l (rw (← entry_one h) e)

  -- ---- across two words: the lower m bits end the first, the upper n start the next

  module _ (m n : ℕ) (here : m + s ≡ b) (there : n + m ≡ w) (most : w ≤ b) where
    fits : get_or ws j 0 < 2 ^ (m + s)
    fits = rw here (each j)

    pub entry_two : get_or ws j 0 / 2 ^ s + get_or ws (j + 1) 0 % 2 ^ n * 2 ^ m ≡ entry w (pack b ws) a
    entry_two =
        let x : ℕ = get_or ws j 0 / 2 ^ s in
        let y : ℕ = get_or ws (suc j) 0 in
        let l : x < 2 ^ m = shr_lt m s fits in
        let d : b - s ≡ m = omega arith in
        let z : (y * 2 ^ m + x) % 2 ^ w ≡ y % 2 ^ n * 2 ^ m + x = rw (← there, mod-pow-add, high y m l, low y m l) in
        rw (add-one j) (add_comm x (y % 2 ^ n * 2 ^ m) ∙ sym (rw d at (entry_at most) ∙ z))

    pub put_two : (v y z : ℕ) → suc j < length ws
        → y + get_or ws j 0 / 2 ^ s % 2 ^ m * 2 ^ s ≡ get_or ws j 0 + v % 2 ^ m * 2 ^ s
        → z + get_or ws (j + 1) 0 / 2 ^ 0 % 2 ^ n * 2 ^ 0 ≡ get_or ws (j + 1) 0 + v / 2 ^ m * 2 ^ 0
        → pack b (set (set ws j y) (j + 1) z) ≡ replaced w (pack b ws) a v
    put_two v y z l e₁ e₂ =
        let p : 2 ^ m * 2 ^ s ≡ 2 ^ b = sym (pow-add 2 m s) ∙ ap (λ (x : ℕ). 2 ^ x) here in
        let low' = rw (shr_mod m s fits) at e₁ in
        let high' = simp add-mul at (ap (λ x. x * 2 ^ b) (simp (add-one j, div-one, mul-one) at e₂)) in
        let whole = rw (add-mul, mul_assoc, p) at (ap (λ x. x * 2 ^ s) (split v m)) in
        rw (add-one j) (store_two b ws w a v j s at y z l (rw (← entry_two, add-one j, add-mul, mul_assoc, p) (omega arith)))
