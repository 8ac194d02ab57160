-- Word n of an image: its eight bytes as one number, and where it is there.
use mathlib.Core.Path.{◌≡◌, refl, sym, ap, ◌∙◌}
use mathlib.Core.List.{List, [], ◌∷◌}
use Prim.Native.Nat.{ℕ, zero, suc, ◌+◌, ◌*◌, ◌/◌, ◌≤◌, ◌<◌}
use native.Mathlib.Omega.{arith}
use Rattle.std.proofs.lemmas.List.{drop-drop, length-drop, length-take-le}
use lib.ListN.{length, take, drop, get_or}
use borrow.Author.Tests.{lt-ltb, le-ltb}
use Rattle.std.specs.Int.{from_le_bytes, w64}
use Rattle.std.specs.Simd.{first_chunks}
use Rattle.model.specs.Packed.{pack}
use Rattle.model.specs.Calls.{image_call}

-- chunk i of k chunks of eight
chunk-at : (d : List ℕ) (k i : ℕ) (s : List ℕ) → i < k → get_or (first_chunks 8 k s) i d ≡ take 8 (drop (8 * i) s)
chunk-at d zero i s h = absurd (omega arith)
chunk-at d (suc k) zero s h = refl
chunk-at d (suc k) (suc i) s h = chunk-at d k i (drop 8 s) (omega arith) ∙ ap (take 8) (drop-drop (8 * i) 8 s ∙ ap (λ n. drop n s) (omega arith))

-- eight bytes as one number, low byte first
packed : (s : List ℕ) → length s ≡ 8 → from_le_bytes w64 s ≡ pack 8 s
packed (a ∷ b ∷ c ∷ d ∷ e ∷ f ∷ g ∷ h ∷ []) l = omega arith
packed [] l = absurd (omega arith)
packed (a ∷ []) l = absurd (omega arith)
packed (a ∷ b ∷ []) l = absurd (omega arith)
packed (a ∷ b ∷ c ∷ []) l = absurd (omega arith)
packed (a ∷ b ∷ c ∷ d ∷ []) l = absurd (omega arith)
packed (a ∷ b ∷ c ∷ d ∷ e ∷ []) l = absurd (omega arith)
packed (a ∷ b ∷ c ∷ d ∷ e ∷ f ∷ []) l = absurd (omega arith)
packed (a ∷ b ∷ c ∷ d ∷ e ∷ f ∷ g ∷ []) l = absurd (omega arith)
packed (a ∷ b ∷ c ∷ d ∷ e ∷ f ∷ g ∷ h ∷ i ∷ s) l = absurd (omega arith)

-- word n is in the image where n is below the number of whole words
pub inside : (s : List ℕ) (n : ℕ) → n < length s / 8 → image_call s n ≡ record { number = 0; value = pack 8 (take 8 (drop (8 * n) s)) }
unfolding image_call
inside s n h = rw (le-ltb (length s) (8 * n + 8) (omega arith))

-- r is the number of chunk n of bytes that are those of the image
pub read : (s t d : List ℕ) (n r : ℕ) → t ≡ s → n < length s / 8 → r ≡ from_le_bytes w64 (get_or (first_chunks 8 (length t / 8) t) n d)
    → record { number = 0; value = r } ≡ image_call s n
read s t d n r same h e =
    let x = ap (λ u. get_or (first_chunks 8 (length u / 8) u) n d) same ∙ chunk-at d (length s / 8) n s h in
    let l : length (take 8 (drop (8 * n) s)) ≡ 8 = length-take-le 8 (drop (8 * n) s) (omega (arith, length-drop (8 * n) s)) in
    ap (λ v. record { number = 0; value = v }) (e ∙ ap (from_le_bytes w64) x ∙ packed (take 8 (drop (8 * n) s)) l) ∙ sym (inside s n h)

pub outside : (s : List ℕ) (n : ℕ) → length s / 8 ≤ n → image_call s n ≡ record { number = 6; value = 0 }
unfolding image_call
outside s n h = rw (lt-ltb (length s) (8 * n + 8) (omega arith))
