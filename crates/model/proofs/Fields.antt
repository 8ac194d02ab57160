-- A word of fields of differing widths, the first lowest: the packed word of a bucket, and the words of a header.
use mathlib.Core.Path.{◌≡◌, refl, sym}
use mathlib.Core.List.{List, [], ◌∷◌}
use Prim.Native.Nat.{ℕ, ◌/◌, ◌%◌, ◌^◌, ◌<◌}
use native.Mathlib.Nat.{zero-lt-suc, mod-one, add_comm}
use lib.Arith.{digits_lt}
use lib.Pow.{pow-add, high, low, mod-pow-add}
use Rattle.model.specs.Lists.{sum}
use Rattle.model.specs.Packed.{join_fields, cut_fields}

-- a value for each field, that fits it
abbrev pub Fill : List ℕ → List ℕ → Type 0
Fill [] [] = Unit {0}
Fill [] (v ∷ vs) = ⊥
Fill (w ∷ ws) [] = ⊥
Fill (w ∷ ws) (v ∷ vs) = (v < 2 ^ w) × Fill ws vs

pub cut_join : (ws vs : List ℕ) → Fill ws vs → cut_fields ws (join_fields ws vs) ≡ vs
cut_join [] [] h = refl
cut_join [] (v ∷ vs) h = absurd h
cut_join (w ∷ ws) [] h = absurd h
cut_join (w ∷ ws) (v ∷ vs) h = rw (low (join_fields ws vs) w h.0, high (join_fields ws vs) w h.0, cut_join ws vs h.1)

pub join_cut : (ws : List ℕ) (x : ℕ) → join_fields ws (cut_fields ws x) ≡ x % 2 ^ sum ws
join_cut [] x = sym (mod-one x)
join_cut (w ∷ ws) x = rw (join_cut ws (x / 2 ^ w), add_comm w (sum ws), mod-pow-add)

pub join_lt : (ws vs : List ℕ) → Fill ws vs → join_fields ws vs < 2 ^ sum ws
join_lt [] [] h = zero-lt-suc 0
join_lt [] (v ∷ vs) h = absurd h
join_lt (w ∷ ws) [] h = absurd h
join_lt (w ∷ ws) (v ∷ vs) h = rw (add_comm w (sum ws), pow-add) (digits_lt (join_lt ws vs h.1) h.0)
