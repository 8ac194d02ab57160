-- When the levels above the first have no room for the counts, said of the counts alone; that it is the levels' own rule; that it only rises.
use mathlib.Core.Path.{◌≡◌, refl, sym, ap₂, ◌∙◌}
use mathlib.Core.Bool.{Bool, true, false, not, ◌||◌}
use mathlib.Core.Logic.{◌↔◌}
use mathlib.Core.List.{List, [], ◌∷◌}
use Prim.Native.Nat.{ℕ, zero, suc, ◌+◌, ◌/◌, ◌^◌, ◌≤◌, ◌<◌, zero-le}
use native.Mathlib.Nat.{le_refl, le_trans, zero-add, add-le-add, div-eq_of_lt}
use native.Mathlib.Numerals.{one-add}
use lib.Dec.{T, leb, ltb, leb→le, le→leb, nleb→lt, nltb→le, ltb→lt, lt→ltb}
use lib.Arith.{le→nltb, lt→nleb}
use lib.ListN.{length, get_or, set}
use native.Mathlib.Omega.{arith}
use Rattle.model.specs.Lists.{sum, one_if}
use Rattle.model.specs.Shapes.{Row, counter_bits}
use Rattle.model.specs.Levels.{sign, keep, onward, at_least, crowded}
use Rattle.model.proofs.Ranks.{sign_one}
use Rattle.model.proofs.Values.{onward-onward, div_pos}
use Rattle.model.proofs.Coding.{Fits}

sign-leb : (l v : ℕ) → one_if (leb (2 ^ l) v) ≡ sign (v / 2 ^ l)
sign-leb l v = go (leb (2 ^ l) v) refl
  where
    go : (b : Bool) → leb (2 ^ l) v ≡ b → one_if b ≡ sign (v / 2 ^ l)
    go true e = sym (sign_one (v / 2 ^ l) (div_pos l (leb→le (2 ^ l) v (rw e tt))))
    go false e = rw (div-eq_of_lt (nleb→lt (2 ^ l) v (rw e tt)))

length-keep : (q : ℕ) (qs : List ℕ) → length (keep q qs) ≡ sign q + length qs
length-keep zero qs = sym (zero-add (length qs))
length-keep (suc q) qs = sym (one-add (length qs))

pub length-onward-count : (l : ℕ) (vs : List ℕ) → length (onward l vs) ≡ at_least (2 ^ l) vs
unfolding at_least
length-onward-count l [] = refl
length-onward-count l (v ∷ vs) = length-keep (v / 2 ^ l) (onward l vs) ∙ ap₂ ◌+◌ (sym (sign-leb l v)) (length-onward-count l vs)

-- ---- to fit is not to be crowded, and to have no value past the last level

or-not : (a b : Bool) → T (not (a || b)) → T (not a) × T (not b)
or-not false b h = (tt, h)
or-not true b h = absurd h

not-or : (a b : Bool) → T (not a) → T (not b) → T (not (a || b))
not-or false b h k = k
not-or true b h k = absurd h

pub fits_uncrowded : (l : ℕ) (rs : List Row) (vs : List ℕ) → Fits rs (onward l vs) → T (not (crowded l rs vs)) × (at_least (2 ^ counter_bits l rs) vs ≤ 0)
unfolding crowded
fits_uncrowded l [] vs f = (tt, rw length-onward-count at f)
fits_uncrowded l (r ∷ rs) vs f =
    let ih = fits_uncrowded (l + r.width) rs vs (rw onward-onward at f.1) in
    (not-or (ltb r.entries (at_least (2 ^ l) vs)) (crowded (l + r.width) rs vs) (le→nltb r.entries (at_least (2 ^ l) vs) (rw length-onward-count at f.0)) ih.0, ih.1)

pub uncrowded_fits : (l : ℕ) (rs : List Row) (vs : List ℕ) → T (not (crowded l rs vs)) → at_least (2 ^ counter_bits l rs) vs ≤ 0 → Fits rs (onward l vs)
unfolding crowded
uncrowded_fits l [] vs h k = rw length-onward-count k
uncrowded_fits l (r ∷ rs) vs h k =
    let o = or-not (ltb r.entries (at_least (2 ^ l) vs)) (crowded (l + r.width) rs vs) h in
    (rw length-onward-count (nltb→le r.entries (at_least (2 ^ l) vs) o.0), rw onward-onward (uncrowded_fits (l + r.width) rs vs o.1 k))

-- ---- it only rises

-- as long as each other, and no element above its fellow
abbrev pub Under : List ℕ → List ℕ → Type 0
Under [] [] = Unit {0}
Under [] (v ∷ vs) = ⊥
Under (u ∷ us) [] = ⊥
Under (u ∷ us) (v ∷ vs) = (u ≤ v) × Under us vs

pub holds_mono : (a b : Bool) → (T a → T b) → one_if a ≤ one_if b
holds_mono false b f = zero-le
holds_mono true true f = le_refl 1
holds_mono true false f = absurd (f tt)

or_mono : (a b c d : Bool) → (T a → T c) → (T b → T d) → T (a || b) → T (c || d)
or_mono true b true d f g h = tt
or_mono true b false d f g h = absurd (f tt)
or_mono false b true d f g h = tt
or_mono false b false d f g h = g h

pub at_least_mono : (b : ℕ) (us vs : List ℕ) → Under us vs → at_least b us ≤ at_least b vs
unfolding at_least
at_least_mono b [] [] h = zero-le
at_least_mono b [] (v ∷ vs) h = absurd h
at_least_mono b (u ∷ us) [] h = absurd h
at_least_mono b (u ∷ us) (v ∷ vs) h =
    add-le-add (holds_mono (leb b u) (leb b v) (λ t. le→leb b v (le_trans (leb→le b u t) h.0))) (at_least_mono b us vs h.1)

pub crowded_mono : (l : ℕ) (rs : List Row) (us vs : List ℕ) → Under us vs → T (crowded l rs us) → T (crowded l rs vs)
unfolding crowded
crowded_mono l [] us vs h t = t
crowded_mono l (r ∷ rs) us vs h t =
    or_mono (ltb r.entries (at_least (2 ^ l) us)) (crowded (l + r.width) rs us) (ltb r.entries (at_least (2 ^ l) vs)) (crowded (l + r.width) rs vs)
    (λ c. lt→ltb r.entries (at_least (2 ^ l) vs) (le_trans (ltb→lt r.entries (at_least (2 ^ l) us) c) (at_least_mono (2 ^ l) us vs h)))
    (crowded_mono (l + r.width) rs us vs h) t

pub under_refl : (vs : List ℕ) → Under vs vs
under_refl [] = tt
under_refl (v ∷ vs) = (le_refl v, under_refl vs)

pub under_set : (vs : List ℕ) (a v' : ℕ) → get_or vs a 0 ≤ v' → Under vs (set vs a v')
under_set [] a v' h = tt
under_set (v ∷ vs) zero v' h = (h, under_refl vs)
under_set (v ∷ vs) (suc a) v' h = (le_refl v, under_set vs a v' h)

-- ---- a whole bucket: its first row has an entry for each count, and the document's rule is of the rows after it

pub bucket-fits : (r : Row) (rs : List Row) (vs : List ℕ) → length vs ≤ r.entries
    → Fits (r ∷ rs) vs ↔ (T (not (crowded r.width rs vs)) × (at_least (2 ^ counter_bits r.width rs) vs ≤ 0))
bucket-fits r rs vs l = (
  (λ f. fits_uncrowded r.width rs vs f.1),
  (λ h. (l, uncrowded_fits r.width rs vs h.0 h.1)),
)

pub T_true : (b : Bool) → T b → true ≡ b
T_true true t = refl
T_true false t = absurd t

pub T_false : (b : Bool) → T (not b) → false ≡ b
T_false true t = absurd t
T_false false t = refl

-- counts that add up to less than b are each below it
pub at_least-sum : (b : ℕ) (vs : List ℕ) → sum vs < b → at_least b vs ≤ 0
unfolding at_least
at_least-sum b [] h = zero-le
at_least-sum b (v ∷ vs) h = rw (sym (T_false (leb b v) (lt→nleb b v (omega arith))), zero-add) (at_least-sum b vs (omega arith))
