-- One level of width w over the values vs that reach it: what it stores, what it marks, and what goes on to the next.
use mathlib.Core.Path.{◌≡◌, refl, ap, ap₂, ◌∙◌}
use mathlib.Core.List.{List, [], ◌∷◌, map}
use Prim.Native.Nat.{ℕ, zero, suc, ◌+◌, ◌*◌, ◌/◌, ◌%◌, ◌^◌, ◌≤◌, ◌<◌}
use native.Mathlib.Nat.{le_trans, le_of_eq, zero-mul, one-mul, zero-div, mod-lt, zero-mod, div-eq_of_lt, le-div_iff_mul-le, add-mul, div_self, mod_self, suc-mul}
use native.Mathlib.Omega.{arith}
use lib.ListN.{length, get_or, set, length-map}
use lib.Pow.{pow_pos, shr-shr, split, high, low}
use Rattle.model.specs.Lists.{sum}
use Rattle.model.specs.Levels.{sign, nonzero, uppers, parts, marks, onward}
use Rattle.model.proofs.Lists.{Below, insert, map-set, get_d_map}
use Rattle.model.proofs.Ranks.{rank_in, nonzero-map, length-nonzero, nonzero-set, nonzero_insert, nonzero-at, sum-keep}

pub below_parts : (w : ℕ) (vs : List ℕ) → Below (2 ^ w) (parts w vs)
below_parts w [] = tt
below_parts w (v ∷ vs) = (mod-lt v (pow_pos w), below_parts w vs)

-- two levels in turn are one of both widths: the values at offset l, taken on by w, are those at offset l + w
pub uppers-uppers : (w l : ℕ) (vs : List ℕ) → uppers w (uppers l vs) ≡ uppers (l + w) vs
uppers-uppers w l [] = refl
uppers-uppers w l (v ∷ vs) = ap₂ ◌∷◌ (shr-shr v l w) (uppers-uppers w l vs)

pub onward-onward : (w l : ℕ) (vs : List ℕ) → onward w (onward l vs) ≡ onward (l + w) vs
onward-onward w l vs = nonzero-map (λ v. v / 2 ^ w) (zero-div (2 ^ w)) (uppers l vs) ∙ ap nonzero (uppers-uppers w l vs)

pub sum_level : (w : ℕ) (vs : List ℕ) → sum vs ≡ sum (onward w vs) * 2 ^ w + sum (parts w vs)
sum_level w [] = rw zero-mul
sum_level w (v ∷ vs) = rw (sum_level w vs, sum-keep (v / 2 ^ w) (onward w vs), add-mul) (omega (arith, split v w))

-- ---- place a

pub upper-at : (w : ℕ) (vs : List ℕ) (a : ℕ) → get_or (uppers w vs) a 0 ≡ get_or vs a 0 / 2 ^ w
upper-at w vs a = get_d_map (λ v. v / 2 ^ w) (zero-div (2 ^ w)) vs a

pub part_at : (w : ℕ) (vs : List ℕ) (a : ℕ) → get_or (parts w vs) a 0 ≡ get_or vs a 0 % 2 ^ w
part_at w vs a = get_d_map (λ v. v % 2 ^ w) (zero-mod (2 ^ w)) vs a

pub mark_at : (w : ℕ) (vs : List ℕ) (a : ℕ) → get_or (marks w vs) a 0 ≡ sign (get_or vs a 0 / 2 ^ w)
mark_at w vs a = get_d_map sign refl (uppers w vs) a ∙ ap sign (upper-at w vs a)

-- the value that the next level holds for place a, at the rank of a, is what is above the part; without a mark nothing is
pub onward-at : (w : ℕ) (vs : List ℕ) (a : ℕ) → get_or (marks w vs) a 0 * get_or (onward w vs) (rank_in (uppers w vs) a) 0 ≡ get_or vs a 0 / 2 ^ w
onward-at w vs a = nonzero-at (uppers w vs) a ∙ upper-at w vs a

pub length-onward : (w : ℕ) (vs : List ℕ) → length (onward w vs) ≡ sum (marks w vs)
length-onward w vs = length-nonzero (uppers w vs)

-- ---- a value v at place a is replaced by v'

pub div_pos : (w : ℕ) {v : ℕ} → 2 ^ w ≤ v → 0 < v / 2 ^ w
div_pos w {v} h = (le-div_iff_mul-le (pow_pos w)).1 (rw one-mul h)

module _ (w : ℕ) (vs : List ℕ) (a v' : ℕ) where
  pub parts-set : parts w (set vs a v') ≡ set (parts w vs) a (v' % 2 ^ w)
  parts-set = map-set (λ v. v % 2 ^ w) vs a v'

  pub uppers-set : uppers w (set vs a v') ≡ set (uppers w vs) a (v' / 2 ^ w)
  uppers-set = map-set (λ v. v / 2 ^ w) vs a v'

  pub marks-set : marks w (set vs a v') ≡ set (marks w vs) a (sign (v' / 2 ^ w))
  marks-set = ap (map sign) uppers-set ∙ map-set sign (uppers w vs) a (v' / 2 ^ w)

  -- the mark was set: the next level's entry at the rank is replaced
  pub onward-set : 2 ^ w ≤ get_or vs a 0 → 2 ^ w ≤ v' → onward w (set vs a v') ≡ set (onward w vs) (rank_in (uppers w vs) a) (v' / 2 ^ w)
  onward-set h h' = ap nonzero uppers-set ∙ nonzero-set (uppers w vs) a (v' / 2 ^ w) (rw upper-at (div_pos w h)) (div_pos w h')

  -- the mark is newly set: an entry comes in at the rank
  pub onward_insert : a < length vs → get_or vs a 0 < 2 ^ w → 2 ^ w ≤ v' → onward w (set vs a v') ≡ insert (onward w vs) (rank_in (uppers w vs) a) (v' / 2 ^ w)
  onward_insert l h h' = ap nonzero uppers-set ∙ nonzero_insert (uppers w vs) a (v' / 2 ^ w) (rw length-map l) (upper-at w vs a ∙ div-eq_of_lt h) (div_pos w h')

-- an increment that carries out of the level leaves a part of 0 and starts the next at 1
pub carry : (w v : ℕ) → v < 2 ^ w → 2 ^ w ≤ v + 1 → ((v + 1) / 2 ^ w ≡ 1) × ((v + 1) % 2 ^ w ≡ 0)
carry w v h h' = let e : v + 1 ≡ 2 ^ w = omega arith in (ap (λ x. x / 2 ^ w) e ∙ div_self (pow_pos w), ap (λ x. x % 2 ^ w) e ∙ mod_self (2 ^ w))

-- a value is nonzero where its part or its mark is
pub mark_le : (w v : ℕ) → v % 2 ^ w + sign (v / 2 ^ w) ≤ v
mark_le w v = le_trans (go (v / 2 ^ w)) (le_of_eq (split v w))
  where
    go : (q : ℕ) → v % 2 ^ w + sign q ≤ q * 2 ^ w + v % 2 ^ w
    go zero = omega arith
    go (suc q) = rw suc-mul (omega (arith, pow_pos w))

pub le_mark : (w v lo : ℕ) → lo ≤ 1 → lo ≤ v → lo ≤ v % 2 ^ w + sign (v / 2 ^ w)
le_mark w v lo k h = go (v / 2 ^ w) (split v w)
  where
    go : (q : ℕ) → q * 2 ^ w + v % 2 ^ w ≡ v → lo ≤ v % 2 ^ w + sign q
    go zero e = omega (arith, rw zero-mul at e)
    go (suc q) e = omega arith

-- ---- values put together from parts and what stands above them

abbrev pub join_parts : ℕ → List ℕ → List ℕ → List ℕ
join_parts w [] qs = []
join_parts w (p ∷ ps) [] = p ∷ join_parts w ps []
join_parts w (p ∷ ps) (q ∷ qs) = (q * 2 ^ w + p) ∷ join_parts w ps qs

pub length_join : (w : ℕ) (ps qs : List ℕ) → length (join_parts w ps qs) ≡ length ps
length_join w [] qs = refl
length_join w (p ∷ ps) [] = ap suc (length_join w ps [])
length_join w (p ∷ ps) (q ∷ qs) = ap suc (length_join w ps qs)

pub parts_join : (w : ℕ) (ps qs : List ℕ) → Below (2 ^ w) ps → length ps ≡ length qs → parts w (join_parts w ps qs) ≡ ps
parts_join w [] qs h l = refl
parts_join w (p ∷ ps) [] h l = absurd (omega arith)
parts_join w (p ∷ ps) (q ∷ qs) h l = ap₂ ◌∷◌ (low q w h.0) (parts_join w ps qs h.1 (omega arith))

pub uppers_join : (w : ℕ) (ps qs : List ℕ) → Below (2 ^ w) ps → length ps ≡ length qs → uppers w (join_parts w ps qs) ≡ qs
uppers_join w [] [] h l = refl
uppers_join w [] (q ∷ qs) h l = absurd (omega arith)
uppers_join w (p ∷ ps) [] h l = absurd (omega arith)
uppers_join w (p ∷ ps) (q ∷ qs) h l = ap₂ ◌∷◌ (high q w h.0) (uppers_join w ps qs h.1 (omega arith))
