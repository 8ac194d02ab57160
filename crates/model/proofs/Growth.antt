-- One is added to one count of a bucket: what the levels become, on the packed words.
use mathlib.Core.Path.{◌≡◌, refl, sym, ap, ◌∙◌}
use mathlib.Core.Bool.{Bool, true, false, not}
use mathlib.Core.Logic.{◌↔◌}
use mathlib.Core.List.{List, [], ◌∷◌}
use Prim.Native.Nat.{ℕ, zero, suc, ◌+◌, ◌*◌, ◌/◌, ◌%◌, ◌^◌, ◌≤◌, ◌<◌}
use native.Mathlib.Nat.{le_refl, le_trans, not-suc-le-zero, zero-lt-suc, one-mul, mod-eq_of_lt, div-eq_of_lt, mod-lt, add-mul}
use native.Mathlib.Omega.{arith}
use lib.Dec.{T, ltb, ltb→lt, lt→ltb, nltb→le}
use lib.ListN.{length, get_or, set, length-map, length-set}
use lib.Seq.{set-get_or}
use lib.Pow.{pow_pos, pow_mono, split, high, low}
use Rattle.model.specs.Packed.{pack, replaced}
use Rattle.model.specs.Shapes.{Row}
use Rattle.model.specs.Levels.{sign, uppers, parts, marks, onward, level, encode}
use Rattle.model.specs.Growing.{entered, by_carry, incremented, entries_of, has_room}
use Rattle.model.proofs.Lists.{insert, length-insert, map-insert}
use Rattle.model.proofs.Packing.{pack-set, pack_insert}
use Rattle.model.proofs.Ranks.{rank_in, rank_le, rank_lt, nonzero_insert_zero, nonzero-set, nonzero_insert, below-sign, sign_zero, sign_pos, sign_one, nonzero-rank}
use Rattle.model.proofs.Values.{below_parts, parts-set, marks-set, uppers-set, upper-at, mark_at}
use Rattle.model.proofs.Coding.{entry-encode, bit-encode, rank_coded, used_coded, Fits}

-- no width is 0
abbrev pub Wide : List Row → Type 0
Wide [] = Unit {0}
Wide (r ∷ rs) = (1 ≤ r.width) × Wide rs

-- ---- one more, below a power of two and at it

module _ (w v : ℕ) where
  div_stay : v % 2 ^ w + 1 < 2 ^ w → (v + 1) / 2 ^ w ≡ v / 2 ^ w
  div_stay h = ap (λ x. x / 2 ^ w) (omega (arith, split v w)) ∙ high (v / 2 ^ w) w h

  mod_stay : v % 2 ^ w + 1 < 2 ^ w → (v + 1) % 2 ^ w ≡ v % 2 ^ w + 1
  mod_stay h = ap (λ x. x % 2 ^ w) (omega (arith, split v w)) ∙ low (v / 2 ^ w) w h

  full : 2 ^ w ≤ v % 2 ^ w + 1 → v + 1 ≡ (v / 2 ^ w + 1) * 2 ^ w + 0
  full h = rw (add-mul, one-mul) (omega (arith, split v w, mod-lt v (pow_pos w)))

  div_carry : 2 ^ w ≤ v % 2 ^ w + 1 → (v + 1) / 2 ^ w ≡ v / 2 ^ w + 1
  div_carry h = ap (λ x. x / 2 ^ w) (full h) ∙ high (v / 2 ^ w + 1) w (pow_pos w)

  mod_carry : 2 ^ w ≤ v % 2 ^ w + 1 → (v + 1) % 2 ^ w ≡ 0
  mod_carry h = ap (λ x. x % 2 ^ w) (full h) ∙ low (v / 2 ^ w + 1) w (pow_pos w)

-- ---- a counter of value 1 comes in

one-lt : (w : ℕ) → 1 ≤ w → 1 < 2 ^ w
one-lt w h = pow_mono h

onward-fresh : (w : ℕ) (us : List ℕ) (k : ℕ) → 1 ≤ w → onward w (insert us k 1) ≡ onward w us
onward-fresh w us k h = rw (map-insert (λ v. v / 2 ^ w) us k 1, div-eq_of_lt (one-lt w h)) (nonzero_insert_zero (uppers w us) k)

pub open_encode : (rs : List Row) (us : List ℕ) (k : ℕ) → Wide rs → k ≤ length us → entered rs (encode rs us) k ≡ encode rs (insert us k 1)
unfolding encode entered
open_encode [] us k h l = refl
open_encode (r ∷ rs) us k h l =
    let w : ℕ = r.width in
    let p : parts w (insert us k 1) ≡ insert (parts w us) k 1 =
    map-insert (λ v. v % 2 ^ w) us k 1 ∙ ap (insert (parts w us) k) (mod-eq_of_lt (one-lt w h.0)) in
    let u : uppers w (insert us k 1) ≡ insert (uppers w us) k 0 =
    map-insert (λ v. v / 2 ^ w) us k 1 ∙ ap (insert (uppers w us) k) (div-eq_of_lt (one-lt w h.0)) in
    rw (p, u, nonzero_insert_zero, map-insert sign, pack_insert w (parts w us) k 1 (below_parts w us) (rw length-map l), pack_insert 1 (marks w us) k 0 (below-sign (uppers w us)) (simp length-map l))

-- ---- a count rises by one

-- what stands above place a's part stays, and all that is made of it
uppers_stay : (w : ℕ) (vs : List ℕ) (a v' : ℕ) → v' / 2 ^ w ≡ get_or vs a 0 / 2 ^ w → uppers w (set vs a v') ≡ uppers w vs
uppers_stay w vs a v' e = uppers-set w vs a v' ∙ ap (set (uppers w vs) a) (e ∙ sym (upper-at w vs a)) ∙ set-get_or (uppers w vs) a 0

-- what goes on, in the other two cases
onward_open : (w : ℕ) (vs : List ℕ) (a : ℕ) → a < length vs → 2 ^ w ≤ get_or vs a 0 % 2 ^ w + 1 → get_or vs a 0 / 2 ^ w ≡ 0
    → onward w (set vs a (get_or vs a 0 + 1)) ≡ insert (onward w vs) (rank_in (uppers w vs) a) 1
onward_open w vs a l c q =
    rw (uppers-set w vs a (get_or vs a 0 + 1), div_carry w (get_or vs a 0) c, q) (nonzero_insert (uppers w vs) a 1 (rw length-map l) (upper-at w vs a ∙ q) (le_refl 1))

onward_goes : (w : ℕ) (vs : List ℕ) (a : ℕ) → 2 ^ w ≤ get_or vs a 0 % 2 ^ w + 1 → 0 < get_or vs a 0 / 2 ^ w
    → onward w (set vs a (get_or vs a 0 + 1)) ≡ set (onward w vs) (rank_in (uppers w vs) a) (get_or (onward w vs) (rank_in (uppers w vs) a) 0 + 1)
onward_goes w vs a c p =
    let q : 0 < get_or (uppers w vs) a 0 = rw upper-at p in
    rw (nonzero-rank (uppers w vs) a q, upper-at w vs a, uppers-set w vs a (get_or vs a 0 + 1), div_carry w (get_or vs a 0) c)
    (nonzero-set (uppers w vs) a (get_or vs a 0 / 2 ^ w + 1) q (omega arith))

pick_cases : {A : Type 0} (P : A → Type 0) (b : Bool) (m : ℕ) {stay new on : A} → (T b → P stay) → (T (not b) → m ≡ 0 → P new) → (T (not b) → 0 < m → P on) → P (by_carry b m stay new on)
pick_cases P true m f g h = f tt
pick_cases P false zero f g h = g tt refl
pick_cases P false (suc m) f g h = h tt (zero-lt-suc m)

-- the three cases of a level of width w with the value v at place a
stays : (r : Row) (rs : List Row) (vs : List ℕ) (a : ℕ) → a < length vs → get_or vs a 0 % 2 ^ r.width + 1 < 2 ^ r.width
    → level (replaced r.width (pack r.width (parts r.width vs)) a (get_or vs a 0 % 2 ^ r.width + 1)) (pack 1 (marks r.width vs)) ∷ encode rs (onward r.width vs)
    ≡ encode (r ∷ rs) (set vs a (get_or vs a 0 + 1))
unfolding encode
stays r rs vs a l c =
    let w : ℕ = r.width in
    let v : ℕ = get_or vs a 0 in
    rw (uppers_stay w vs a (v + 1) (div_stay w v c), parts-set w vs a (v + 1), mod_stay w v c, pack-set w (parts w vs) a (v % 2 ^ w + 1) (below_parts w vs) (rw length-map l))

opens : (r : Row) (rs : List Row) (vs : List ℕ) (a : ℕ) → Wide rs → a < length vs → 2 ^ r.width ≤ get_or vs a 0 % 2 ^ r.width + 1 → get_or vs a 0 / 2 ^ r.width ≡ 0
    → level (replaced r.width (pack r.width (parts r.width vs)) a 0) (replaced 1 (pack 1 (marks r.width vs)) a 1) ∷ entered rs (encode rs (onward r.width vs)) (rank_in (uppers r.width vs) a)
    ≡ encode (r ∷ rs) (set vs a (get_or vs a 0 + 1))
unfolding encode
opens r rs vs a h l c q =
    let w : ℕ = r.width in
    rw (
      onward_open w vs a l c q,
      marks-set w vs a (get_or vs a 0 + 1),
      div_carry w (get_or vs a 0) c,
      q,
      parts-set w vs a (get_or vs a 0 + 1),
      mod_carry w (get_or vs a 0) c,
      pack-set w (parts w vs) a 0 (below_parts w vs) (rw length-map l),
      pack-set 1 (marks w vs) a 1 (below-sign (uppers w vs)) (simp length-map l),
      open_encode rs (onward w vs) (rank_in (uppers w vs) a) h (rank_le (uppers w vs) a),
    )

goes_on : (r : Row) (rs : List Row) (vs : List ℕ) (a : ℕ) → a < length vs → 2 ^ r.width ≤ get_or vs a 0 % 2 ^ r.width + 1 → 0 < get_or vs a 0 / 2 ^ r.width
    → level (replaced r.width (pack r.width (parts r.width vs)) a 0) (pack 1 (marks r.width vs))
    ∷ encode rs (set (onward r.width vs) (rank_in (uppers r.width vs) a) (get_or (onward r.width vs) (rank_in (uppers r.width vs) a) 0 + 1))
    ≡ encode (r ∷ rs) (set vs a (get_or vs a 0 + 1))
unfolding encode
goes_on r rs vs a l c p =
    let w : ℕ = r.width in
    let v : ℕ = get_or vs a 0 in
    let m : sign ((v + 1) / 2 ^ w) ≡ get_or (marks w vs) a 0 =
    ap sign (div_carry w v c) ∙ sign_one (v / 2 ^ w + 1) (omega arith) ∙ sym (mark_at w vs a ∙ sign_one (v / 2 ^ w) p) in
    rw (
      onward_goes w vs a c p,
      marks-set w vs a (v + 1),
      m,
      set-get_or (marks w vs) a 0,
      parts-set w vs a (v + 1),
      mod_carry w v c,
      pack-set w (parts w vs) a 0 (below_parts w vs) (rw length-map l),
    )

pub bump_encode : (rs : List Row) (vs : List ℕ) (a : ℕ) → Wide rs → a < length vs → incremented rs (encode rs vs) a ≡ encode rs (set vs a (get_or vs a 0 + 1))
unfolding encode incremented
bump_encode [] vs a h l = refl
bump_encode (r ∷ rs) vs a h l =
    let w : ℕ = r.width in
    let v : ℕ = get_or vs a 0 in
    rw (entry-encode w vs a, bit-encode w vs a, rank_coded w vs a)
    (pick_cases (λ ls. ls ≡ encode (r ∷ rs) (set vs a (v + 1))) (ltb (v % 2 ^ w + 1) (2 ^ w)) (sign (v / 2 ^ w))
    (λ c. stays r rs vs a l (ltb→lt (v % 2 ^ w + 1) (2 ^ w) c))
    (λ c z. opens r rs vs a h.1 l (nltb→le (v % 2 ^ w + 1) (2 ^ w) c) (sign_zero (v / 2 ^ w) z))
    (λ c z.
    let q : 0 < v / 2 ^ w = sign_pos (v / 2 ^ w) z in
    rw (bump_encode rs (onward w vs) (rank_in (uppers w vs) a) h.1 (rank_lt (uppers w vs) a (rw upper-at q)))
    (goes_on r rs vs a l (nltb→le (v % 2 ^ w + 1) (2 ^ w) c) q)))

-- ---- the increment has room where the counts after it fit, and only there

fresh-fits : (rs : List Row) (us : List ℕ) (k : ℕ) → Wide rs → Fits rs us → T (ltb (length us) (entries_of rs)) ↔ Fits rs (insert us k 1)
fresh-fits [] us k h f = ((λ t. absurd (not-suc-le-zero (ltb→lt (length us) 0 t))), (λ g. absurd (not-suc-le-zero (rw length-insert at g))))
fresh-fits (r ∷ rs) us k h f = (
  (λ t. (rw length-insert (ltb→lt (length us) r.entries t), rw (onward-fresh r.width us k h.0) f.1)),
  (λ g. lt→ltb (length us) r.entries (rw length-insert at g.0)),
)

pub room_fits : (rs : List Row) (vs : List ℕ) (a : ℕ) → Wide rs → Fits rs vs → a < length vs → T (has_room rs (length vs) (encode rs vs) a) ↔ Fits rs (set vs a (get_or vs a 0 + 1))
unfolding encode has_room
room_fits [] vs a h f l = absurd (not-suc-le-zero (le_trans l f))
room_fits (r ∷ rs) vs a h f l =
    let w : ℕ = r.width in
    let v : ℕ = get_or vs a 0 in
    let k : ℕ = rank_in (uppers w vs) a in
    rw (entry-encode w vs a, bit-encode w vs a, rank_coded w vs a, used_coded w vs)
    (pick_cases (λ b. T b ↔ Fits (r ∷ rs) (set vs a (v + 1))) (ltb (v % 2 ^ w + 1) (2 ^ w)) (sign (v / 2 ^ w))
    (λ c.
    let u = uppers_stay w vs a (v + 1) (div_stay w v (ltb→lt (v % 2 ^ w + 1) (2 ^ w) c)) in
    ((λ t. (rw length-set f.0, rw u f.1)), (λ g. tt)))
    (λ c z.
    let u = onward_open w vs a l (nltb→le (v % 2 ^ w + 1) (2 ^ w) c) (sign_zero (v / 2 ^ w) z) in
    let i = fresh-fits rs (onward w vs) k h.1 f.1 in
    ((λ t. (rw length-set f.0, rw u (i.0 t))), (λ g. i.1 (rw u at g.1))))
    (λ c z.
    let q : 0 < v / 2 ^ w = sign_pos (v / 2 ^ w) z in
    let u = onward_goes w vs a (nltb→le (v % 2 ^ w + 1) (2 ^ w) c) q in
    let i = room_fits rs (onward w vs) k h.1 f.1 (rank_lt (uppers w vs) a (rw upper-at q)) in
    ((λ t. (rw length-set f.0, rw u (i.0 t))), (λ g. i.1 (rw u at g.1)))))
