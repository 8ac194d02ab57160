-- The levels of given values: what a counter that comes in or rises makes of them is the levels of the values with it, and there is
-- room exactly where these fit.
use mathlib.Core.Path.{◌≡◌, refl, sym, ap, ◌∙◌}
use mathlib.Core.Bool.{Bool, true, ◌&&◌}
use mathlib.Core.Logic.{◌↔◌}
use mathlib.Core.List.{List, [], ◌∷◌}
use Prim.Native.Nat.{ℕ, zero, suc, ◌+◌, ◌*◌, ◌/◌, ◌%◌, ◌^◌, ◌≤◌, ◌<◌}
use native.Mathlib.Nat.{le_trans, not-suc-le-zero, zero-lt-suc, zero-add, suc-mul, zero-mul, mod-lt}
use native.Mathlib.Numerals.{one-add}
use native.Mathlib.Omega.{arith}
use lib.Dec.{T, ltb, ltb→lt, lt→ltb}
use lib.ListN.{length, get_or, set, length-map, length-set}
use lib.Seq.{set-get_or}
use lib.Pow.{pow_pos, shr_mono, split}
use Rattle.model.specs.Lists.{by_mark}
use Rattle.model.specs.Packed.{pack, put_in, replaced}
use Rattle.model.specs.Shapes.{Row}
use Rattle.model.specs.Levels.{level, sign, keep, nonzero, parts, uppers, marks, onward, encode}
use Rattle.model.proofs.Lists.{insert, map-insert, length-insert}
use Rattle.model.proofs.Packing.{pack-set, pack_insert}
use Rattle.model.proofs.Ranks.{rank_in, rank_le, rank_lt, nonzero_insert_zero, nonzero-rank, below-sign, sign_zero, sign_pos, sign_one}
use Rattle.model.proofs.Values.{below_parts, parts-set, marks-set, uppers-set, upper-at, mark_at, onward_insert, onward-set}
use Rattle.model.proofs.Coding.{Fits, bit-encode, rank_coded, ones-marks}
use Rattle.model.proofs.Tools.{and_tests, tests_and}
use Rattle.rooms.specs.Growth.{entering, room_to_enter, raising, room_to_raise}

-- ---- a counter comes in

nonzero_in : (qs : List ℕ) (k q : ℕ) → 0 < q → nonzero (insert qs k q) ≡ insert (nonzero qs) (rank_in qs k) q
nonzero_in qs k zero h = absurd (not-suc-le-zero h)
nonzero_in [] zero (suc q) h = refl
nonzero_in (x ∷ qs) zero (suc q) h = refl
nonzero_in [] (suc k) (suc q) h = refl
nonzero_in (zero ∷ qs) (suc k) (suc q) h = rw zero-add (nonzero_in qs k (suc q) h)
nonzero_in (suc x ∷ qs) (suc k) (suc q) h = rw one-add (ap (keep (suc x)) (nonzero_in qs k (suc q) h))

on_cases : {A : Type 0} (P : A → Type 0) (q : ℕ) {x y : A} → (q ≡ 0 → P x) → (0 < q → P y) → P (by_mark q x y)
on_cases P zero f g = f refl
on_cases P (suc q) f g = g (zero-lt-suc q)

pub entering-encode : (rs : List Row) (us : List ℕ) (k v : ℕ) → k ≤ length us → entering rs (encode rs us) k v ≡ encode rs (insert us k v)
unfolding entering encode
entering-encode [] us k v l = refl
entering-encode (r ∷ rs) us k v l =
    let w : ℕ = r.width in
    let q : ℕ = v / 2 ^ w in
    let p : parts w (insert us k v) ≡ insert (parts w us) k (v % 2 ^ w) = map-insert (λ x. x % 2 ^ w) us k v in
    let u : uppers w (insert us k v) ≡ insert (uppers w us) k q = map-insert (λ x. x / 2 ^ w) us k v in
    rw (p, u, map-insert sign (uppers w us) k q, pack_insert w (parts w us) k (v % 2 ^ w) (below_parts w us) (rw length-map l), pack_insert 1 (marks w us) k (sign q) (below-sign (uppers w us)) (simp length-map l), rank_coded w us k)
    (ap (λ x. level (put_in w (pack w (parts w us)) k (v % 2 ^ w)) (put_in 1 (pack 1 (marks w us)) k (sign q)) ∷ x)
    (on_cases (λ x. x ≡ encode rs (nonzero (insert (uppers w us) k q))) q
    (λ z. rw (z, nonzero_insert_zero))
    (λ z. entering-encode rs (onward w us) (rank_in (uppers w us) k) q (rank_le (uppers w us) k) ∙ ap (encode rs) (sym (nonzero_in (uppers w us) k q z)))))

-- ---- a count rises

pos_le : (w v : ℕ) → 0 < v / 2 ^ w → 2 ^ w ≤ v
pos_le w v h = go (v / 2 ^ w) (split v w) h
  where
    go : (q : ℕ) → q * 2 ^ w + v % 2 ^ w ≡ v → 0 < q → 2 ^ w ≤ v
    go zero e p = absurd (not-suc-le-zero p)
    go (suc q) e p = omega (arith, rw suc-mul at e)

pub zero-lt : (w v : ℕ) → v / 2 ^ w ≡ 0 → v < 2 ^ w
zero-lt w v h = omega (arith, rw (h, zero-mul) at (split v w), mod-lt v (pow_pos w))

pub raise_stay : (r : Row) (rs : List Row) (vs : List ℕ) (a v : ℕ) → a < length vs → v / 2 ^ r.width ≡ get_or vs a 0 / 2 ^ r.width
    → level (replaced r.width (pack r.width (parts r.width vs)) a (v % 2 ^ r.width)) (pack 1 (marks r.width vs)) ∷ encode rs (onward r.width vs) ≡ encode (r ∷ rs) (set vs a v)
unfolding encode
raise_stay r rs vs a v l e =
    let w : ℕ = r.width in
    let u : uppers w (set vs a v) ≡ uppers w vs = uppers-set w vs a v ∙ ap (set (uppers w vs) a) (e ∙ sym (upper-at w vs a)) ∙ set-get_or (uppers w vs) a 0 in
    rw (u, parts-set w vs a v, pack-set w (parts w vs) a (v % 2 ^ w) (below_parts w vs) (rw length-map l))

pub raising-encode : (rs : List Row) (vs : List ℕ) (a v : ℕ) → a < length vs → get_or vs a 0 ≤ v → raising rs (encode rs vs) a v ≡ encode rs (set vs a v)
unfolding raising encode
raising-encode [] vs a v l h = refl
raising-encode (r ∷ rs) vs a v l h =
    let w : ℕ = r.width in
    let o : ℕ = get_or vs a 0 in
    let mono : o / 2 ^ w ≤ v / 2 ^ w = shr_mono w h in
    rw (bit-encode w vs a, rank_coded w vs a)
    (on_cases (λ x. x ≡ encode (r ∷ rs) (set vs a v)) (v / 2 ^ w)
    (λ z. raise_stay r rs vs a v l (z ∙ sym (let y : o / 2 ^ w ≡ 0 = omega arith in y)))
    (λ z. on_cases (λ x. x ≡ encode (r ∷ rs) (set vs a v)) (sign (o / 2 ^ w))
    (λ y. raise_in r rs vs a v l (sign_zero (o / 2 ^ w) y) z)
    (λ y. raise_on r rs vs a v l (sign_pos (o / 2 ^ w) y) z
    (raising-encode rs (onward w vs) (rank_in (uppers w vs) a) (v / 2 ^ w) (rank_lt (uppers w vs) a (rw upper-at (sign_pos (o / 2 ^ w) y)))
    (rw (nonzero-rank (uppers w vs) a (rw upper-at (sign_pos (o / 2 ^ w) y)), upper-at w vs a) mono)))))
  where
    raise_in : (r : Row) (rs : List Row) (vs : List ℕ) (a v : ℕ) → a < length vs → get_or vs a 0 / 2 ^ r.width ≡ 0 → 0 < v / 2 ^ r.width
        → level (replaced r.width (pack r.width (parts r.width vs)) a (v % 2 ^ r.width)) (replaced 1 (pack 1 (marks r.width vs)) a 1) ∷ entering rs (encode rs (onward r.width vs)) (rank_in (uppers r.width vs) a) (v / 2 ^ r.width)
        ≡ encode (r ∷ rs) (set vs a v)
    raise_in r rs vs a v l y z =
        let w : ℕ = r.width in
        rw (
          onward_insert w vs a v l (zero-lt w (get_or vs a 0) y) (pos_le w v z),
          marks-set w vs a v,
          sign_one (v / 2 ^ w) z,
          parts-set w vs a v,
          pack-set w (parts w vs) a (v % 2 ^ w) (below_parts w vs) (rw length-map l),
          pack-set 1 (marks w vs) a 1 (below-sign (uppers w vs)) (simp length-map l),
          entering-encode rs (onward w vs) (rank_in (uppers w vs) a) (v / 2 ^ w) (rank_le (uppers w vs) a),
        )

    raise_on : (r : Row) (rs : List Row) (vs : List ℕ) (a v : ℕ) → a < length vs → 0 < get_or vs a 0 / 2 ^ r.width → 0 < v / 2 ^ r.width
        → raising rs (encode rs (onward r.width vs)) (rank_in (uppers r.width vs) a) (v / 2 ^ r.width) ≡ encode rs (set (onward r.width vs) (rank_in (uppers r.width vs) a) (v / 2 ^ r.width))
        → level (replaced r.width (pack r.width (parts r.width vs)) a (v % 2 ^ r.width)) (pack 1 (marks r.width vs)) ∷ raising rs (encode rs (onward r.width vs)) (rank_in (uppers r.width vs) a) (v / 2 ^ r.width)
        ≡ encode (r ∷ rs) (set vs a v)
    raise_on r rs vs a v l y z ih =
        let w : ℕ = r.width in
        let m : sign (v / 2 ^ w) ≡ get_or (marks w vs) a 0 = sign_one (v / 2 ^ w) z ∙ sym (mark_at w vs a ∙ sign_one (get_or vs a 0 / 2 ^ w) y) in
        rw (
          ih,
          onward-set w vs a v (pos_le w (get_or vs a 0) y) (pos_le w v z),
          marks-set w vs a v,
          m,
          set-get_or (marks w vs) a 0,
          parts-set w vs a v,
          pack-set w (parts w vs) a (v % 2 ^ w) (below_parts w vs) (rw length-map l),
        )

-- ---- there is room exactly where the counts after the step fit

and_T : (a b : Bool) → T (a && b) ↔ (T a × T b)
and_T a b = (and_tests a b, λ h. tests_and a b h.0 h.1)

pub room-to-enter : (rs : List Row) (us : List ℕ) (k v : ℕ) → Fits rs us → T (room_to_enter rs (length us) (encode rs us) v) ↔ Fits rs (insert us k v)
unfolding room_to_enter encode
room-to-enter [] us k v f = ((λ t. absurd t), (λ g. absurd (not-suc-le-zero (rw length-insert at g))))
room-to-enter (r ∷ rs) us k v f =
    let w : ℕ = r.width in
    let q : ℕ = v / 2 ^ w in
    let u : uppers w (insert us k v) ≡ insert (uppers w us) k q = map-insert (λ x. x / 2 ^ w) us k v in
    rw (ones-marks w us, u, length-insert)
    (on_cases (λ b. T (ltb (length us) r.entries && b) ↔ ((suc (length us) ≤ r.entries) × Fits rs (nonzero (insert (uppers w us) k q)))) q
    (λ z. rw (z, nonzero_insert_zero) (
      (λ t. (ltb→lt (length us) r.entries ((and_T (ltb (length us) r.entries) true).0 t).0, f.1)),
      (λ g. (and_T (ltb (length us) r.entries) true).1 (lt→ltb (length us) r.entries g.0, tt)),
    ))
    (λ z.
    let i = room-to-enter rs (onward w us) (rank_in (uppers w us) k) q f.1 in
    rw (nonzero_in (uppers w us) k q z) (
      (λ t. let p = (and_T (ltb (length us) r.entries) (room_to_enter rs (length (onward w us)) (encode rs (onward w us)) q)).0 t in (ltb→lt (length us) r.entries p.0, i.0 p.1)),
      (λ g. (and_T (ltb (length us) r.entries) (room_to_enter rs (length (onward w us)) (encode rs (onward w us)) q)).1 (lt→ltb (length us) r.entries g.0, i.1 g.1)),
    )))

-- what a value has above the first level stays
pub fits_same : (r : Row) (rs : List Row) (vs : List ℕ) (a v : ℕ) → Fits (r ∷ rs) vs → v / 2 ^ r.width ≡ get_or vs a 0 / 2 ^ r.width → Fits (r ∷ rs) (set vs a v)
fits_same r rs vs a v f e =
    let w : ℕ = r.width in
    let u : uppers w (set vs a v) ≡ uppers w vs = uppers-set w vs a v ∙ ap (set (uppers w vs) a) (e ∙ sym (upper-at w vs a)) ∙ set-get_or (uppers w vs) a 0 in
    (rw length-set f.0, rw u f.1)

pub room-to-raise : (rs : List Row) (vs : List ℕ) (a v : ℕ) → Fits rs vs → a < length vs → get_or vs a 0 ≤ v → T (room_to_raise rs (encode rs vs) a v) ↔ Fits rs (set vs a v)
unfolding room_to_raise encode
room-to-raise [] vs a v f l h = absurd (not-suc-le-zero (le_trans l f))
room-to-raise (r ∷ rs) vs a v f l h =
    let w : ℕ = r.width in
    let o : ℕ = get_or vs a 0 in
    let mono : o / 2 ^ w ≤ v / 2 ^ w = shr_mono w h in
    rw (bit-encode w vs a, rank_coded w vs a, ones-marks w vs)
    (on_cases (λ b. T b ↔ Fits (r ∷ rs) (set vs a v)) (v / 2 ^ w)
    (λ z.
    let y : v / 2 ^ w ≡ o / 2 ^ w = omega arith in
    let u : uppers w (set vs a v) ≡ uppers w vs = uppers-set w vs a v ∙ ap (set (uppers w vs) a) (y ∙ sym (upper-at w vs a)) ∙ set-get_or (uppers w vs) a 0 in
    ((λ t. (rw length-set f.0, rw u f.1)), (λ g. tt)))
    (λ z. on_cases (λ b. T b ↔ Fits (r ∷ rs) (set vs a v)) (sign (o / 2 ^ w))
    (λ y.
    let u = onward_insert w vs a v l (zero-lt w o (sign_zero (o / 2 ^ w) y)) (pos_le w v z) in
    let i = room-to-enter rs (onward w vs) (rank_in (uppers w vs) a) (v / 2 ^ w) f.1 in
    ((λ t. (rw length-set f.0, rw u (i.0 t))), (λ g. i.1 (rw u at g.1))))
    (λ y.
    let p : 0 < get_or (uppers w vs) a 0 = rw upper-at (sign_pos (o / 2 ^ w) y) in
    let u = onward-set w vs a v (pos_le w o (sign_pos (o / 2 ^ w) y)) (pos_le w v z) in
    let i = room-to-raise rs (onward w vs) (rank_in (uppers w vs) a) (v / 2 ^ w) f.1 (rank_lt (uppers w vs) a p) (rw (nonzero-rank (uppers w vs) a p, upper-at w vs a) mono) in
    ((λ t. (rw length-set f.0, rw u (i.0 t))), (λ g. i.1 (rw u at g.1))))))
