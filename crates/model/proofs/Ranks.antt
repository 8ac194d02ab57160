-- A list of numbers as its marks (which of them are nonzero) and its nonzero elements in order: place a's element is the rank-th of those.
use mathlib.Core.Path.{◌≡◌, refl, sym, ap, ap₂}
use mathlib.Core.List.{List, [], ◌∷◌, map}
use Prim.Native.Nat.{ℕ, zero, suc, ◌+◌, ◌*◌, ◌≤◌, ◌<◌, zero-le, suc-le-suc}
use native.Mathlib.Nat.{le_refl, le_of_suc-le-suc, not-suc-le-zero, zero-lt-suc, zero-mul, one-mul, zero-add, suc-ne-zero}
use native.Mathlib.Numerals.{one-add}
use native.Mathlib.Omega.{arith}
use lib.ListN.{length, take, get_or, set}
use Rattle.model.specs.Lists.{sum}
use Rattle.model.specs.Levels.{sign, keep, nonzero}
use Rattle.model.proofs.Lists.{Below, Least, insert}

-- how many nonzero elements stand before place a
abbrev pub rank_in : List ℕ → ℕ → ℕ
rank_in [] a = 0
rank_in (q ∷ qs) zero = 0
rank_in (q ∷ qs) (suc a) = sign q + rank_in qs a

-- the list whose marks are ms and whose nonzero elements are us
abbrev pub scatter : List ℕ → List ℕ → List ℕ
scatter [] us = []
scatter (zero ∷ ms) us = 0 ∷ scatter ms us
scatter (suc m ∷ ms) [] = 0 ∷ scatter ms []
scatter (suc m ∷ ms) (u ∷ us) = u ∷ scatter ms us

pub sign_zero : (q : ℕ) → sign q ≡ 0 → q ≡ 0
sign_zero zero e = refl
sign_zero (suc q) e = absurd (omega arith)

pub sign_pos : (q : ℕ) → 0 < sign q → 0 < q
sign_pos zero h = h
sign_pos (suc q) h = zero-lt-suc q

pub sign_one : (q : ℕ) → 0 < q → sign q ≡ 1
sign_one zero h = absurd (not-suc-le-zero h)
sign_one (suc q) h = refl

pub sign_lt : (q : ℕ) → sign q < 2
sign_lt zero = zero-lt-suc 1
sign_lt (suc q) = le_refl 2

pub below-sign : (qs : List ℕ) → Below 2 (map sign qs)
below-sign [] = tt
below-sign (q ∷ qs) = (sign_lt q, below-sign qs)

pub length-nonzero : (qs : List ℕ) → length (nonzero qs) ≡ sum (map sign qs)
length-nonzero [] = refl
length-nonzero (zero ∷ qs) = rw zero-add (length-nonzero qs)
length-nonzero (suc q ∷ qs) = rw one-add (ap suc (length-nonzero qs))

pub rank-sum : (qs : List ℕ) (a : ℕ) → sum (take a (map sign qs)) ≡ rank_in qs a
rank-sum [] zero = refl
rank-sum [] (suc a) = refl
rank-sum (q ∷ qs) zero = refl
rank-sum (q ∷ qs) (suc a) = ap (λ x. sign q + x) (rank-sum qs a)

-- the element at place a, read through its mark and its rank
pub nonzero-at : (qs : List ℕ) (a : ℕ) → get_or (map sign qs) a 0 * get_or (nonzero qs) (rank_in qs a) 0 ≡ get_or qs a 0
nonzero-at [] a = refl
nonzero-at (zero ∷ qs) zero = zero-mul (get_or (nonzero qs) 0 0)
nonzero-at (suc q ∷ qs) zero = one-mul (suc q)
nonzero-at (zero ∷ qs) (suc a) = rw zero-add (nonzero-at qs a)
nonzero-at (suc q ∷ qs) (suc a) = rw one-add (nonzero-at qs a)

pub nonzero-rank : (qs : List ℕ) (a : ℕ) → 0 < get_or qs a 0 → get_or (nonzero qs) (rank_in qs a) 0 ≡ get_or qs a 0
nonzero-rank [] a h = refl
nonzero-rank (zero ∷ qs) zero h = absurd (not-suc-le-zero h)
nonzero-rank (suc q ∷ qs) zero h = refl
nonzero-rank (zero ∷ qs) (suc a) h = rw zero-add (nonzero-rank qs a h)
nonzero-rank (suc q ∷ qs) (suc a) h = rw one-add (nonzero-rank qs a h)

pub rank_le : (qs : List ℕ) (a : ℕ) → rank_in qs a ≤ length (nonzero qs)
rank_le [] a = zero-le
rank_le (q ∷ qs) zero = zero-le
rank_le (zero ∷ qs) (suc a) = rw zero-add (rank_le qs a)
rank_le (suc q ∷ qs) (suc a) = rw one-add (suc-le-suc (rank_le qs a))

pub rank_lt : (qs : List ℕ) (a : ℕ) → 0 < get_or qs a 0 → rank_in qs a < length (nonzero qs)
rank_lt [] a h = absurd (not-suc-le-zero h)
rank_lt (zero ∷ qs) zero h = absurd (not-suc-le-zero h)
rank_lt (suc q ∷ qs) zero h = zero-lt-suc (length (nonzero qs))
rank_lt (zero ∷ qs) (suc a) h = rw zero-add (rank_lt qs a h)
rank_lt (suc q ∷ qs) (suc a) h = rw one-add (suc-le-suc (rank_lt qs a h))

-- ---- an element is changed

-- it was nonzero and stays so
set-suc : (qs : List ℕ) (a q : ℕ) → 0 < get_or qs a 0 → nonzero (set qs a (suc q)) ≡ set (nonzero qs) (rank_in qs a) (suc q)
set-suc [] a q h = refl
set-suc (zero ∷ qs) zero q h = absurd (not-suc-le-zero h)
set-suc (suc p ∷ qs) zero q h = refl
set-suc (zero ∷ qs) (suc a) q h = rw zero-add (set-suc qs a q h)
set-suc (suc p ∷ qs) (suc a) q h = rw one-add (ap (keep (suc p)) (set-suc qs a q h))

-- it was zero and becomes nonzero
insert-suc : (qs : List ℕ) (a q : ℕ) → a < length qs → get_or qs a 0 ≡ 0
    → nonzero (set qs a (suc q)) ≡ insert (nonzero qs) (rank_in qs a) (suc q)
insert-suc [] a q l e = absurd (not-suc-le-zero l)
insert-suc (zero ∷ qs) zero q l e = refl
insert-suc (suc p ∷ qs) zero q l e = absurd (suc-ne-zero p e)
insert-suc (zero ∷ qs) (suc a) q l e = rw zero-add (insert-suc qs a q (le_of_suc-le-suc l) e)
insert-suc (suc p ∷ qs) (suc a) q l e = rw one-add (ap (keep (suc p)) (insert-suc qs a q (le_of_suc-le-suc l) e))

pub nonzero-set : (qs : List ℕ) (a q : ℕ) → 0 < get_or qs a 0 → 0 < q → nonzero (set qs a q) ≡ set (nonzero qs) (rank_in qs a) q
nonzero-set qs a zero h p = absurd (not-suc-le-zero p)
nonzero-set qs a (suc q) h p = set-suc qs a q h

pub nonzero_insert : (qs : List ℕ) (a q : ℕ) → a < length qs → get_or qs a 0 ≡ 0 → 0 < q → nonzero (set qs a q) ≡ insert (nonzero qs) (rank_in qs a) q
nonzero_insert qs a zero l e p = absurd (not-suc-le-zero p)
nonzero_insert qs a (suc q) l e p = insert-suc qs a q l e

-- ---- a map that keeps zero

pub nonzero-map : (f : ℕ → ℕ) → f 0 ≡ 0 → (qs : List ℕ) → nonzero (map f (nonzero qs)) ≡ nonzero (map f qs)
nonzero-map f z [] = refl
nonzero-map f z (zero ∷ qs) = rw z (nonzero-map f z qs)
nonzero-map f z (suc q ∷ qs) = ap (keep (f (suc q))) (nonzero-map f z qs)

-- ---- marks and nonzero elements determine the list, and any that fit together come from one

pub least_nonzero : (qs : List ℕ) → Least 1 (nonzero qs)
least_nonzero [] = tt
least_nonzero (zero ∷ qs) = least_nonzero qs
least_nonzero (suc q ∷ qs) = (zero-lt-suc q, least_nonzero qs)

pub length_scatter : (ms us : List ℕ) → length (scatter ms us) ≡ length ms
length_scatter [] us = refl
length_scatter (zero ∷ ms) us = ap suc (length_scatter ms us)
length_scatter (suc m ∷ ms) [] = ap suc (length_scatter ms [])
length_scatter (suc m ∷ ms) (u ∷ us) = ap suc (length_scatter ms us)

pub nonzero_scatter : (ms us : List ℕ) → Below 2 ms → sum ms ≡ length us → Least 1 us → nonzero (scatter ms us) ≡ us
nonzero_scatter [] [] b e h = refl
nonzero_scatter [] (u ∷ us) b e h = absurd (omega arith)
nonzero_scatter (zero ∷ ms) us b e h = nonzero_scatter ms us b.1 (rw zero-add at e) h
nonzero_scatter (suc m ∷ ms) [] b e h = absurd (omega arith)
nonzero_scatter (suc m ∷ ms) (zero ∷ us) b e h = absurd (omega arith)
nonzero_scatter (suc m ∷ ms) (suc u ∷ us) b e h = ap (keep (suc u)) (nonzero_scatter ms us b.1 (omega arith) h.1)

pub sign_scatter : (ms us : List ℕ) → Below 2 ms → sum ms ≡ length us → Least 1 us → map sign (scatter ms us) ≡ ms
sign_scatter [] us b e h = refl
sign_scatter (zero ∷ ms) us b e h = ap (λ (r : List ℕ). 0 ∷ r) (sign_scatter ms us b.1 (rw zero-add at e) h)
sign_scatter (suc m ∷ ms) [] b e h = absurd (omega arith)
sign_scatter (suc m ∷ ms) (zero ∷ us) b e h = absurd (omega arith)
sign_scatter (suc m ∷ ms) (suc u ∷ us) b e h = ap₂ ◌∷◌ (omega arith) (sign_scatter ms us b.1 (omega arith) h.1)

pub sum-keep : (q : ℕ) (qs : List ℕ) → sum (keep q qs) ≡ q + sum qs
sum-keep zero qs = sym (zero-add (sum qs))
sum-keep (suc q) qs = refl

pub nonzero_insert_zero : (l : List ℕ) (i : ℕ) → nonzero (insert l i 0) ≡ nonzero l
nonzero_insert_zero l zero = refl
nonzero_insert_zero [] (suc i) = refl
nonzero_insert_zero (x ∷ xs) (suc i) = ap (keep x) (nonzero_insert_zero xs i)
