-- A full-size bucket in the words of a wall: what a store of a flag and a count leaves, and what zeros leave.
use mathlib.Core.Path.{◌≡◌, refl, sym, ap, ap₂, ◌∙◌, subst}
use mathlib.Core.List.{List, [], ◌∷◌}
use Prim.Native.Nat.{ℕ, suc, ◌+◌, ◌%◌, ◌^◌, ◌≤◌, ◌<◌}
use native.Mathlib.Nat.{add-zero, add_assoc, one-mul, mod-eq_of_lt}
use native.Mathlib.Numerals.{one-add}
use native.Mathlib.Omega.{arith}
use lib.ListN.{length, get_or, take, drop, set, length-set, length-drop}
use lib.Seq.{length-take-le, get_or-take, get_or-drop}
use Rattle.model.specs.Lists.{splice}
use Rattle.model.specs.Packed.{pack, unpack, replaced}
use Rattle.model.specs.Walls.{Full, read_full, full_words, empty_full}
use Rattle.model.specs.Sound.{full_count}
use Rattle.model.specs.Calls.{move_in}
use Rattle.model.proofs.Packing.{pack-set, pack-unpack, below-unpack, length-unpack}
use Rattle.model.proofs.Buckets.{moved_length}
use Rattle.moves.specs.Full.{full_at}
use Rattle.model.proofs.Splices.{splice-set, splice_read, splice_again, splice_same}

-- ---- one place is moved

flag-set : (n x a : ℕ) → a < n → x < 2 ^ n → pack 1 (set (unpack 1 n x) a 1) ≡ replaced 1 x a 1
flag-set n x a l h =
    let e : pack 1 (unpack 1 n x) ≡ x = pack-unpack 1 n x ∙ ap (λ k. x % 2 ^ k) (one-mul n) ∙ mod-eq_of_lt h in
    pack-set 1 (unpack 1 n x) a 1 (below-unpack 1 n x) (subst (λ k. a < k) (sym (length-unpack 1 n x)) l) ∙ ap (λ y. replaced 1 y a 1) e

pub moved-words : (f : Full) (a v : ℕ) → a < 64 → f.moved < 2 ^ 64 → replaced 1 f.moved a 1 ∷ set f.counts a v ≡ full_words (move_in f a v)
unfolding move_in
moved-words f a v l h = ap (λ m. m ∷ set f.counts a v) (sym (flag-set 64 f.moved a l h))

front-set : (c : List ℕ) (a m v : ℕ) → 0 < length c → set (set c 0 m) (suc a) v ≡ m ∷ set (drop 1 c) a v
front-set [] a m v h = absurd (omega arith)
front-set (x ∷ c) a m v h = refl

-- the first of n words, and the one a places after it
two_set : (ws : List ℕ) (at n a m v : ℕ) → at + n ≤ length ws → suc a < n → set (set ws at m) (at + 1 + a) v ≡ splice ws at (m ∷ set (drop 1 (take n (drop at ws))) a v)
two_set ws at n a m v h l =
    let c : List ℕ = take n (drop at ws) in
    let k : length c ≡ n = length-take-le n (drop at ws) (simp length-drop (omega arith)) in
    let o : at ≤ length ws = omega arith in
    ap (λ x. set (set x at m) (at + 1 + a) v) (sym (splice_same ws at n h))
    ∙ ap₂ (λ i j. set (set (splice ws at c) i m) j v) (sym (add-zero at)) (add_assoc at 1 a ∙ ap (λ i. at + i) (one-add a))
    ∙ ap (λ x. set x (at + suc a) v) (splice-set ws at o c 0 m (omega arith))
    ∙ splice-set ws at o (set c 0 m) (suc a) v (rw length-set (omega arith))
    ∙ ap (splice ws at) (front-set c a m v (omega arith))

-- the words of the bucket at an offset
pub full-moved : (ws : List ℕ) (at : ℕ) → (full_at ws at).moved ≡ get_or ws at 0
full-moved ws at = get_or-take 65 (drop at ws) 0 0 (omega arith) ∙ get_or-drop at ws 0 0 ∙ ap (λ i. get_or ws i 0) (add-zero at)

pub full-count : (ws : List ℕ) (at a : ℕ) → a < 64 → full_count (full_at ws at) a ≡ get_or ws (at + 1 + a) 0
full-count ws at a l =
    get_or-drop 1 (take 65 (drop at ws)) a 0 ∙ get_or-take 65 (drop at ws) (1 + a) 0 (omega arith) ∙ get_or-drop at ws (1 + a) 0
    ∙ ap (λ i. get_or ws i 0) (sym (add_assoc at 1 a))

pub moved_stored : (ws : List ℕ) (at a v m : ℕ) → at + 65 ≤ length ws → a < 64 → get_or ws at 0 < 2 ^ 64 → m ≡ replaced 1 (get_or ws at 0) a 1
    → set (set ws at m) (at + 1 + a) v ≡ splice ws at (full_words (move_in (full_at ws at) a v))
moved_stored ws at a v m h l b e =
    let f : Full = full_at ws at in
    let g : f.moved ≡ get_or ws at 0 = full-moved ws at in
    two_set ws at 65 a m v h (omega arith)
    ∙ ap (λ x. splice ws at (x ∷ set f.counts a v)) (e ∙ ap (λ y. replaced 1 y a 1) (sym g))
    ∙ ap (splice ws at) (moved-words f a v l (subst (λ y. y < 2 ^ 64) (sym g) b))

-- ---- zeros

-- the first place of a bucket that was empty
pub first_stored : (ws : List ℕ) (at a v : ℕ) (x y : List ℕ) → at + 65 ≤ length ws → a < 64
    → x ≡ splice ws at (full_words empty_full)
    → y ≡ splice x at (full_words (move_in (full_at x at) a v))
    → y ≡ splice ws at (full_words (move_in empty_full a v))
first_stored ws at a v x y h l ex ey =
    let z : List ℕ = full_words empty_full in
    let o : at ≤ length ws = omega arith in
    ey ∙ ap (λ w. splice w at (full_words (move_in (full_at w at) a v))) ex
    ∙ ap (λ c. splice (splice ws at z) at (full_words (move_in (read_full c) a v))) (splice_read ws at o z 65 refl)
    ∙ splice_again ws at o z (full_words (move_in empty_full a v)) (ap suc (sym (moved_length empty_full a v l refl)))
