-- Words of a wall and the wall of the words are inverse; a bucket or full-size bucket stored is words replaced at an offset.
use mathlib.Core.Path.{◌≡◌, refl, sym, ap, ◌∙◌}
use mathlib.Core.List.{List, [], ◌∷◌, ◌++◌, append_assoc}
use Prim.Native.Nat.{ℕ, zero, suc, ◌+◌, ◌*◌, ◌≤◌, ◌<◌}
use native.Mathlib.Nat.{le_of_suc-le-suc, not-suc-le-zero, zero-mul, suc-mul, zero-add, add_comm, suc-add}
use native.Mathlib.Omega.{arith}
use lib.ListN.{length, get_or, take, drop, set, length-append, length-drop}
use lib.Seq.{take_at, drop_at, drop-drop, length-take-le, take-add}
use Rattle.model.specs.Lists.{splice, pieces, concat}
use Rattle.model.proofs.Tools.{Each}

-- every one of them has n words
abbrev pub Sized : ℕ → List (List ℕ) → Type 0
Sized n cs = Each (λ (c : List ℕ). length c ≡ n) cs

pub length_cat : (n : ℕ) (cs : List (List ℕ)) → Sized n cs → length (concat cs) ≡ length cs * n
length_cat n [] h = sym (zero-mul n)
length_cat n (c ∷ cs) h = rw (length-append, h.0, length_cat n cs h.1, suc-mul) (omega arith)

pub chunks_cat : (n : ℕ) (cs : List (List ℕ)) (r : List ℕ) → Sized n cs → pieces n (length cs) (concat cs ++ r) ≡ cs
chunks_cat n [] r h = refl
chunks_cat n (c ∷ cs) r h =
    rw (append_assoc c (concat cs) r, take_at c (concat cs ++ r) n h.0, drop_at c (concat cs ++ r) n h.0, chunks_cat n cs r h.1)

pub cat_chunks : (n k : ℕ) (ws : List ℕ) → concat (pieces n k ws) ≡ take (k * n) ws
cat_chunks n zero ws = rw zero-mul
cat_chunks n (suc k) ws = rw (cat_chunks n k (drop n ws), suc-mul, add_comm (k * n) n) (sym (take-add n (k * n) ws))

pub length_chunks : (n k : ℕ) (ws : List ℕ) → length (pieces n k ws) ≡ k
length_chunks n zero ws = refl
length_chunks n (suc k) ws = ap suc (length_chunks n k (drop n ws))

pub sized_chunks : (n k : ℕ) (ws : List ℕ) → k * n ≤ length ws → Sized n (pieces n k ws)
sized_chunks n zero ws h = tt
sized_chunks n (suc k) ws h =
    let e : n + k * n ≤ length ws = omega (arith, suc-mul k n) in
    (length-take-le n ws (omega arith), sized_chunks n k (drop n ws) (rw length-drop (omega arith)))

-- chunk i stands at offset i * n
pub chunk_at : (n k : ℕ) (ws : List ℕ) (i : ℕ) → i < k → get_or (pieces n k ws) i [] ≡ take n (drop (i * n) ws)
chunk_at n zero ws i h = absurd (not-suc-le-zero h)
chunk_at n (suc k) ws zero h = rw zero-mul
chunk_at n (suc k) ws (suc i) h = rw (chunk_at n k (drop n ws) i (le_of_suc-le-suc h), drop-drop (i * n) n ws, suc-mul) (ap (λ x. take n (drop x ws)) (add_comm n (i * n)))

pub splice-after : (p ws : List ℕ) (o : ℕ) (c : List ℕ) → splice (p ++ ws) (length p + o) c ≡ p ++ splice ws o c
splice-after [] ws o c = rw zero-add
splice-after (x ∷ p) ws o c = rw (suc-add, suc-add) (ap (λ (l : List ℕ). x ∷ l) (splice-after p ws o c))

pub splice-head : (c₀ r c : List ℕ) → length c₀ ≡ length c → splice (c₀ ++ r) 0 c ≡ c ++ r
splice-head c₀ r c e = rw (zero-add, drop_at c₀ r (length c) e)

pub cat_set : (n : ℕ) (cs : List (List ℕ)) (r : List ℕ) (i : ℕ) (c : List ℕ) → Sized n cs → i < length cs → length c ≡ n
    → concat (set cs i c) ++ r ≡ splice (concat cs ++ r) (i * n) c
cat_set n [] r i c s h e = absurd (not-suc-le-zero h)
cat_set n (c₀ ∷ cs) r zero c s h e = rw (zero-mul, append_assoc, append_assoc) (sym (splice-head c₀ (concat cs ++ r) c (s.0 ∙ sym e)))
cat_set n (c₀ ∷ cs) r (suc i) c s h e =
    let o : suc i * n ≡ length c₀ + i * n = rw (suc-mul, s.0) (add_comm (i * n) n) in
    rw (append_assoc, append_assoc, o, cat_set n cs r i c s.1 (le_of_suc-le-suc h) e) (sym (splice-after c₀ (concat cs ++ r) (i * n) c))
