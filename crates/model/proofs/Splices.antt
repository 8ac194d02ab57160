-- Words in place of as many, from an offset on: stores one after another, and what stands there.
use mathlib.Core.Path.{◌≡◌, sym, ap, ap₂, ◌∙◌}
use mathlib.Core.List.{List, [], ◌∷◌, ◌++◌, append_assoc}
use Prim.Native.Nat.{ℕ, ◌+◌, ◌≤◌, ◌<◌}
use native.Mathlib.Nat.{add-zero, zero-add, add_assoc, suc-add}
use native.Mathlib.Numerals.{add-one}
use native.Mathlib.Omega.{arith}
use lib.ListN.{length, take, drop, set, length-append, length-drop, length-set, take-append-drop}
use lib.Seq.{paste, length-take-le, take_at, drop_at, drop-drop, set_split, set-append_left}
use Rattle.model.specs.Lists.{splice}
use Rattle.model.proofs.Pieces.{splice-after}

-- a store past the words p
set_after : (p ws : List ℕ) (i v : ℕ) → set (p ++ ws) (length p + i) v ≡ p ++ set ws i v
set_after [] ws i v = rw zero-add
set_after (x ∷ p) ws i v = rw suc-add (ap (λ (l : List ℕ). x ∷ l) (set_after p ws i v))

-- one word
pub splice-word : (ws : List ℕ) (i v : ℕ) → i < length ws → set ws i v ≡ splice ws i (v ∷ [])
splice-word ws i v h = rw (set_split ws i v h, add-one)

-- a copy of the first n words of s
pub splice_copy : (ws : List ℕ) (o : ℕ) (s : List ℕ) (n : ℕ) → n ≤ length s → paste ws o s n ≡ splice ws o (take n s)
splice_copy ws o s n h = rw (length-take-le n s h, append_assoc)

module _ (ws : List ℕ) (o : ℕ) (h : o ≤ length ws) where
  head : length (take o ws) ≡ o
  head = length-take-le o ws h

  -- the words d after the words c
  pub splice_on : (c d : List ℕ) → splice (splice ws o c) (o + length c) d ≡ splice ws o (c ++ d)
  splice_on c d =
      let p : List ℕ = take o ws ++ c in
      let r : List ℕ = drop (o + length c) ws in
      let k : length p ≡ o + length c = length-append (take o ws) c ∙ ap (λ n. n + length c) head in
      ap₂ (λ x n. splice x n d) (sym (append_assoc (take o ws) c r)) (sym k ∙ sym (add-zero (length p)))
      ∙ splice-after p r 0 d
      ∙ rw (zero-add, drop-drop (length d) (o + length c) ws, append_assoc (take o ws) c, append_assoc c d, length-append c d, add_assoc)

  -- a store among the words c
  pub splice-set : (c : List ℕ) (i v : ℕ) → i < length c → set (splice ws o c) (o + i) v ≡ splice ws o (set c i v)
  splice-set c i v l =
      ap (λ n. set (splice ws o c) (n + i) v) (sym head)
      ∙ set_after (take o ws) (c ++ drop (o + length c) ws) i v
      ∙ rw (set-append_left c (drop (o + length c) ws) i v l, length-set c i v)

  -- the words c are there
  pub splice_read : (c : List ℕ) (n : ℕ) → length c ≡ n → take n (drop o (splice ws o c)) ≡ c
  splice_read c n e = rw (drop_at (take o ws) (c ++ drop (o + length c) ws) o head) (take_at c (drop (o + length c) ws) n e)

  -- and give way to as many others
  pub splice_again : (c d : List ℕ) → length c ≡ length d → splice (splice ws o c) o d ≡ splice ws o d
  splice_again c d e =
      ap (λ n. splice (splice ws o c) n d) (sym head ∙ sym (add-zero (length (take o ws))))
      ∙ splice-after (take o ws) (c ++ drop (o + length c) ws) 0 d
      ∙ rw (zero-add, drop_at c (drop (o + length c) ws) (length d) e, e)

-- the words that stand there
pub splice_same : (ws : List ℕ) (o n : ℕ) → o + n ≤ length ws → splice ws o (take n (drop o ws)) ≡ ws
splice_same ws o n h =
    let l : n ≤ length (drop o ws) = simp length-drop (omega arith) in
    rw (length-take-le n (drop o ws) l, ← drop-drop n o ws, take-append-drop n (drop o ws), take-append-drop o ws)

-- ---- stores one after another: x has the words c from o on, and the next go in at k, right after them

pub length-splice : (ws : List ℕ) (o : ℕ) (c : List ℕ) → o + length c ≤ length ws → length (splice ws o c) ≡ length ws
length-splice ws o c h =
    rw (length-append (take o ws), length-append c, length-take-le o ws (omega arith), length-drop (o + length c) ws) (omega arith)

module _ (ws : List ℕ) (o : ℕ) (c : List ℕ) (x : List ℕ) (e : x ≡ splice ws o c) (k : ℕ) (at-end : k ≡ o + length c) where
  more : (d : List ℕ) → k ≤ length ws → splice x k d ≡ splice ws o (c ++ d)
  more d h = ap₂ (λ y n. splice y n d) e at-end ∙ splice_on ws o (omega arith) c d

  pub word_more : (v : ℕ) → k < length ws → set x k v ≡ splice ws o (c ++ v ∷ [])
  word_more v h =
      let l : length x ≡ length ws = ap length e ∙ length-splice ws o c (omega arith) in
      splice-word x k v (omega arith) ∙ more (v ∷ []) (omega arith)

  pub copy_more : (s : List ℕ) (n : ℕ) → n ≤ length s → k ≤ length ws → paste x k s n ≡ splice ws o (c ++ take n s)
  copy_more s n l h = splice_copy x k s n l ∙ more (take n s) h
