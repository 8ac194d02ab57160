-- A bucket in the words of a wall: taken out, and stored.
use mathlib.Core.Path.{◌≡◌, sym, ap, ap₂, ◌∙◌}
use mathlib.Core.List.{List, [], ◌∷◌, ◌++◌, append_assoc}
use Prim.Native.Nat.{ℕ, zero, suc, ◌+◌, ◌-◌, ◌≤◌, ◌<◌}
use native.Mathlib.Nat.{add-zero, zero-add, suc-add, zero-lt-suc}
use native.Mathlib.Numerals.{one-add}
use native.Mathlib.Omega.{arith}
use lib.ListN.{length, get_or, take, drop, set, length-append, length-drop}
use lib.Seq.{paste, length-take-le, take-paste, take-take, take-nil, drop-drop, get_or-take, get_or-drop}
use Rattle.model.specs.Lists.{splice}
use Rattle.model.specs.Shapes.{bucket_size}
use Rattle.model.specs.Walls.{bucket_words, read_bucket, read_rest}
use Rattle.shapes.specs.declared.Shape.{Shape}
use Rattle.bucket.specs.declared.Bucket.{Bucket}
use Rattle.shapes.specs.Shapes.{rows_in, Valid}
use Rattle.bucket.specs.Views.{as_bucket}
use Rattle.shapes.proofs.Shapes.{facts, rows-length}
use Rattle.model.proofs.Splices.{splice_copy, word_more, copy_more}

-- the arrays have room for the bucket, and the n words lent have all of it
pub record Room (s : Shape) (at n : ℕ) : Type 0 where
  pub first : s.width ≤ 16
  pub upper : s.uppers ≤ 4
  pub inside : at + s.width + 1 + s.uppers < n

pub room : (s : Shape) (at n : ℕ) → Valid s → at + bucket_size s.width (rows_in s) ≤ n → Room s at n
room s at n v h =
    let f = facts s v in
    record { first = f.first.1; upper = f.levels.1; inside = omega (arith, rows-length s.uppers s 0) }

pub stored : (s : Shape) (b : Bucket) (ws : List ℕ) (at : ℕ) (x y : List ℕ) → Room s at (length ws) → length b.first ≡ 16 → length b.upper.words ≡ 4
    → x ≡ paste ws at b.first s.width
    → y ≡ paste (set x (at + s.width) b.marks) (at + s.width + 1) b.upper.words s.uppers
    → set y (at + s.width + 1 + s.uppers) b.upper.packed ≡ splice ws at (bucket_words (as_bucket s b))
stored s b ws at x y r lf lu ex ey =
    let f : List ℕ = take s.width b.first in
    let u : List ℕ = take s.uppers b.upper.words in
    let nf : length f ≡ s.width = length-take-le s.width b.first (omega (arith, r.first)) in
    let nu : length u ≡ s.uppers = length-take-le s.uppers b.upper.words (omega (arith, r.upper)) in
    let e1 : x ≡ splice ws at f = ex ∙ splice_copy ws at b.first s.width (omega (arith, r.first)) in
    let e2 : set x (at + s.width) b.marks ≡ splice ws at (f ++ b.marks ∷ []) =
    word_more ws at f x e1 (at + s.width) (ap (λ n. at + n) (sym nf)) b.marks (omega (arith, r.inside)) in
    let n2 : length (f ++ b.marks ∷ []) ≡ s.width + 1 = length-append f (b.marks ∷ []) ∙ ap (λ n. n + 1) nf in
    let e3 : y ≡ splice ws at ((f ++ b.marks ∷ []) ++ u) =
    ey ∙ copy_more ws at (f ++ b.marks ∷ []) (set x (at + s.width) b.marks) e2 (at + s.width + 1) (omega (arith, n2)) b.upper.words s.uppers (omega (arith, r.upper)) (omega (arith, r.inside)) in
    let n3 : length ((f ++ b.marks ∷ []) ++ u) ≡ s.width + 1 + s.uppers = length-append (f ++ b.marks ∷ []) u ∙ ap₂ ◌+◌ n2 nu in
    let e4 : ((f ++ b.marks ∷ []) ++ u) ++ b.upper.packed ∷ [] ≡ bucket_words (as_bucket s b) = simp append_assoc in
    word_more ws at ((f ++ b.marks ∷ []) ++ u) y e3 (at + s.width + 1 + s.uppers) (omega (arith, n3)) b.upper.packed r.inside
    ∙ ap (splice ws at) e4

-- ---- what is taken

drop-take : (k m : ℕ) (l : List ℕ) → drop k (take (k + m) l) ≡ take m (drop k l)
drop-take zero m l = rw zero-add
drop-take (suc k) m [] = rw (suc-add, take-nil m)
drop-take (suc k) m (x ∷ l) = rw suc-add (drop-take k m l)

-- the words past the bucket's last do not matter
rest_cut : (n : ℕ) (f l : List ℕ) → read_rest n f (take (suc (n + 1)) l) ≡ read_rest n f l
rest_cut n f l =
    let d : drop 1 (take (suc (n + 1)) l) ≡ take (n + 1) (drop 1 l) = ap (λ k. drop 1 (take k l)) (sym (one-add (n + 1))) ∙ drop-take 1 (n + 1) l in
    let m : get_or (take (suc (n + 1)) l) 0 0 ≡ get_or l 0 0 = get_or-take (suc (n + 1)) l 0 0 (zero-lt-suc (n + 1)) in
    rw (m, d, drop-take n 1 (drop 1 l), take-take n (n + 1) (drop 1 l) (omega arith), get_or-take 1 (drop n (drop 1 l)) 0 0 (zero-lt-suc 0))

rest_read : (n : ℕ) (f ws : List ℕ) (k : ℕ)
    → read_rest n f (drop k ws) ≡ record { first = f; marks = get_or ws k 0; uppers = take n (drop (k + 1) ws); packed = get_or ws (k + 1 + n) 0 }
rest_read n f ws k =
    let at_once : (j : ℕ) → get_or (drop j ws) 0 0 ≡ get_or ws j 0 = λ j. get_or-drop j ws 0 0 ∙ ap (λ i. get_or ws i 0) (add-zero j) in
    rw (drop-drop 1 k ws, drop-drop n (k + 1) ws, at_once k, at_once (k + 1 + n))

-- an array loaded from its front, of which the first n words count
loaded : (z l : List ℕ) (n : ℕ) → n ≤ length l → take n (paste z 0 l n) ≡ take n l
loaded z l n h = ap (λ k. take k (paste z 0 l n)) (sym (zero-add n)) ∙ take-paste z 0 l n (omega arith) h

-- w words of level 1 and n of the levels above
read_cut : (w n : ℕ) (l : List ℕ) → read_rest n (take w (take (w + suc (n + 1)) l)) (drop w (take (w + suc (n + 1)) l)) ≡ read_rest n (take w l) (drop w l)
read_cut w n l =
    ap₂ (read_rest n) (take-take w (w + suc (n + 1)) l (omega arith)) (drop-take w (suc (n + 1)) l) ∙ rest_cut n (take w l) (drop w l)

pub taken : (s : Shape) (ws : List ℕ) (at : ℕ) (f u y z : List ℕ) → Room s at (length ws)
    → f ≡ paste y 0 (drop at ws) s.width
    → u ≡ paste z 0 (drop (at + s.width + 1) ws) s.uppers
    → as_bucket s (record { first = f; marks = get_or ws (at + s.width) 0; upper = record { words = u; packed = get_or ws (at + s.width + 1 + s.uppers) 0 } })
    ≡ read_bucket s.width (rows_in s) (take (bucket_size s.width (rows_in s)) (drop at ws))
taken s ws at f u y z r ef eu =
    let w : ℕ = s.width in
    let n : ℕ = s.uppers in
    let l : List ℕ = drop at ws in
    let nl : length l ≡ length ws - at = length-drop at ws in
    let nu : length (drop (at + w + 1) ws) ≡ length ws - (at + w + 1) = length-drop (at + w + 1) ws in
    let e1 : take w f ≡ take w l = ap (take w) ef ∙ loaded y l w (omega (arith, r.inside)) in
    let e2 : take n u ≡ take n (drop (at + w + 1) ws) = ap (take n) eu ∙ loaded z (drop (at + w + 1) ws) n (omega (arith, r.inside)) in
    rw (e1, e2)
    (sym (ap (λ m. read_rest m (take w (take (w + suc (m + 1)) l)) (drop w (take (w + suc (m + 1)) l))) (rows-length n s 0)
    ∙ read_cut w n l ∙ ap (read_rest n (take w l)) (drop-drop w at ws) ∙ rest_read n (take w l) ws (at + w)))
