-- The bucket of the model in the words of a wall, and its levels.
use mathlib.Core.Path.{◌≡◌, refl, sym, ap, ap₂, ◌∙◌}
use mathlib.Core.List.{List, [], ◌∷◌}
use Prim.Native.Nat.{ℕ, zero, suc, ◌+◌, ◌/◌, ◌%◌, ◌^◌, ◌≤◌, ◌<◌}
use native.Mathlib.Nat.{zero-add, suc-add, add-zero, mod-one, zero-lt-suc}
use native.Mathlib.Numerals.{one-add}
use native.Mathlib.Omega.{arith}
use lib.ListN.{length, get_or, take, drop}
use lib.Seq.{take-take, take-nil, drop-drop, drop-cons, get_or-take, get_or-drop}
use Rattle.model.specs.Packed.{pack, cut_fields}
use Rattle.model.specs.Shapes.{all_rows, mark_widths}
use Rattle.model.specs.Levels.{Level, level, read_at}
use Rattle.model.specs.Walls.{Bucket, read_rest}
use Rattle.model.specs.Sound.{upper_marks, pair_levels, levels_of, own_counts}
use Rattle.model.proofs.Lists.{get_or_tab}
use Rattle.uppers.specs.Uppers.{rows_by, levels_by}
use Rattle.plain.specs.Plain.{bucket_in}

-- ---- the words of the bucket

drop-take : (k m : ℕ) (l : List ℕ) → drop k (take (k + m) l) ≡ take m (drop k l)
drop-take zero m l = rw zero-add
drop-take (suc k) m [] = rw (suc-add, take-nil m)
drop-take (suc k) m (x ∷ l) = rw suc-add (drop-take k m l)

rest_cut : (n : ℕ) (f l : List ℕ) → read_rest n f (take (suc (n + 1)) l) ≡ read_rest n f l
rest_cut n f l =
    let d : drop 1 (take (suc (n + 1)) l) ≡ take (n + 1) (drop 1 l) = ap (λ k. drop 1 (take k l)) (sym (one-add (n + 1))) ∙ drop-take 1 (n + 1) l in
    let m : get_or (take (suc (n + 1)) l) 0 0 ≡ get_or l 0 0 = get_or-take (suc (n + 1)) l 0 0 (zero-lt-suc (n + 1)) in
    rw (m, d, drop-take n 1 (drop 1 l), take-take n (n + 1) (drop 1 l) (omega arith), get_or-take 1 (drop n (drop 1 l)) 0 0 (zero-lt-suc 0))

rest_read : (n : ℕ) (f ws : List ℕ) (k : ℕ)
    → read_rest n f (drop k ws) ≡ record { first = f; marks = get_or ws k 0; uppers = take n (drop (k + 1) ws); packed = get_or ws (k + 1 + n) 0 }
rest_read n f ws k =
    let at_once : (j : ℕ) → get_or (drop j ws) 0 0 ≡ get_or ws j 0 = λ j. get_or-drop j ws 0 0 ∙ ap (λ i. get_or ws i 0) (add-zero j) in
    rw (drop-drop 1 k ws, drop-drop n (k + 1) ws, at_once k, at_once (k + 1 + n))

read_cut : (w n : ℕ) (l : List ℕ) → read_rest n (take w (take (w + suc (n + 1)) l)) (drop w (take (w + suc (n + 1)) l)) ≡ read_rest n (take w l) (drop w l)
read_cut w n l =
    ap₂ (read_rest n) (take-take w (w + suc (n + 1)) l (omega arith)) (drop-take w (suc (n + 1)) l) ∙ rest_cut n (take w l) (drop w l)

pub rows-length : (n e v : ℕ) → length (rows_by n e v) ≡ n
unfolding rows_by
rows-length zero e v = refl
rows-length (suc n) e v = ap suc (rows-length n (e / 256) (v / 256))

module _ (w n e v : ℕ) (ws : List ℕ) (at : ℕ) where
  abbrev pub here : Bucket
  here = record { first = take w (drop at ws); marks = get_or ws (at + w) 0; uppers = take n (drop (at + w + 1) ws); packed = get_or ws (at + w + 1 + n) 0 }

  pub bucket-here : bucket_in w n e v ws at ≡ here
  bucket-here =
      let l : List ℕ = drop at ws in
      ap (λ m. read_rest m (take w (take (w + suc (m + 1)) l)) (drop w (take (w + suc (m + 1)) l))) (rows-length n e v)
      ∙ read_cut w n l ∙ ap (read_rest n (take w l)) (drop-drop w at ws) ∙ rest_read n (take w l) ws (at + w)

-- ---- its levels

levels_pairs : (n : ℕ) (ws : List ℕ) (at g e v : ℕ) → at + n ≤ length ws → pair_levels (take n (drop at ws)) (cut_fields (mark_widths (rows_by n e v)) g) ≡ levels_by n ws at g e
unfolding levels_by rows_by
levels_pairs zero ws at g e v h = refl
levels_pairs (suc zero) ws at g e v h = rw (drop-cons ws at 0 (omega arith), mod-one)
levels_pairs (suc (suc n)) ws at g e v h =
    rw (drop-cons ws at 0 (omega arith))
    (ap (λ ls. level (get_or ws at 0) (g % 2 ^ (e % 256)) ∷ ls) (levels_pairs (suc n) ws (suc at) (g / 2 ^ (e % 256)) (e / 256) (v / 256) (omega arith)))

module _ (w n e v : ℕ) (ws : List ℕ) (at : ℕ) (h : at + w + 1 + n ≤ length ws) where
  abbrev pub levels_here : List Level
  levels_here = level (pack 64 (take w (drop at ws))) (get_or ws (at + w) 0) ∷ levels_by n ws (at + w + 1) (upper_marks (get_or ws (at + w + 1 + n) 0)) e

  pub levels-here : levels_of (rows_by n e v) (bucket_in w n e v ws at) ≡ levels_here
  levels-here =
      ap (levels_of (rows_by n e v)) (bucket-here w n e v ws at)
      ∙ ap (λ ls. level (pack 64 (take w (drop at ws))) (get_or ws (at + w) 0) ∷ ls) (levels_pairs n ws (at + w + 1) (upper_marks (get_or ws (at + w + 1 + n) 0)) e v h)

  pub own-here : (a : ℕ) → a < 64 → read_at (all_rows w (rows_by n e v)) levels_here a ≡ get_or (own_counts w (rows_by n e v) (bucket_in w n e v ws at)) a 0
  unfolding own_counts
  own-here a l =
      ap (λ ls. read_at (all_rows w (rows_by n e v)) ls a) (sym levels-here)
      ∙ sym (get_or_tab 64 (read_at (all_rows w (rows_by n e v)) (levels_of (rows_by n e v) (bucket_in w n e v ws at))) a l)
