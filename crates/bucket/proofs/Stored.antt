-- A bucket of the code by its levels: their words are the bucket's, and a store into the 16 words of level 1 is one into those in use.
use mathlib.Core.Path.{◌≡◌, refl, sym, ap, ◌∙◌, subst}
use mathlib.Core.List.{List, ◌∷◌, map}
use Prim.Native.Nat.{ℕ, zero, suc, ◌+◌, ◌-◌, ◌*◌, ◌/◌, ◌%◌, ◌^◌, ◌≤◌, ◌<◌}
use native.Mathlib.Nat.{mod-lt, mod-one, mod-eq_of_lt, mul-suc}
use native.Mathlib.Omega.{arith}
use lib.ListN.{length, get_or, take, drop}
use lib.Seq.{drop-cons, length-take-le}
use lib.Pow.{pow_pos, mod-pow-add, mod-mod-pow, field, high, low}
use Rattle.model.specs.Lists.{sum}
use Rattle.model.specs.Packed.{pack, unpack, replaced, join_fields, cut_fields}
use Rattle.model.specs.Shapes.{mark_widths}
use Rattle.model.specs.Levels.{Level, level}
use Rattle.model.specs.Sound.{packed_word}
use Rattle.model.specs.Calls.{from_levels}
use Rattle.model.proofs.Lists.{Below, below-take}
use Rattle.model.proofs.Packing.{pack-take}
use Rattle.model.proofs.Fields.{join_cut}
use Rattle.model.proofs.Bridge.{first-words}
use Rattle.shapes.specs.declared.Shape.{Shape}
use Rattle.bucket.specs.declared.Bucket.{Bucket}
use Rattle.shapes.specs.Shapes.{rows_from, rows_in, entries_at}
use Rattle.bucket.specs.Views.{as_bucket}
use Rattle.shapes.proofs.Shapes.{facts}
use Rattle.growth.specs.Levels.{Fit, levels_from}

-- ---- the words of level 1

-- the low bits of a number with entry a replaced, where they hold the entry
replaced_cut : (w x a v t : ℕ) → v < 2 ^ w → replaced w x a v % 2 ^ (t + w + w * a) ≡ replaced w (x % 2 ^ (t + w + w * a)) a v
replaced_cut w x a v t h =
    let y : ℕ = x / 2 ^ (w * suc a) in
    let e : t + w + w * a ≡ t + w * suc a = rw mul-suc (omega arith) in
    let up : x % 2 ^ (t + w + w * a) / 2 ^ (w * suc a) ≡ y % 2 ^ t = ap (λ n. x % 2 ^ n / 2 ^ (w * suc a)) e ∙ field x t (w * suc a) in
    rw (mod-pow-add (replaced w x a v) (t + w) (w * a), high (y * 2 ^ w + v) (w * a) (mod-lt x (pow_pos (w * a))), low (y * 2 ^ w + v) (w * a) (mod-lt x (pow_pos (w * a))), mod-pow-add (y * 2 ^ w + v) t w, high y w h, low y w h, up, mod-mod-pow x (t + w) (w * a))

-- the first n words hold the entry, so what is stored is stored into them
pub take-replaced : (ws rs : List ℕ) (n w a v : ℕ) → Below (2 ^ 64) ws → Below (2 ^ 64) rs → w * a + w ≤ 64 * n → v < 2 ^ w → pack 64 rs ≡ replaced w (pack 64 ws) a v
    → pack 64 (take n rs) ≡ replaced w (pack 64 (take n ws)) a v
take-replaced ws rs n w a v bw br l h e =
    let t : ℕ = 64 * n - (w * a + w) in
    let k : t + w + w * a ≡ 64 * n = omega arith in
    sym (pack-take 64 rs n br) ∙ ap (λ x. x % 2 ^ (64 * n)) e
    ∙ subst (λ (m : ℕ). replaced w (pack 64 ws) a v % 2 ^ m ≡ replaced w (pack 64 ws % 2 ^ m) a v) k (replaced_cut w (pack 64 ws) a v t h)
    ∙ ap (λ x. replaced w x a v) (pack-take 64 ws n bw)

-- ---- the words of the upper levels

cells_from : (n : ℕ) (s : Shape) (us : List ℕ) (g j : ℕ) → j + n ≤ length us → map (λ (x : Level). x.cells) (levels_from n s us g j) ≡ take n (drop j us)
unfolding levels_from
cells_from zero s us g j h = refl
cells_from (suc n) s us g j h =
    rw (drop-cons us j 0 (omega arith)) (ap (λ xs. get_or us j 0 ∷ xs) (cells_from n s us (g / 2 ^ entries_at s j) (suc j) (omega arith)))

marks_from : (n : ℕ) (s : Shape) (us : List ℕ) (g j : ℕ) → map (λ (x : Level). x.marks) (levels_from n s us g j) ≡ cut_fields (mark_widths (rows_from n s j)) g
unfolding levels_from rows_from
marks_from zero s us g j = refl
marks_from (suc zero) s us g j = rw mod-one
marks_from (suc (suc n)) s us g j = ap (λ xs. g % 2 ^ entries_at s j ∷ xs) (marks_from (suc n) s us (g / 2 ^ entries_at s j) (suc j))

word_none : (m : ℕ) → packed_word m 0 0 ≡ m
word_none m = omega arith

-- ---- a bucket with no flag, no number and no spare bit is that of its levels

pub from_own : (s : Shape) (b : Bucket) → Fit s → length b.first ≡ 16 → length b.upper.words ≡ 4 → Below (2 ^ 64) b.first → b.upper.packed < 2 ^ sum (mark_widths (rows_in s))
    → from_levels s.width (rows_in s) (level (pack 64 (take s.width b.first)) b.marks ∷ levels_from s.uppers s b.upper.words b.upper.packed 0) 0 0 ≡ as_bucket s b
from_own s b f k l below h =
    let t = facts s f.valid in
    let one : unpack 64 s.width (pack 64 (take s.width b.first)) ≡ take s.width b.first =
    first-words (take s.width b.first) s.width (pack 64 (take s.width b.first)) (below-take (2 ^ 64) b.first s.width below) (length-take-le s.width b.first (omega (arith, t.first.1))) refl in
    let marks : packed_word (join_fields (mark_widths (rows_in s)) (map (λ (x : Level). x.marks) (levels_from s.uppers s b.upper.words b.upper.packed 0))) 0 0 ≡ b.upper.packed =
    word_none (join_fields (mark_widths (rows_in s)) (map (λ (x : Level). x.marks) (levels_from s.uppers s b.upper.words b.upper.packed 0)))
    ∙ ap (join_fields (mark_widths (rows_in s))) (marks_from s.uppers s b.upper.words b.upper.packed 0) ∙ join_cut (mark_widths (rows_in s)) b.upper.packed ∙ mod-eq_of_lt h in
    rw (one, cells_from s.uppers s b.upper.words b.upper.packed 0 (omega (arith, t.levels.1)), marks)
