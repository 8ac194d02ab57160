-- A bucket in the words of a wall whose count at one place changes in level 1 alone: taken out, put, stored.
use mathlib.Core.Path.{◌≡◌, sym, ap, ◌∙◌, subst}
use mathlib.Core.List.{List}
use Prim.Native.Nat.{ℕ, ◌+◌, ◌%◌, ◌^◌, ◌≤◌}
use lib.ListN.{length, get_or, set}
use mir.Syntax.{w64}
use mir.Val.{Fits}
use Rattle.model.specs.Lists.{splice}
use Rattle.model.specs.Shapes.{bucket_size}
use Rattle.model.specs.Walls.{bucket_words}
use Rattle.model.specs.Walls as model
use Rattle.model.specs.Sound.{own_counts}
use Rattle.model.specs.Calls.{holding}
use Rattle.cells.proofs.Crossing.{below_of}
use Rattle.shapes.specs.declared.Shape.{Shape}
use Rattle.shapes.specs.Shapes.{rows_in}
use Rattle.bucket.specs.declared.Bucket.{Bucket}
use Rattle.bucket.specs.Views.{as_bucket, bucket_in}
use Rattle.bucket.specs.Raise.{Put, Raises, RaisesIn, Stays}
use Rattle.bucket.proofs.Stepping.{first-put, held_stay}

-- what such a step asks, and the words that it leaves
abbrev pub Asked : Shape → List ℕ → ℕ → ℕ → ℕ → Type 0
Asked z ws at a v = (at + bucket_size z.width (rows_in z) ≤ length ws) × RaisesIn z (bucket_in z ws at) a v × Stays z (bucket_in z ws at) a v

abbrev pub left : Shape → List ℕ → ℕ → ℕ → ℕ → List ℕ
left z ws at a v = splice ws at (bucket_words (holding z.width (rows_in z) (set (own_counts z.width (rows_in z) (bucket_in z ws at)) a v)))

-- k is the bucket taken out, p the bucket with the new part q
pub part_stored : (z : Shape) (ws : List ℕ) (at a v q : ℕ) (k p : Bucket) → ((i : ℕ) → Fits w64 (get_or k.first i 0)) → length k.upper.words ≡ 4
    → ((i : ℕ) → Fits w64 (get_or p.first i 0)) → length p.first ≡ 16 → length p.upper.words ≡ 4
    → as_bucket z k ≡ bucket_in z ws at → Put k z.width a q p → q ≡ v % 2 ^ z.width
    → Asked z ws at a v → splice ws at (bucket_words (as_bucket z p)) ≡ left z ws at a v
part_stored z ws at a v q k p fits four fits-p long four-p e put eq asked =
    let w : ℕ = z.width in
    let r : Raises z k a v = subst (λ (b : model.Bucket). RaisesIn z b a v) (sym e) asked.1 in
    let y : Stays z (as_bucket z k) a v = subst (λ (b : model.Bucket). Stays z b a v) (sym e) asked.2 in
    let below = below_of (2 ^ 64) p.first (λ i. (fits-p i).fits) in
    let f = first-put z k p a v r.place (below_of (2 ^ 64) k.first (λ i. (fits i).fits)) below (rw eq at put) in
    ap (λ b. splice ws at (bucket_words b))
    (held_stay z k four a v r p f below long four-p put.marks put.upper y
    ∙ ap (λ (b : model.Bucket). holding w (rows_in z) (set (own_counts w (rows_in z) b) a v)) e)

-- a shape of width 7 with its width written out
pub seven : (s : Shape) → s.width ≡ 7 → record { uppers = s.uppers; width = 7; entries = s.entries; widths = s.widths } ≡ s
seven s e = ap (λ w. record { uppers = s.uppers; width = w; entries = s.entries; widths = s.widths }) (sym e)

pub asked_seven : (s : Shape) (e : s.width ≡ 7) (ws : List ℕ) (at a v : ℕ) → Asked s ws at a v → Asked (record { uppers = s.uppers; width = 7; entries = s.entries; widths = s.widths }) ws at a v
asked_seven s e ws at a v p = subst (λ (x : Shape). Asked x ws at a v) (sym (seven s e)) p
