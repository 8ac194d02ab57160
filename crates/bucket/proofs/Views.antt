-- The levels that a walk meets are those of the bucket's view.
use mathlib.Core.Path.{◌≡◌, refl, ap, ◌∙◌}
use mathlib.Core.List.{List, ◌∷◌}
use Prim.Native.Nat.{ℕ, zero, suc, ◌+◌, ◌-◌, ◌/◌, ◌%◌, ◌^◌, ◌≤◌}
use native.Mathlib.Nat.{mod-one}
use native.Mathlib.Omega.{arith}
use lib.ListN.{length, get_or, take, drop}
use lib.Seq.{drop-cons}
use lib.Pow.{mod-mod-pow, field}
use Rattle.model.specs.Lists.{sum}
use Rattle.model.specs.Packed.{pack, cut_fields}
use Rattle.model.specs.Shapes.{mark_widths}
use Rattle.model.specs.Levels.{level}
use Rattle.model.specs.Sound.{pair_levels, levels_of}
use Rattle.shapes.specs.declared.Shape.{Shape}
use Rattle.bucket.specs.declared.Bucket.{Bucket}
use Rattle.shapes.specs.Shapes.{rows_from, rows_in, entries_at}
use Rattle.bucket.specs.Views.{as_bucket}
use Rattle.shapes.proofs.Shapes.{facts}
use Rattle.growth.specs.Levels.{Fit, levels_from}

-- the low bits of a number of c bits or more
low_cut : (g c k : ℕ) → k ≤ c → g % 2 ^ c % 2 ^ k ≡ g % 2 ^ k
low_cut g c k h = let e : c ≡ c - k + k = omega arith in ap (λ n. g % 2 ^ n % 2 ^ k) e ∙ mod-mod-pow g (c - k) k

high_cut : (g c k : ℕ) → k ≤ c → g % 2 ^ c / 2 ^ k ≡ g / 2 ^ k % 2 ^ (c - k)
high_cut g c k h = let e : c ≡ c - k + k = omega arith in ap (λ n. g % 2 ^ n / 2 ^ k) e ∙ field g (c - k) k

from_view : (n : ℕ) (s : Shape) (us : List ℕ) (g j c : ℕ) → sum (mark_widths (rows_from n s j)) ≤ c → j + n ≤ length us
    → levels_from n s us g j ≡ pair_levels (take n (drop j us)) (cut_fields (mark_widths (rows_from n s j)) (g % 2 ^ c))
unfolding levels_from rows_from
from_view zero s us g j c h l = refl
from_view (suc zero) s us g j c h l = rw (drop-cons us j 0 (omega arith), mod-one)
from_view (suc (suc n)) s us g j c h l =
    let k : ℕ = entries_at s j in
    rw (drop-cons us j 0 (omega arith), low_cut g c k (omega arith), high_cut g c k (omega arith))
    (ap (λ ls. level (get_or us j 0) (g % 2 ^ k) ∷ ls) (from_view (suc n) s us (g / 2 ^ k) (suc j) (c - k) (omega arith) (omega arith)))

pub levels_view : (s : Shape) (b : Bucket) → Fit s → length b.upper.words ≡ 4
    → level (pack 64 (take s.width b.first)) b.marks ∷ levels_from s.uppers s b.upper.words b.upper.packed 0 ≡ levels_of (rows_in s) (as_bucket s b)
levels_view s b f e =
    let t = facts s f.valid in
    ap (λ ls. level (pack 64 (take s.width b.first)) b.marks ∷ ls) (from_view s.uppers s b.upper.words b.upper.packed 0 40 t.marks (omega (arith, t.levels)))
