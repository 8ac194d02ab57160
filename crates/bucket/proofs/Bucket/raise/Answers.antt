use Rattle.bucket.specs.declared.Bucket.{Bucket}
use Rattle.bucket.specs.Raise.{Put, Raises, room_for}
use Rattle.bucket.specs.Views.{as_bucket, own_of}
use Rattle.bucket.proofs.Stepping.{first-put, held_low, held_on, comes, rises, entered-levels, raised-levels}
use Rattle.growth.proofs.Raising.{mark_set}
use Rattle.growth.specs.declared.Upper.{Upper}
use Rattle.growth.specs.Grow.{Comes, Rises, Grown}
use Rattle.growth.specs.Levels.{levels_in}
use Rattle.rooms.specs.Growth.{entering, raising}
use Rattle.shapes.specs.declared.Shape.{Shape}
use Rattle.shapes.specs.Shapes.{rows_in}
use Rattle.cells.proofs.Crossing.{below_of}
use Rattle.model.proofs.Lists.{Below}
use Rattle.model.specs.Calls.{holding}
use Rattle.model.specs.Packed.{bit, rank, replaced}
use lib.Dec.{T}
use lib.ListN.{length, get_or, set}
use mir.Syntax.{w64}
use mir.Val.{Fits}
use native.Mathlib.Omega.{arith}
use Prim.Native.Nat.{ℕ, ◌<◌, ◌/◌, ◌%◌, ◌^◌}
use mathlib.Core.Path.{◌≡◌, sym, ap, ◌∙◌}
use borrow.Author.Rules.{rules}
use Rattle.bucket.proofs.Bucket.raise.Goals as goal

-- p is b with the new part of place a in level 1, q what goes above it, i the rank of the place and g its mark
module _ (s : Shape) (b p : Bucket) (four : length b.upper.words ≡ 4) (a v : ℕ) (k : Raises s b a v)
    (put : Put b s.width a (v % 2 ^ s.width) p) where
  abbrev q : ℕ
  q = v / 2 ^ s.width

  module _ (z : 0 < q) (g i : ℕ) (eg : g ≡ bit p.marks a) (ei : i ≡ rank p.marks a) where
    unmarked : g ≡ 0 → bit b.marks a ≡ 0
    unmarked h = ap (λ m. bit m a) (sym put.marks) ∙ sym eg ∙ h

    marked : (g ≡ 0 → ⊥) → bit b.marks a ≡ 0 → ⊥
    marked f e = f (eg ∙ ap (λ m. bit m a) put.marks ∙ e)

    comes-put : T (room_for s b a v) → g ≡ 0 → Comes s s.uppers 0 0 p.upper i q
    comes-put t h = rw (ei, put.marks) (comes s b four a v k p.upper put.upper z t (unmarked h))

    rises-put : T (room_for s b a v) → (g ≡ 0 → ⊥) → Rises s s.uppers 0 0 p.upper i q
    rises-put t f = rw (ei, put.marks) (rises s b four a v k p.upper put.upper z t (marked f))

    module _ (fits : (i : ℕ) → Fits w64 (get_or b.first i 0)) (fits-p : (i : ℕ) → Fits w64 (get_or p.first i 0))
        (long : length p.first ≡ 16) (u : Upper) (four-u : length u.words ≡ 4) where
      below : Below (2 ^ 64) b.first
      below = below_of _ _ (λ i. (fits i).fits)

      below-p : Below (2 ^ 64) p.first
      below-p = below_of _ _ (λ i. (fits-p i).fits)

      held_in : g ≡ 0 → (m : ℕ) → m ≡ replaced 1 p.marks a 1
          → Grown s s.uppers 0 0 p.upper (entering (rows_in s) (levels_in s.uppers s p.upper 0 0) i q) u
          → as_bucket s (record { first = p.first; marks = m; upper = u }) ≡ holding s.width (rows_in s) (set (own_of s b) a v)
      held_in h m em grown =
          held_on s b four a v k (record { first = p.first; marks = m; upper = u }) (first-put s b p a v k.place below below-p put)
          below-p long four-u z p.upper put.upper _ grown
          (rw (em, put.marks, unmarked h))
          (rw (ei, put.marks) (entered-levels s b four a v k p.upper put.upper (unmarked h)))

      held_up : (g ≡ 0 → ⊥) → Grown s s.uppers 0 0 p.upper (raising (rows_in s) (levels_in s.uppers s p.upper 0 0) i q) u
          → as_bucket s (record { first = p.first; marks = p.marks; upper = u }) ≡ holding s.width (rows_in s) (set (own_of s b) a v)
      held_up f grown =
          held_on s b four a v k (record { first = p.first; marks = p.marks; upper = u }) (first-put s b p a v k.place below below-p put)
          below-p long four-u z p.upper put.upper _ grown
          (rw (put.marks, mark_set b.marks a (marked f)))
          (rw (ei, put.marks) (raised-levels s b four a v k p.upper put.upper (marked f)))

pub returns-then-high-eq0 : goal.returns-then-high-eq0
returns-then-high-eq0 c =
    let a = c.args in
    let p = c.put-self in
    let put = rw c.pow2.ensures.0 at p.ensures in
    let below : Below (2 ^ 64) p.result.first = below_of _ _ (λ i. search rules) in
    held_low a.shape a.self (search rules) a.place a.value c.requires.0 p.result
    (first-put a.shape a.self p.result a.place a.value c.requires.0.place (below_of _ _ (λ i. search rules)) below put)
    below (search rules) (search rules) p.ensures.marks p.ensures.upper c.if-high-eq0.true

pub grow-self-requires : goal.grow-self-requires
grow-self-requires c =
    let a = c.args in
    comes-put a.shape a.self c.put-self.result (search rules) a.place a.value c.requires.0 (rw c.pow2.ensures.0 at c.put-self.ensures)
    (omega (arith, c.if-high-eq0.false)) _ _ c.bit.ensures c.rank-next.ensures.0 c.requires.1 c.if-bit-eq0.true

pub returns-then-bit-eq0 : goal.returns-then-bit-eq0
returns-then-bit-eq0 c =
    let a = c.args in
    held_in a.shape a.self c.put-self.result (search rules) a.place a.value c.requires.0 (rw c.pow2.ensures.0 at c.put-self.ensures)
    (omega (arith, c.if-high-eq0.false)) _ _ c.bit.ensures c.rank-next.ensures.0
    (λ i. search rules) (λ i. search rules) (search rules) _ (search rules) c.if-bit-eq0.true _ c.set_mark.ensures c.grow-self.ensures

pub rise-self-requires : goal.rise-self-requires
rise-self-requires c =
    let a = c.args in
    rises-put a.shape a.self c.put-self.result (search rules) a.place a.value c.requires.0 (rw c.pow2.ensures.0 at c.put-self.ensures)
    (omega (arith, c.if-high-eq0.false)) _ _ c.bit.ensures c.rank-next.ensures.0 c.requires.1 c.if-bit-eq0.false

pub returns-else-bit-eq0 : goal.returns-else-bit-eq0
returns-else-bit-eq0 c =
    let a = c.args in
    held_up a.shape a.self c.put-self.result (search rules) a.place a.value c.requires.0 (rw c.pow2.ensures.0 at c.put-self.ensures)
    (omega (arith, c.if-high-eq0.false)) _ _ c.bit.ensures c.rank-next.ensures.0
    (λ i. search rules) (λ i. search rules) (search rules) _ (search rules) c.if-bit-eq0.false c.rise-self.ensures
