-- A whole bucket whose count at one place comes to a larger value, from what its levels above level 1 became.
use mathlib.Core.Path.{◌≡◌, refl, sym, ap, ap₂, ◌∙◌, subst}
use mathlib.Core.Bool.{Bool, true, false, not}
use mathlib.Core.Logic.{◌↔◌}
use mathlib.Core.List.{List, [], ◌∷◌}
use Prim.Native.Nat.{ℕ, zero, suc, ◌/◌, ◌%◌, ◌^◌, ◌≤◌, ◌<◌}
use native.Mathlib.Nat.{le_of_eq, zero-add, div-eq_of_lt, div-one, mod-lt}
use native.Mathlib.Omega.{arith}
use lib.Dec.{T, leb}
use lib.Arith.{lt→nleb}
use lib.ListN.{length, get_or, set, take, length-set}
use lib.Count.{ones}
use lib.Pow.{pow_pos}
use Rattle.model.specs.Lists.{sum, by_mark}
use Rattle.model.specs.Packed.{pack, bit, rank, replaced}
use Rattle.model.specs.Shapes.{Row, row, all_rows, counter_bits, mark_widths}
use Rattle.model.specs.Levels.{Level, level, encode, sound_levels, at_least, crowded}
use Rattle.model.specs.Walls as model
use Rattle.model.specs.Sound.{levels_of, own_counts}
use Rattle.model.specs.Calls.{from_levels, holding}
use Rattle.model.proofs.Lists.{Below}
use Rattle.model.proofs.Packing.{first_fits}
use Rattle.model.proofs.Tools.{bool_eq}
use Rattle.model.proofs.Coding.{Fits, Sound}
use Rattle.model.proofs.Crowding.{T_true, T_false, bucket-fits}
use Rattle.model.proofs.Buckets.{levels_sound, sound-levels, length-own, own-fits, own_coded}
use Rattle.shapes.specs.declared.Shape.{Shape}
use Rattle.shapes.specs.Shapes.{rows_in}
use Rattle.growth.specs.declared.Upper.{Upper}
use Rattle.shapes.proofs.Shapes.{facts}
use Rattle.rooms.specs.Growth.{entering, room_to_enter, raising, room_to_raise}
use Rattle.rooms.proofs.Encoded.{zero-lt, raise_stay, raising-encode, room-to-raise, fits_same}
use Rattle.bucket.specs.declared.Bucket.{Bucket}
use Rattle.bucket.specs.Views.{as_bucket, own_of}
use Rattle.growth.specs.Levels.{levels_from, levels_in}
use Rattle.growth.specs.Grow.{Grown, Stands, Comes, Rises}
use Rattle.bucket.specs.Raise.{Put, Raises, RaisesIn, Stays, room_for}
use Rattle.growth.proofs.Ahead.{at-start}
use Rattle.bucket.proofs.Views.{levels_view}
use Rattle.growth.proofs.Growing.{mark_pos, rank-count}
use Rattle.growth.proofs.Raising.{mark_set, rank_lt}
use Rattle.bucket.proofs.Stored.{from_own, take-replaced}

-- ---- said of the counts

at_least_set : (b : ℕ) (vs : List ℕ) (a v : ℕ) → v < b → at_least b vs ≤ 0 → at_least b (set vs a v) ≤ 0
unfolding at_least
at_least_set b [] a v l h = h
at_least_set b (x ∷ vs) zero v l h = rw (sym (T_false (leb b v) (lt→nleb b v l)), zero-add) (omega arith)
at_least_set b (x ∷ vs) (suc a) v l h = omega (arith, at_least_set b vs a v l (omega arith))

-- the levels with the part p of entry a in the first
abbrev with_part : ℕ → ℕ → ℕ → List Level → List Level
with_part w a p [] = []
with_part w a p (l ∷ ls) = level (replaced w l.cells a p) l.marks ∷ ls

module _ (w : ℕ) (rs : List Row) (b : model.Bucket) (s : Sound 0 (all_rows w rs) 64 (levels_of rs b)) (a v : ℕ) (la : a < 64) (up : get_or (own_counts w rs b) a 0 ≤ v) where
  in_own : a < length (own_counts w rs b)
  in_own = subst (λ n. a < n) (sym (length-own w rs b)) la

  raising-own : raising (all_rows w rs) (levels_of rs b) a v ≡ encode (all_rows w rs) (set (own_counts w rs b) a v)
  raising-own = ap (λ ls. raising (all_rows w rs) ls a v) (sym (own_coded w rs b s)) ∙ raising-encode (all_rows w rs) (own_counts w rs b) a v in_own up

  room-own : v < 2 ^ counter_bits w rs → room_to_raise (all_rows w rs) (levels_of rs b) a v ≡ not (crowded w rs (set (own_counts w rs b) a v))
  room-own h =
      let os : List ℕ = own_counts w rs b in
      let r : T (room_to_raise (all_rows w rs) (levels_of rs b) a v) ↔ Fits (all_rows w rs) (set os a v) =
      subst (λ ls. T (room_to_raise (all_rows w rs) ls a v) ↔ Fits (all_rows w rs) (set os a v)) (own_coded w rs b s) (room-to-raise (all_rows w rs) os a v (own-fits w rs b s) in_own up) in
      let f = bucket-fits (row 64 w) rs (set os a v) (le_of_eq (length-set os a v ∙ length-own w rs b)) in
      let o = ((bucket-fits (row 64 w) rs os (le_of_eq (length-own w rs b))).0 (own-fits w rs b s)).1 in
      bool_eq (room_to_raise (all_rows w rs) (levels_of rs b) a v) (not (crowded w rs (set os a v)))
      (λ t. (f.0 (r.0 t)).0)
      (λ t. r.1 (f.1 (t, at_least_set (2 ^ counter_bits w rs) os a v h o)))

  -- what the place has above level 1 stays
  fits-set : v / 2 ^ w ≡ get_or (own_counts w rs b) a 0 / 2 ^ w → Fits (all_rows w rs) (set (own_counts w rs b) a v)
  fits-set e = fits_same (row 64 w) rs (own_counts w rs b) a v (own-fits w rs b s) e

  room_same : v / 2 ^ w ≡ get_or (own_counts w rs b) a 0 / 2 ^ w → true ≡ not (crowded w rs (set (own_counts w rs b) a v))
  room_same e =
      T_true (not (crowded w rs (set (own_counts w rs b) a v)))
      ((bucket-fits (row 64 w) rs (set (own_counts w rs b) a v) (le_of_eq (length-set (own_counts w rs b) a v ∙ length-own w rs b))).0 (fits-set e)).0

  stay : (c m : ℕ) (ls : List Level) → level c m ∷ ls ≡ levels_of rs b → v / 2 ^ w ≡ get_or (own_counts w rs b) a 0 / 2 ^ w
      → level (replaced w c a (v % 2 ^ w)) m ∷ ls ≡ encode (all_rows w rs) (set (own_counts w rs b) a v)
  unfolding encode
  stay c m ls q e = ap (with_part w a (v % 2 ^ w)) (q ∙ sym (own_coded w rs b s)) ∙ raise_stay (row 64 w) rs (own_counts w rs b) a v in_own e

-- ---- level 1 and those above it

both : (m : ℕ) (c x y : ℕ) (us vs : List Level) → by_mark m (level c x ∷ us) (level c y ∷ vs) ≡ level c (by_mark m x y) ∷ by_mark m us vs
both zero c x y us vs = refl
both (suc m) c x y us vs = refl

module _ (w : ℕ) (rs : List Row) (c m : ℕ) (ls : List Level) (a v : ℕ) where
  low-room : v / 2 ^ w ≡ 0 → true ≡ room_to_raise (all_rows w rs) (level c m ∷ ls) a v
  unfolding room_to_raise
  low-room z = rw z

  low-levels : v / 2 ^ w ≡ 0 → level (replaced w c a (v % 2 ^ w)) m ∷ ls ≡ raising (all_rows w rs) (level c m ∷ ls) a v
  unfolding raising
  low-levels z = rw z

  on_room : 0 < v / 2 ^ w → by_mark (bit m a) (room_to_enter rs (ones m) ls (v / 2 ^ w)) (room_to_raise rs ls (rank m a) (v / 2 ^ w)) ≡ room_to_raise (all_rows w rs) (level c m ∷ ls) a v
  unfolding room_to_raise
  on_room z = sym (mark_pos (v / 2 ^ w) true (by_mark (bit m a) (room_to_enter rs (ones m) ls (v / 2 ^ w)) (room_to_raise rs ls (rank m a) (v / 2 ^ w))) z)

  on_levels : 0 < v / 2 ^ w
      → level (replaced w c a (v % 2 ^ w)) (by_mark (bit m a) (replaced 1 m a 1) m) ∷ by_mark (bit m a) (entering rs ls (rank m a) (v / 2 ^ w)) (raising rs ls (rank m a) (v / 2 ^ w))
      ≡ raising (all_rows w rs) (level c m ∷ ls) a v
  unfolding raising
  on_levels z =
      let d : ℕ = replaced w c a (v % 2 ^ w) in
      let q : ℕ = v / 2 ^ w in
      sym (mark_pos q (level d m ∷ ls) (by_mark (bit m a) (level d (replaced 1 m a 1) ∷ entering rs ls (rank m a) q) (level d m ∷ raising rs ls (rank m a) q)) z
      ∙ both (bit m a) d (replaced 1 m a 1) m (entering rs ls (rank m a) q) (raising rs ls (rank m a) q))

three : {c d m n : ℕ} {us vs : List Level} → c ≡ d → m ≡ n → us ≡ vs → level c m ∷ us ≡ level d n ∷ vs
three e p q = ap₂ ◌∷◌ (ap₂ level e p) q

-- ---- a bucket of the code

abbrev levels_up : Shape → Upper → List Level
levels_up s u = levels_from s.uppers s u.words u.packed 0

abbrev pub uppers_of : Shape → Bucket → List Level
uppers_of s b = levels_up s b.upper

abbrev pub first_of : Shape → Bucket → ℕ
first_of s b = pack 64 (take s.width b.first)

-- p is b with a new part of place a in level 1
pub first-put : (s : Shape) (b p : Bucket) (a v : ℕ) → a < 64 → Below (2 ^ 64) b.first → Below (2 ^ 64) p.first → Put b s.width a (v % 2 ^ s.width) p
    → first_of s p ≡ replaced s.width (first_of s b) a (v % 2 ^ s.width)
first-put s b p a v h below below-p put =
    take-replaced b.first p.first s.width s.width a (v % 2 ^ s.width) below below-p (first_fits s.width a h) (mod-lt v (pow_pos s.width)) put.first

abbrev own_levels : Shape → Bucket → List Level
own_levels s b = level (first_of s b) b.marks ∷ uppers_of s b

-- the levels from the first on, their marks from bit 0 on
from_zero : (s : Shape) (u : Upper) → levels_in s.uppers s u 0 0 ≡ levels_up s u
from_zero s u = ap (λ g. levels_from s.uppers s u.words g 0) (div-one u.packed)

module _ (s : Shape) (b : Bucket) (four : length b.upper.words ≡ 4) (a v : ℕ) (k : Raises s b a v) where
  abbrev w : ℕ
  w = s.width

  sound-own : Sound 0 (all_rows w (rows_in s)) 64 (levels_of (rows_in s) (as_bucket s b))
  sound-own = levels_sound 0 (all_rows w (rows_in s)) 64 (levels_of (rows_in s) (as_bucket s b)) k.sound

  view : own_levels s b ≡ levels_of (rows_in s) (as_bucket s b)
  view = levels_view s b k.fit four

  -- the upper levels of a sound bucket are sound
  sound-uppers : T (sound_levels 1 (rows_in s) (ones b.marks) (uppers_of s b))
  sound-uppers =
      let p : Sound 0 (all_rows w (rows_in s)) 64 (own_levels s b) = subst (Sound 0 (all_rows w (rows_in s)) 64) (sym view) sound-own in
      sound-levels 1 (rows_in s) (ones b.marks) (uppers_of s b) p.4

  room_is : room_to_raise (all_rows w (rows_in s)) (own_levels s b) a v ≡ room_for s b a v
  room_is =
      ap (λ ls. room_to_raise (all_rows w (rows_in s)) ls a v) view
      ∙ room-own w (rows_in s) (as_bucket s b) sound-own a v k.place k.larger k.counter

  levels_are : raising (all_rows w (rows_in s)) (own_levels s b) a v ≡ encode (all_rows w (rows_in s)) (set (own_of s b) a v)
  levels_are = ap (λ ls. raising (all_rows w (rows_in s)) ls a v) view ∙ raising-own w (rows_in s) (as_bucket s b) sound-own a v k.place k.larger

  -- ---- room

  pub room-low : v / 2 ^ w ≡ 0 → true ≡ room_for s b a v
  room-low z = low-room w (rows_in s) (first_of s b) b.marks (uppers_of s b) a v z ∙ room_is

  pub room_in : 0 < v / 2 ^ w → bit b.marks a ≡ 0 → room_to_enter (rows_in s) (ones b.marks) (uppers_of s b) (v / 2 ^ w) ≡ room_for s b a v
  room_in z e =
      ap (λ m. by_mark m (room_to_enter (rows_in s) (ones b.marks) (uppers_of s b) (v / 2 ^ w)) (room_to_raise (rows_in s) (uppers_of s b) (rank b.marks a) (v / 2 ^ w))) (sym e)
      ∙ on_room w (rows_in s) (first_of s b) b.marks (uppers_of s b) a v z ∙ room_is

  pub room_on : 0 < v / 2 ^ w → (bit b.marks a ≡ 0 → ⊥) → room_to_raise (rows_in s) (uppers_of s b) (rank b.marks a) (v / 2 ^ w) ≡ room_for s b a v
  room_on z f =
      ap (λ m. by_mark m (room_to_enter (rows_in s) (ones b.marks) (uppers_of s b) (v / 2 ^ w)) (room_to_raise (rows_in s) (uppers_of s b) (rank b.marks a) (v / 2 ^ w))) (sym (mark_set b.marks a f))
      ∙ on_room w (rows_in s) (first_of s b) b.marks (uppers_of s b) a v z ∙ room_is

  -- ---- r is the bucket after it: its words of level 1 have the new part

  module _ (r : Bucket) (p : first_of s r ≡ replaced w (first_of s b) a (v % 2 ^ w)) (below : Below (2 ^ 64) r.first) (long : length r.first ≡ 16) (four-r : length r.upper.words ≡ 4) where
    holds : r.upper.packed < 2 ^ sum (mark_widths (rows_in s)) → own_levels s r ≡ encode (all_rows w (rows_in s)) (set (own_of s b) a v)
        → as_bucket s r ≡ holding w (rows_in s) (set (own_of s b) a v)
    unfolding holding
    holds h e = sym (from_own s r k.fit long four-r below h) ∙ ap (λ ls. from_levels w (rows_in s) ls 0 0) e

    -- level 1 alone changes
    module _ (qm : r.marks ≡ b.marks) (qu : r.upper ≡ b.upper) where
      own-low : own_levels s r ≡ level (replaced w (first_of s b) a (v % 2 ^ w)) b.marks ∷ uppers_of s b
      own-low = three p qm (ap (levels_up s) qu)

      small : r.upper.packed < 2 ^ sum (mark_widths (rows_in s))
      small = subst (λ (u : Upper). u.packed < 2 ^ sum (mark_widths (rows_in s))) (sym qu) k.plain

      pub held_low : v / 2 ^ w ≡ 0 → as_bucket s r ≡ holding w (rows_in s) (set (own_of s b) a v)
      held_low z = holds small (own-low ∙ low-levels w (rows_in s) (first_of s b) b.marks (uppers_of s b) a v z ∙ levels_are)

      pub held_stay : Stays s (as_bucket s b) a v → as_bucket s r ≡ holding w (rows_in s) (set (own_of s b) a v)
      held_stay e = holds small (own-low ∙ stay w (rows_in s) (as_bucket s b) sound-own a v k.place k.larger (first_of s b) b.marks (uppers_of s b) view e)

    -- the levels above it change too: those of u became ls
    module _ (z : 0 < v / 2 ^ w) (u : Upper) (qu : u ≡ b.upper) (ls : List Level) (g : Grown s s.uppers 0 0 u ls r.upper) where
      small_on : r.upper.packed < 2 ^ sum (mark_widths (rows_in s))
      small_on =
          let n : ℕ = sum (mark_widths (rows_in s)) in
          let e : r.upper.packed / 2 ^ n ≡ 0 =
          ap (λ x. x / 2 ^ n) (sym (div-one r.upper.packed)) ∙ g.above ∙ ap (λ x. x / 2 ^ n) (div-one u.packed ∙ ap (λ (y : Upper). y.packed) qu) ∙ div-eq_of_lt k.plain in
          zero-lt n r.upper.packed e

      pub held_on : r.marks ≡ by_mark (bit b.marks a) (replaced 1 b.marks a 1) b.marks
          → ls ≡ by_mark (bit b.marks a) (entering (rows_in s) (uppers_of s b) (rank b.marks a) (v / 2 ^ w)) (raising (rows_in s) (uppers_of s b) (rank b.marks a) (v / 2 ^ w))
          → as_bucket s r ≡ holding w (rows_in s) (set (own_of s b) a v)
      held_on e h =
          holds small_on
          (three p e (sym (from_zero s r.upper) ∙ g.levels ∙ h) ∙ on_levels w (rows_in s) (first_of s b) b.marks (uppers_of s b) a v z ∙ levels_are)

  -- ---- what growing and rising ask of its upper levels u

  module _ (u : Upper) (qu : u ≡ b.upper) where
    same_levels : levels_in s.uppers s u 0 0 ≡ uppers_of s b
    same_levels = from_zero s u ∙ ap (levels_up s) qu

    stands : Stands s s.uppers 0 0 u (ones b.marks)
    stands =
        let t = facts s k.fit.valid in
        record {
          at = at-start k.fit;
          some = t.levels.0;
          bits = omega (arith, t.marks);
          sound = subst (λ ls. T (sound_levels 1 (rows_in s) (ones b.marks) ls)) (sym same_levels) sound-uppers;
        }

    module _ (z : 0 < v / 2 ^ w) (room : T (room_for s b a v)) where
      pub comes : bit b.marks a ≡ 0 → Comes s s.uppers 0 0 u (rank b.marks a) (v / 2 ^ w)
      comes e = record {
        number = ones b.marks;
        stands = stands;
        within = rank-count b.marks a;
        room = subst (λ ls. T (room_to_enter (rows_in s) (ones b.marks) ls (v / 2 ^ w))) (sym same_levels) (subst T (sym (room_in z e)) room);
      }

      pub rises : (bit b.marks a ≡ 0 → ⊥) → Rises s s.uppers 0 0 u (rank b.marks a) (v / 2 ^ w)
      rises f = record {
        number = ones b.marks;
        stands = stands;
        within = rank_lt b.marks a f;
        room = subst (λ ls. T (room_to_raise (rows_in s) ls (rank b.marks a) (v / 2 ^ w))) (sym same_levels) (subst T (sym (room_on z f)) room);
      }

    pub entered-levels : bit b.marks a ≡ 0 → entering (rows_in s) (levels_in s.uppers s u 0 0) (rank b.marks a) (v / 2 ^ w)
        ≡ by_mark (bit b.marks a) (entering (rows_in s) (uppers_of s b) (rank b.marks a) (v / 2 ^ w)) (raising (rows_in s) (uppers_of s b) (rank b.marks a) (v / 2 ^ w))
    entered-levels e = rw (e, same_levels)

    pub raised-levels : (bit b.marks a ≡ 0 → ⊥) → raising (rows_in s) (levels_in s.uppers s u 0 0) (rank b.marks a) (v / 2 ^ w)
        ≡ by_mark (bit b.marks a) (entering (rows_in s) (uppers_of s b) (rank b.marks a) (v / 2 ^ w)) (raising (rows_in s) (uppers_of s b) (rank b.marks a) (v / 2 ^ w))
    raised-levels f = rw (mark_set b.marks a f, same_levels)

-- a count that stays above level 1 has room
pub roomy : (s : Shape) (b : model.Bucket) (a v : ℕ) → RaisesIn s b a v → Stays s b a v → crowded s.width (rows_in s) (set (own_counts s.width (rows_in s) b) a v) ≡ false
roomy s b a v k e =
    not-said (crowded s.width (rows_in s) (set (own_counts s.width (rows_in s) b) a v))
    (room_same s.width (rows_in s) b (levels_sound 0 (all_rows s.width (rows_in s)) 64 (levels_of (rows_in s) b) k.sound) a v k.place k.larger e)
  where
    not-said : (c : Bool) → true ≡ not c → c ≡ false
    not-said true e = e
    not-said false e = refl
