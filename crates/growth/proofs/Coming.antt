-- A counter that comes into the upper levels of a bucket, level by level.
use mathlib.Core.Path.{◌≡◌, sym, ap, ◌∙◌, subst}
use Prim.Native.Nat.{ℕ, ◌+◌, ◌-◌, ◌*◌, ◌/◌, ◌%◌, ◌^◌, ◌≤◌, ◌<◌}
use native.Mathlib.Nat.{mul-le-mul_right, one-mul, mod-eq_of_lt, mod-lt}
use native.Mathlib.Omega.{arith}
use lib.Dec.{T}
use lib.ListN.{get_or, set, length, length-set}
use lib.Pow.{pow_pos}
use lib.Count.{ones}
use Rattle.model.specs.Packed.{put_in, rank}
use Rattle.model.specs.Levels.{sound_levels}
use Rattle.shapes.specs.declared.Shape.{Shape}
use Rattle.shapes.specs.Shapes.{rows_from, entries_at, width_at}
use Rattle.rooms.specs.Growth.{entering, room_to_enter}
use Rattle.rooms.proofs.Encoded.{zero-lt}
use Rattle.growth.specs.declared.Upper.{Upper}
use Rattle.growth.specs.Levels.{levels_from, levels_in}
use Rattle.growth.specs.Grow.{Redone, Grown, Stands, Comes}
use Rattle.growth.proofs.Ahead.{Here, here, few, at_next, marks-next}
use Rattle.growth.proofs.Growing.{Used, used, marks-used, sound-next, enter_free, enter_end, enter_stop, enter_on, enter_last, room_on, entry_free, cells_free, marks_lt, rank-count}
use Rattle.growth.proofs.Redone.{after, ended, under, ended_last}

-- ---- what stands in a level

module _ {s : Shape} {left j o : ℕ} {b : Upper} {n : ℕ} (k : Stands s left j o b n) where
  pub level-here : Here s left j
  level-here = here k.at k.some

  pub level-used : Used s b.words j n
  level-used = used s b.words (b.packed / 2 ^ o) j n left k.sound k.some

  pub marks-here : 1 < left → b.packed / 2 ^ o % 2 ^ entries_at s j < 2 ^ n
  marks-here h = marks-used s b.words (b.packed / 2 ^ o) j n left k.sound h

  pub bits-here : 1 < left → (o + entries_at s j ≤ 40) × (entries_at s j ≤ 40)
  bits-here h = (omega (arith, k.bits, marks-next s left j h), few k.at h)

  -- the levels after it stand on, whatever became of this one
  pub stands_on : 1 < left → (x m : ℕ) (c : Upper) → j < length b.words → Redone b j o (entries_at s j) x m c
      → Stands s (left - 1) (j + 1) (o + entries_at s j) c (ones (b.packed / 2 ^ o % 2 ^ entries_at s j))
  stands_on h x m c l d = record {
    at = at_next k.at k.some;
    some = omega arith;
    bits = omega (arith, k.bits, marks-next s left j h);
    sound = subst (λ ls. T (sound_levels 1 (rows_from (left - 1) s (j + 1)) (ones (b.packed / 2 ^ o % 2 ^ entries_at s j)) ls)) (sym (after s left j o h b x m c l d))
        (sound-next s b.words (b.packed / 2 ^ o) j n left k.sound h);
  }

-- ---- a counter that comes in

module _ {s : Shape} {left j o : ℕ} {b : Upper} {a v : ℕ} (k : Comes s left j o b a v) where
  abbrev w : ℕ
  w = width_at s j

  abbrev marks : ℕ
  marks = b.packed / 2 ^ o % 2 ^ entries_at s j

  free : k.number < entries_at s j
  free = enter_free s b.words (b.packed / 2 ^ o) j k.number v left k.stands.some k.room

  room-here : (w * a + w ≤ 64) × (w * k.number + w ≤ 64)
  room-here = entry_free w a k.number (entries_at s j) (level-here k.stands).word free k.within

  -- what putting an entry in asks
  pub enters : (j < 4) × (w * a + w ≤ 64) × (1 ≤ w) × (w < 64) × (get_or b.words j 0 < 2 ^ (64 - w))
  enters =
      let h = level-here k.stands in
      (h.index, room-here.0, h.wide, omega (arith, h.narrow), cells_free w k.number (get_or b.words j 0) (level-used k.stands).cells room-here.1)

  pub entry_64 : a < 64
  entry_64 = let h = level-here k.stands in omega (arith, mul-le-mul_right (entries_at s j) h.wide, one-mul (entries_at s j), h.word, free, k.within)

  -- what putting a mark in asks
  pub marked : 1 < left → (m : ℕ) → m < 2 → (o + entries_at s j ≤ 40) × (put_in 1 marks a m < 2 ^ entries_at s j)
  marked h m l = ((bits-here k.stands h).0, marks_lt marks a m k.number (entries_at s j) (marks-here k.stands h) k.within l free)

  -- at the last level the value is a part
  pub last-part : left ≡ 1 → (v < 2 ^ w) × (v % 2 ^ w ≡ v)
  last-part e =
      let l : v < 2 ^ w = zero-lt w v (enter_end s b.words (b.packed / 2 ^ o) j k.number v left e k.room) in
      (l, mod-eq_of_lt l)

  module _ (l : j < length b.words) where
    pub came_last : left ≡ 1 → Grown s left j o b (entering (rows_from left s j) (levels_in left s b o j) a v)
        (record { words = set b.words j (put_in w (get_or b.words j 0) a v); packed = b.packed })
    came_last e =
        let z = enter_end s b.words (b.packed / 2 ^ o) j k.number v left e k.room in
        rw (enter_last s b.words (b.packed / 2 ^ o) j k.number a v left e z, (last-part e).1) (ended_last s left j o e b (put_in w (get_or b.words j 0) a v) l)

    module _ (h : 1 < left) (c : Upper) where
      pub came_stop : v / 2 ^ w ≡ 0 → Redone b j o (entries_at s j) (put_in w (get_or b.words j 0) a (v % 2 ^ w)) (put_in 1 marks a 0) c
          → Grown s left j o b (entering (rows_from left s j) (levels_in left s b o j) a v) c
      came_stop z d =
          rw (enter_stop s b.words (b.packed / 2 ^ o) j k.number a v left h z)
          (ended s left j o h b (put_in w (get_or b.words j 0) a (v % 2 ^ w)) (put_in 1 marks a 0) c l d)

      module _ (z : 0 < v / 2 ^ w) (d : Redone b j o (entries_at s j) (put_in w (get_or b.words j 0) a (v % 2 ^ w)) (put_in 1 marks a 1) c) where
        -- the levels after this one, as the changed bucket has them
        abbrev kept : levels_in (left - 1) s c (o + entries_at s j) (j + 1) ≡ levels_from (left - 1) s b.words (b.packed / 2 ^ o / 2 ^ entries_at s j) (j + 1)
        kept = after s left j o h b (put_in w (get_or b.words j 0) a (v % 2 ^ w)) (put_in 1 marks a 1) c l d

        pub comes_on : Comes s (left - 1) (j + 1) (o + entries_at s j) c (rank marks a) (v / 2 ^ w)
        comes_on = record {
          number = ones marks;
          stands = stands_on k.stands h (put_in w (get_or b.words j 0) a (v % 2 ^ w)) (put_in 1 marks a 1) c l d;
          within = rank-count marks a;
          room = subst (λ ls. T (room_to_enter (rows_from (left - 1) s (j + 1)) (ones marks) ls (v / 2 ^ w))) (sym kept)
              (subst T (sym (room_on s b.words (b.packed / 2 ^ o) j k.number a v left h free z)) k.room);
        }

        pub came_on : (r : Upper)
            → Grown s (left - 1) (j + 1) (o + entries_at s j) c (entering (rows_from (left - 1) s (j + 1)) (levels_in (left - 1) s c (o + entries_at s j) (j + 1)) (rank marks a) (v / 2 ^ w)) r
            → Grown s left j o b (entering (rows_from left s j) (levels_in left s b o j) a v) r
        came_on r g =
            rw (enter_on s b.words (b.packed / 2 ^ o) j k.number a v left h z)
            (under s left j o h b (put_in w (get_or b.words j 0) a (v % 2 ^ w)) (put_in 1 marks a 1) c l d
            (entering (rows_from (left - 1) s (j + 1)) (levels_from (left - 1) s b.words (b.packed / 2 ^ o / 2 ^ entries_at s j) (j + 1)) (rank marks a) (v / 2 ^ w)) r
            (subst (λ ls. Grown s (left - 1) (j + 1) (o + entries_at s j) c (entering (rows_from (left - 1) s (j + 1)) ls (rank marks a) (v / 2 ^ w)) r) kept g))

-- ---- the walk: where it stands, and that what is left to do makes the whole

pub record Going (s : Shape) (left₀ j₀ o₀ : ℕ) (b₀ : Upper) (a₀ v₀ left j o : ℕ) (b : Upper) (a v : ℕ) : Type 0 where
  pub comes : Comes s left j o b a v
  pub four : length b.words ≡ 4
  pub makes : (r : Upper) → Grown s left j o b (entering (rows_from left s j) (levels_in left s b o j) a v) r
      → Grown s left₀ j₀ o₀ b₀ (entering (rows_from left₀ s j₀) (levels_in left₀ s b₀ o₀ j₀) a₀ v₀) r

-- as the code goes: w and k are what it was told of the level, p and q powers of 2 that it made of them

module _ {s : Shape} {left₀ j₀ o₀ : ℕ} {b₀ : Upper} {a₀ v₀ left j o : ℕ} {b : Upper} {a v : ℕ} (g : Going s left₀ j₀ o₀ b₀ a₀ v₀ left j o b a v) where
  pub shift_asks : 1 < left → (m : ℕ) → m < 2 → (w k q : ℕ) → w ≡ width_at s j → k ≡ entries_at s j → q ≡ 2 ^ w
      → (j < 4) × (w * a + w ≤ 64) × (1 ≤ w) × (w < 64) × (v % q < 2 ^ w) × (get_or b.words j 0 < 2 ^ (64 - w))
      × (o + k ≤ 40) × (a < 64) × (m < 2) × (put_in 1 (b.packed / 2 ^ o % 2 ^ k) a m < 2 ^ k)
  shift_asks h m l w k q ew ek eq =
      let e = enters g.comes in
      let f = marked g.comes h m l in
      rw (eq, ew, ek) (e.0, e.1, e.2, e.3, mod-lt v (pow_pos (width_at s j)), e.4, f.0, entry_64 g.comes, l, f.1)

  pub put_asks : left ≡ 1 → (w : ℕ) → w ≡ width_at s j → (j < 4) × (w * a + w ≤ 64) × (1 ≤ w) × (w < 64) × (v < 2 ^ w) × (get_or b.words j 0 < 2 ^ (64 - w))
  put_asks h w ew = let e = enters g.comes in rw ew (e.0, e.1, e.2, e.3, (last-part g.comes h).0, e.4)

  l : j < length b.words
  l = omega (arith, (level-here g.comes.stands).index, g.four)

  pub made_last : left ≡ 1 → (w : ℕ) (r : Upper) → w ≡ width_at s j
      → r ≡ record { words = set b.words j (put_in w (get_or b.words j 0) a v); packed = b.packed }
      → Grown s left₀ j₀ o₀ b₀ (entering (rows_from left₀ s j₀) (levels_in left₀ s b₀ o₀ j₀) a₀ v₀) r
  made_last h w r ew er = g.makes r (rw (er, ew) (came_last g.comes l h))

  module _ (h : 1 < left) (w k q : ℕ) (c : Upper) (ew : w ≡ width_at s j) (ek : k ≡ entries_at s j) (eq : q ≡ 2 ^ w) where
    pub made_stop : v / 2 ^ w ≡ 0 → Redone b j o k (put_in w (get_or b.words j 0) a (v % q)) (put_in 1 (b.packed / 2 ^ o % 2 ^ k) a 0) c
        → Grown s left₀ j₀ o₀ b₀ (entering (rows_from left₀ s j₀) (levels_in left₀ s b₀ o₀ j₀) a₀ v₀) c
    made_stop z d = g.makes c (came_stop g.comes l h c (rw ew at z) (rw (eq, ew, ek) at d))

    pub going_on : (p i : ℕ) → p ≡ 2 ^ k → i ≡ rank (b.packed / 2 ^ o % p) a → 0 < v / 2 ^ w
        → Redone b j o k (put_in w (get_or b.words j 0) a (v % q)) (put_in 1 (b.packed / 2 ^ o % 2 ^ k) a 1) c
        → Going s left₀ j₀ o₀ b₀ a₀ v₀ (left - 1) (j + 1) (o + k) c i (v / 2 ^ w)
    going_on p i ep ei z d =
        let y = rw ew at z in
        let f = rw (eq, ew, ek) at d in
        rw (ei, ep, ek, ew) (record { comes = comes_on g.comes l h c y f; four = ap length f.words ∙ length-set b.words j (put_in (width_at s j) (get_or b.words j 0) a (v % 2 ^ width_at s j)) ∙ g.four; makes = λ r x. g.makes r (came_on g.comes l h c y f r x) })
