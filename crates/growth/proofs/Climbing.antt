-- A counter of the upper levels that comes to a larger value, level by level.
use mathlib.Core.Path.{◌≡◌, refl, sym, ap, ◌∙◌, subst}
use Prim.Native.Nat.{ℕ, ◌+◌, ◌-◌, ◌*◌, ◌/◌, ◌%◌, ◌^◌, ◌≤◌, ◌<◌}
use native.Mathlib.Nat.{mul-le-mul_right, one-mul, mul_comm, add-mul, mod-eq_of_lt, mod-lt}
use native.Mathlib.Omega.{arith}
use lib.Dec.{T}
use lib.ListN.{get_or, set, length, length-set}
use lib.Pow.{pow-add, pow_pos, shr-shr, field, mod-mod-pow}
use lib.Count.{ones}
use Rattle.model.specs.Packed.{entry, bit, rank, replaced}
use Rattle.model.proofs.AcrossWords.{put_adds}
use Rattle.shapes.specs.declared.Shape.{Shape}
use Rattle.shapes.specs.Shapes.{rows_from, entries_at, width_at}
use Rattle.rooms.specs.Growth.{entering, raising, room_to_enter, room_to_raise}
use Rattle.rooms.proofs.Encoded.{zero-lt}
use Rattle.growth.specs.declared.Upper.{Upper}
use Rattle.growth.specs.Levels.{levels_from, levels_in}
use Rattle.growth.specs.Grow.{Redone, Grown, Comes, Rises}
use Rattle.growth.proofs.Growing.{rank-count}
use Rattle.growth.proofs.Raising.{rank_lt, entry-used, mark_put, raise_stop, raise-last, raise_in, raise_rise, room_in, room_rise, rise_end}
use Rattle.growth.proofs.Redone.{field_put, after, ended, under, ended_last}
use Rattle.growth.proofs.Coming.{level-here, level-used, marks-here, stands_on}

-- the bucket with x as the word of level j, and g as its packed word
abbrev pub with_word : Upper → ℕ → ℕ → ℕ → Upper
with_word b j x g = record { words = set b.words j x; packed = g }

-- its marks stay
pub redone_word : (b : Upper) (j o k x : ℕ) → Redone b j o k x (b.packed / 2 ^ o % 2 ^ k) (with_word b j x b.packed)
redone_word b j o k x = record { words = refl; low = refl; own = refl; high = refl }

-- ---- mark a of a field that begins at bit o is mark o + a of the word

field_bit : (p o k a : ℕ) → a < k → bit (p / 2 ^ o % 2 ^ k) a ≡ bit p (o + a)
field_bit p o k a l =
    let y : ℕ = p / 2 ^ o in
    let e : k ≡ k - a + a = omega arith in
    let i : k - a ≡ k - a - 1 + 1 = omega arith in
    ap (λ n. y % 2 ^ n / 2 ^ a % 2) e ∙ ap (λ n. n % 2) (field y (k - a) a) ∙ ap (λ n. y / 2 ^ a % 2 ^ n % 2) i
    ∙ mod-mod-pow (y / 2 ^ a) (k - a - 1) 1 ∙ ap (λ n. n % 2) (shr-shr p o a)

-- a mark that was not set is added
mark_more : (x a n : ℕ) → n ≡ 2 ^ a → bit x a ≡ 0 → replaced 1 x a 1 ≡ x + n
mark_more x a n e z =
    go (replaced 1 x a 1) (entry 1 x a) (2 ^ (1 * a)) (put_adds 1 x a 1) (ap (λ i. x / 2 ^ i % 2) (one-mul a) ∙ z) (ap (λ i. 2 ^ i) (one-mul a) ∙ sym e)
  where
    go : (r m p : ℕ) → r + m * p ≡ x + 1 * p → m ≡ 0 → p ≡ n → r ≡ x + n
    go r m p h u v = let q = rw (u, v) at h in omega arith

-- one mark of the level is set, too
pub redone_mark : (b : Upper) (j o k x a : ℕ) → a < k → bit (b.packed / 2 ^ o % 2 ^ k) a ≡ 0 → replaced 1 (b.packed / 2 ^ o % 2 ^ k) a 1 < 2 ^ k
    → Redone b j o k x (replaced 1 (b.packed / 2 ^ o % 2 ^ k) a 1) (with_word b j x (replaced 1 b.packed (o + a) 1))
redone_mark b j o k x a l z h =
    let p : ℕ = b.packed in
    let m : ℕ = p / 2 ^ o % 2 ^ k in
    let e : replaced 1 p (o + a) 1 ≡ p + 2 ^ a * 2 ^ o = mark_more p (o + a) (2 ^ a * 2 ^ o) (mul_comm (2 ^ a) (2 ^ o) ∙ sym (pow-add 2 o a)) (sym (field_bit p o k a l) ∙ z) in
    let u : replaced 1 m a 1 ≡ m + 2 ^ a = mark_more m a (2 ^ a) refl z in
    let f = field_put p (replaced 1 p (o + a) 1) o k (replaced 1 m a 1) h (rw (e, u, add-mul) (omega arith)) in
    record { words = refl; low = f.0; own = f.1; high = f.2 }

-- ---- a counter that rises

module _ {s : Shape} {left j o : ℕ} {b : Upper} {a v : ℕ} (k : Rises s left j o b a v) where
  abbrev w : ℕ
  w = width_at s j

  abbrev marks : ℕ
  marks = b.packed / 2 ^ o % 2 ^ entries_at s j

  abbrev word : ℕ
  word = replaced (width_at s j) (get_or b.words j 0) a (v % 2 ^ width_at s j)

  -- what replacing the entry asks
  pub replaces : (j < 4) × (w * a + w ≤ 64) × (1 ≤ w) × (w < 64)
  replaces =
      let h = level-here k.stands in
      (h.index, entry-used w a k.number (entries_at s j) h.word (level-used k.stands).most k.within, h.wide, omega (arith, h.narrow))

  pub entry_in : a < entries_at s j
  entry_in = omega (arith, (level-used k.stands).most, k.within)

  pub entry_64 : a < 64
  entry_64 = let h = level-here k.stands in omega (arith, mul-le-mul_right (entries_at s j) h.wide, one-mul (entries_at s j), h.word, entry_in)

  pub last-part : left ≡ 1 → (v < 2 ^ w) × (v % 2 ^ w ≡ v)
  last-part e =
      let l : v < 2 ^ w = zero-lt w v (rise_end s b.words (b.packed / 2 ^ o) j a v left e k.room) in
      (l, mod-eq_of_lt l)

  module _ (l : j < length b.words) where
    pub rose_last : left ≡ 1 → Grown s left j o b (raising (rows_from left s j) (levels_in left s b o j) a v) (with_word b j (replaced w (get_or b.words j 0) a v) b.packed)
    rose_last e =
        let z = rise_end s b.words (b.packed / 2 ^ o) j a v left e k.room in
        rw (raise-last s b.words (b.packed / 2 ^ o) j a v left e z, (last-part e).1) (ended_last s left j o e b (replaced w (get_or b.words j 0) a v) l)

    module _ (h : 1 < left) where
      pub rose_stop : v / 2 ^ w ≡ 0 → Grown s left j o b (raising (rows_from left s j) (levels_in left s b o j) a v) (with_word b j word b.packed)
      rose_stop z = rw (raise_stop s b.words (b.packed / 2 ^ o) j a v left h z) (ended s left j o h b word marks (with_word b j word b.packed) l (redone_word b j o (entries_at s j) word))

      module _ (z : 0 < v / 2 ^ w) where
        -- it lacks the next level
        module _ (none : bit marks a ≡ 0) where
          abbrev marked : Upper
          marked = with_word b j word (replaced 1 b.packed (o + a) 1)

          new-marks : Redone b j o (entries_at s j) word (replaced 1 marks a 1) marked
          new-marks = redone_mark b j o (entries_at s j) word a entry_in none (mark_put marks a k.number (entries_at s j) (marks-here k.stands h) k.within (level-used k.stands).most)

          kept : levels_in (left - 1) s marked (o + entries_at s j) (j + 1) ≡ levels_from (left - 1) s b.words (b.packed / 2 ^ o / 2 ^ entries_at s j) (j + 1)
          kept = after s left j o h b word (replaced 1 marks a 1) marked l new-marks

          pub comes_above : Comes s (left - 1) (j + 1) (o + entries_at s j) marked (rank marks a) (v / 2 ^ w)
          comes_above = record {
            number = ones marks;
            stands = stands_on k.stands h word (replaced 1 marks a 1) marked l new-marks;
            within = rank-count marks a;
            room = subst (λ ls. T (room_to_enter (rows_from (left - 1) s (j + 1)) (ones marks) ls (v / 2 ^ w))) (sym kept)
                (subst T (sym (room_in s b.words (b.packed / 2 ^ o) j a v left h z none)) k.room);
          }

          pub rose_in : (r : Upper)
              → Grown s (left - 1) (j + 1) (o + entries_at s j) marked (entering (rows_from (left - 1) s (j + 1)) (levels_in (left - 1) s marked (o + entries_at s j) (j + 1)) (rank marks a) (v / 2 ^ w)) r
              → Grown s left j o b (raising (rows_from left s j) (levels_in left s b o j) a v) r
          rose_in r g =
              rw (raise_in s b.words (b.packed / 2 ^ o) j a v left h z none)
              (under s left j o h b word (replaced 1 marks a 1) marked l new-marks
              (entering (rows_from (left - 1) s (j + 1)) (levels_from (left - 1) s b.words (b.packed / 2 ^ o / 2 ^ entries_at s j) (j + 1)) (rank marks a) (v / 2 ^ w)) r
              (subst (λ ls. Grown s (left - 1) (j + 1) (o + entries_at s j) marked (entering (rows_from (left - 1) s (j + 1)) ls (rank marks a) (v / 2 ^ w)) r) kept g))

        -- it goes on in the next level
        module _ (some : bit marks a ≡ 0 → ⊥) where
          abbrev raised : Upper
          raised = with_word b j word b.packed

          kept_on : levels_in (left - 1) s raised (o + entries_at s j) (j + 1) ≡ levels_from (left - 1) s b.words (b.packed / 2 ^ o / 2 ^ entries_at s j) (j + 1)
          kept_on = after s left j o h b word marks raised l (redone_word b j o (entries_at s j) word)

          pub rises_on : Rises s (left - 1) (j + 1) (o + entries_at s j) raised (rank marks a) (v / 2 ^ w)
          rises_on = record {
            number = ones marks;
            stands = stands_on k.stands h word marks raised l (redone_word b j o (entries_at s j) word);
            within = rank_lt marks a some;
            room = subst (λ ls. T (room_to_raise (rows_from (left - 1) s (j + 1)) ls (rank marks a) (v / 2 ^ w))) (sym kept_on)
                (subst T (sym (room_rise s b.words (b.packed / 2 ^ o) j a v left h z some)) k.room);
          }

          pub rose_on : (r : Upper)
              → Grown s (left - 1) (j + 1) (o + entries_at s j) raised (raising (rows_from (left - 1) s (j + 1)) (levels_in (left - 1) s raised (o + entries_at s j) (j + 1)) (rank marks a) (v / 2 ^ w)) r
              → Grown s left j o b (raising (rows_from left s j) (levels_in left s b o j) a v) r
          rose_on r g =
              rw (raise_rise s b.words (b.packed / 2 ^ o) j a v left h z some)
              (under s left j o h b word marks raised l (redone_word b j o (entries_at s j) word)
              (raising (rows_from (left - 1) s (j + 1)) (levels_from (left - 1) s b.words (b.packed / 2 ^ o / 2 ^ entries_at s j) (j + 1)) (rank marks a) (v / 2 ^ w)) r
              (subst (λ ls. Grown s (left - 1) (j + 1) (o + entries_at s j) raised (raising (rows_from (left - 1) s (j + 1)) ls (rank marks a) (v / 2 ^ w)) r) kept_on g))

-- ---- the walk: where it stands, and that what is left to do makes the whole

pub record Climbing (s : Shape) (left₀ j₀ o₀ : ℕ) (b₀ : Upper) (a₀ v₀ left j o : ℕ) (b : Upper) (a v : ℕ) : Type 0 where
  pub rises : Rises s left j o b a v
  pub four : length b.words ≡ 4
  pub makes : (r : Upper) → Grown s left j o b (raising (rows_from left s j) (levels_in left s b o j) a v) r
      → Grown s left₀ j₀ o₀ b₀ (raising (rows_from left₀ s j₀) (levels_in left₀ s b₀ o₀ j₀) a₀ v₀) r

-- as the code goes: w and k are what it was told of the level, p and q powers of 2 that it made of them, c the bucket with the part replaced

module _ {s : Shape} {left₀ j₀ o₀ : ℕ} {b₀ : Upper} {a₀ v₀ left j o : ℕ} {b : Upper} {a v : ℕ} (g : Climbing s left₀ j₀ o₀ b₀ a₀ v₀ left j o b a v) where
  inside : j < length b.words
  inside = omega (arith, (level-here g.rises.stands).index, g.four)

  pub replace_asks : (w q : ℕ) → w ≡ width_at s j → q ≡ 2 ^ w → (j < 4) × (w * a + w ≤ 64) × (1 ≤ w) × (w < 64) × (v % q < 2 ^ w)
  replace_asks w q ew eq = let e = replaces g.rises in rw (eq, ew) (e.0, e.1, e.2, e.3, mod-lt v (pow_pos (width_at s j)))

  pub replace_last : left ≡ 1 → (w : ℕ) → w ≡ width_at s j → (j < 4) × (w * a + w ≤ 64) × (1 ≤ w) × (w < 64) × (v < 2 ^ w)
  replace_last h w ew = let e = replaces g.rises in rw ew (e.0, e.1, e.2, e.3, (last-part g.rises h).0)

  pub made_last : left ≡ 1 → (w : ℕ) (r : Upper) → w ≡ width_at s j → r ≡ with_word b j (replaced w (get_or b.words j 0) a v) b.packed
      → Grown s left₀ j₀ o₀ b₀ (raising (rows_from left₀ s j₀) (levels_in left₀ s b₀ o₀ j₀) a₀ v₀) r
  made_last h w r ew er = g.makes r (rw (er, ew) (rose_last g.rises inside h))

  module _ (h : 1 < left) (w q : ℕ) (c : Upper) (ew : w ≡ width_at s j) (eq : q ≡ 2 ^ w) (ec : c ≡ with_word b j (replaced w (get_or b.words j 0) a (v % q)) b.packed) where
    here : c ≡ with_word b j (replaced (width_at s j) (get_or b.words j 0) a (v % 2 ^ width_at s j)) b.packed
    here = rw (eq, ew) at ec

    pub made_stop : v / 2 ^ w ≡ 0 → Grown s left₀ j₀ o₀ b₀ (raising (rows_from left₀ s j₀) (levels_in left₀ s b₀ o₀ j₀) a₀ v₀) c
    made_stop z = g.makes c (subst (λ (x : Upper). Grown s left j o b (raising (rows_from left s j) (levels_in left s b o j) a v) x) (sym here) (rose_stop g.rises inside h (rw ew at z)))

    module _ (k p i : ℕ) (ek : k ≡ entries_at s j) (ep : p ≡ 2 ^ k) (ei : i ≡ rank (c.packed / 2 ^ o % p) a) (z : 0 < v / 2 ^ w) where
      same_marks : c.packed / 2 ^ o % p ≡ b.packed / 2 ^ o % 2 ^ entries_at s j
      same_marks = ap (λ (x : Upper). x.packed / 2 ^ o % p) ec ∙ ap (λ n. b.packed / 2 ^ o % n) (ep ∙ ap (λ n. 2 ^ n) ek)

      next : i ≡ rank (b.packed / 2 ^ o % 2 ^ entries_at s j) a
      next = ei ∙ ap (λ m. rank m a) same_marks

      -- it lacks the next level: d is the bucket with its mark set
      module _ (none : bit (c.packed / 2 ^ o % p) a ≡ 0) (d : Upper) (ed : d ≡ record { words = c.words; packed = replaced 1 c.packed (o + a) 1 }) where
        no-mark : bit (b.packed / 2 ^ o % 2 ^ entries_at s j) a ≡ 0
        no-mark = ap (λ m. bit m a) (sym same_marks) ∙ none

        there : d ≡ with_word b j (replaced (width_at s j) (get_or b.words j 0) a (v % 2 ^ width_at s j)) (replaced 1 b.packed (o + a) 1)
        there = ed ∙ ap (λ (x : Upper). record { words = x.words; packed = replaced 1 x.packed (o + a) 1 }) here

        pub grows : Comes s (left - 1) (j + 1) (o + k) d i (v / 2 ^ w)
        grows = rw (next, ek, ew) (subst (λ (x : Upper). Comes s (left - 1) (j + 1) (o + entries_at s j) x (rank (b.packed / 2 ^ o % 2 ^ entries_at s j) a) (v / 2 ^ width_at s j)) (sym there) (comes_above g.rises inside h (rw ew at z) no-mark))

        pub made_in : (r : Upper) → Grown s (left - 1) (j + 1) (o + k) d (entering (rows_from (left - 1) s (j + 1)) (levels_in (left - 1) s d (o + k) (j + 1)) i (v / 2 ^ w)) r
            → Grown s left₀ j₀ o₀ b₀ (raising (rows_from left₀ s j₀) (levels_in left₀ s b₀ o₀ j₀) a₀ v₀) r
        made_in r f =
            let y = rw (next, ek, ew) at f in
            g.makes r (rose_in g.rises inside h (rw ew at z) no-mark r
            (subst (λ (x : Upper). Grown s (left - 1) (j + 1) (o + entries_at s j) x (entering (rows_from (left - 1) s (j + 1)) (levels_in (left - 1) s x (o + entries_at s j) (j + 1)) (rank (b.packed / 2 ^ o % 2 ^ entries_at s j) a) (v / 2 ^ width_at s j)) r) there y))

      -- it goes on in the next level
      pub climbing_on : (bit (c.packed / 2 ^ o % p) a ≡ 0 → ⊥) → Climbing s left₀ j₀ o₀ b₀ a₀ v₀ (left - 1) (j + 1) (o + k) c i (v / 2 ^ w)
      climbing_on some =
          let y : 0 < v / 2 ^ width_at s j = rw ew at z in
          let f : bit (b.packed / 2 ^ o % 2 ^ entries_at s j) a ≡ 0 → ⊥ = λ e. some (ap (λ m. bit m a) same_marks ∙ e) in
          rw (next, ek, ew)
          (subst (λ (x : Upper). Climbing s left₀ j₀ o₀ b₀ a₀ v₀ (left - 1) (j + 1) (o + entries_at s j) x (rank (b.packed / 2 ^ o % 2 ^ entries_at s j) a) (v / 2 ^ width_at s j)) (sym here)
          (record { rises = rises_on g.rises inside h y f; four = length-set b.words j (replaced (width_at s j) (get_or b.words j 0) a (v % 2 ^ width_at s j)) ∙ g.four; makes = λ r x. g.makes r (rose_on g.rises inside h y f r x) }))
