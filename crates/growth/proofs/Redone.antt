-- One upper level of a bucket done anew, and the levels after it: what the whole then is.
use mathlib.Core.Path.{◌≡◌, refl, sym, ap, ap₂, ◌∙◌}
use mathlib.Core.List.{List, [], ◌∷◌}
use Prim.Native.Nat.{ℕ, zero, suc, ◌+◌, ◌-◌, ◌*◌, ◌/◌, ◌%◌, ◌^◌, ◌<◌}
use native.Mathlib.Nat.{mod-lt, add_comm, add-mul}
use native.Mathlib.Numerals.{add-one, sub-one}
use native.Mathlib.Omega.{arith}
use lib.ListN.{get_or, set, length}
use lib.Seq.{get_or-set_same, get_or-set_other}
use lib.Pow.{pow_pos, high, low, shr-shr, split, field, mod-mod-pow}
use Rattle.model.specs.Levels.{Level, level}
use Rattle.shapes.specs.declared.Shape.{Shape}
use Rattle.shapes.specs.Shapes.{entries_at}
use Rattle.growth.specs.declared.Upper.{Upper}
use Rattle.growth.specs.Levels.{levels_from, levels_in}
use Rattle.growth.specs.Grow.{Redone, Grown}
use Rattle.growth.proofs.Ahead.{marks_ahead, marks-next}
use Rattle.growth.proofs.Growing.{past}

-- ---- a field of a word

-- x with u in place of the k bits from bit o on, as the code stores it
pub field_put : (x r o k u : ℕ) → u < 2 ^ k → r + x / 2 ^ o % 2 ^ k * 2 ^ o ≡ x + u * 2 ^ o
    → (r % 2 ^ o ≡ x % 2 ^ o) × (r / 2 ^ o % 2 ^ k ≡ u) × (r / 2 ^ o / 2 ^ k ≡ x / 2 ^ o / 2 ^ k)
field_put x r o k u h e =
    let y : ℕ = x / 2 ^ o in
    let q : ℕ = y / 2 ^ k in
    let l : x % 2 ^ o < 2 ^ o = mod-lt x (pow_pos o) in
    let s : (q * 2 ^ k + y % 2 ^ k) * 2 ^ o + x % 2 ^ o ≡ x = ap (λ n. n * 2 ^ o + x % 2 ^ o) (split y k) ∙ split x o in
    let z : r ≡ (q * 2 ^ k + u) * 2 ^ o + x % 2 ^ o = rw add-mul (omega (arith, rw add-mul at s, e)) in (
      ap (λ n. n % 2 ^ o) z ∙ low (q * 2 ^ k + u) o l,
      ap (λ n. n / 2 ^ o % 2 ^ k) z ∙ ap (λ n. n % 2 ^ k) (high (q * 2 ^ k + u) o l) ∙ low q k h,
      ap (λ n. n / 2 ^ o / 2 ^ k) z ∙ ap (λ n. n / 2 ^ k) (high (q * 2 ^ k + u) o l) ∙ high q k h,
    )

-- two words that agree below bit o + k agree in the field from bit o on, and below it
same_low : (x y o k : ℕ) → x % 2 ^ (o + k) ≡ y % 2 ^ (o + k) → x % 2 ^ o ≡ y % 2 ^ o
same_low x y o k e =
    let c : o + k ≡ k + o = add_comm o k in
    sym (mod-mod-pow x k o) ∙ ap (λ n. n % 2 ^ o) (ap (λ n. x % 2 ^ n) (sym c) ∙ e ∙ ap (λ n. y % 2 ^ n) c) ∙ mod-mod-pow y k o

same_field : (x y o k : ℕ) → x % 2 ^ (o + k) ≡ y % 2 ^ (o + k) → x / 2 ^ o % 2 ^ k ≡ y / 2 ^ o % 2 ^ k
same_field x y o k e =
    let c : o + k ≡ k + o = add_comm o k in
    sym (field x k o) ∙ ap (λ n. n / 2 ^ o) (ap (λ n. x % 2 ^ n) (sym c) ∙ e ∙ ap (λ n. y % 2 ^ n) c) ∙ field y k o

-- ---- the levels of a bucket in which one was done anew

-- this one and those after it, by its words
module _ (s : Shape) (b : Upper) (o j : ℕ) where
  pub cut : (left : ℕ) → 1 < left
      → levels_in left s b o j ≡ level (get_or b.words j 0) (b.packed / 2 ^ o % 2 ^ entries_at s j) ∷ levels_from (left - 1) s b.words (b.packed / 2 ^ o / 2 ^ entries_at s j) (j + 1)
  unfolding levels_from
  cut zero h = absurd (omega arith)
  cut (suc zero) h = absurd (omega arith)
  cut (suc (suc n)) h = rw (sub-one, add-one)

  pub cut_last : (left : ℕ) → left ≡ 1 → levels_in left s b o j ≡ level (get_or b.words j 0) 0 ∷ []
  unfolding levels_from
  cut_last left e = rw e

module _ (s : Shape) (left j o : ℕ) (h : 1 < left) (b : Upper) (x m : ℕ) (c : Upper) (in_words_lem : j < length b.words) (d : Redone b j o (entries_at s j) x m c) where
  here : get_or c.words j 0 ≡ x
  here = ap (λ us. get_or us j 0) d.words ∙ get_or-set_same b.words j x 0 in_words_lem

  shifted : c.packed / 2 ^ (o + entries_at s j) ≡ b.packed / 2 ^ o / 2 ^ entries_at s j
  shifted = sym (shr-shr c.packed o (entries_at s j)) ∙ d.high

  -- the levels after it are as they were
  pub after : levels_in (left - 1) s c (o + entries_at s j) (j + 1) ≡ levels_from (left - 1) s b.words (b.packed / 2 ^ o / 2 ^ entries_at s j) (j + 1)
  after =
      ap₂ (λ us g. levels_from (left - 1) s us g (j + 1)) d.words shifted
      ∙ past s b.words j x (left - 1) (b.packed / 2 ^ o / 2 ^ entries_at s j) (j + 1) (omega arith)

  before : (i : ℕ) → i < j → get_or c.words i 0 ≡ get_or b.words i 0
  before i q = ap (λ us. get_or us i 0) d.words ∙ get_or-set_other b.words j i x 0 (λ e. omega arith)

  -- nothing more is to be done
  pub ended : Grown s left j o b (level x m ∷ levels_from (left - 1) s b.words (b.packed / 2 ^ o / 2 ^ entries_at s j) (j + 1)) c
  ended = record {
    levels = cut s c o j left h ∙ rw (here, d.own, d.high) (ap (λ us. level x m ∷ levels_from (left - 1) s us (b.packed / 2 ^ o / 2 ^ entries_at s j) (j + 1)) d.words ∙ ap (λ ls. level x m ∷ ls) (past s b.words j x (left - 1) (b.packed / 2 ^ o / 2 ^ entries_at s j) (j + 1) (omega arith)));
    below = before;
    low = d.low;
    above = rw (marks-next s left j h, ← shr-shr, ← shr-shr) (ap (λ n. n / 2 ^ marks_ahead (left - 1) s (j + 1)) d.high);
  }

  -- the levels after it became ls
  pub under : (ls : List Level) (r : Upper) → Grown s (left - 1) (j + 1) (o + entries_at s j) c ls r → Grown s left j o b (level x m ∷ ls) r
  under ls r g =
      let k : ℕ = entries_at s j in
      let e : get_or r.words j 0 ≡ x = g.below j (omega arith) ∙ here in
      let f : r.packed / 2 ^ o % 2 ^ k ≡ m = same_field r.packed c.packed o k g.low ∙ d.own in
      let t : levels_from (left - 1) s r.words (r.packed / 2 ^ o / 2 ^ k) (j + 1) ≡ ls = ap (λ n. levels_from (left - 1) s r.words n (j + 1)) (shr-shr r.packed o k) ∙ g.levels in
      record {
        levels = cut s r o j left h ∙ rw (e, f, t);
        below = λ i q. g.below i (omega arith) ∙ before i q;
        low = same_low r.packed c.packed o k g.low ∙ d.low;
        above = rw (marks-next s left j h, ← shr-shr, ← shr-shr, shr-shr r.packed o k) (g.above ∙ ap (λ n. n / 2 ^ marks_ahead (left - 1) s (j + 1)) shifted);
      }

-- the last level, which has no marks
pub ended_last : (s : Shape) (left j o : ℕ) → left ≡ 1 → (b : Upper) (x : ℕ) → j < length b.words
    → Grown s left j o b (level x 0 ∷ []) (record { words = set b.words j x; packed = b.packed })
ended_last s left j o e b x l = record {
  levels = cut_last s (record { words = set b.words j x; packed = b.packed }) o j left e ∙ ap (λ y. level y 0 ∷ []) (get_or-set_same b.words j x 0 l);
  below = λ i q. get_or-set_other b.words j i x 0 (λ e. omega arith);
  low = refl;
  above = refl;
}
