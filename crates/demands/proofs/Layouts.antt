-- The parts of a count, which counters use a level, the bits of a counter, and the bytes of an image.
use mathlib.Core.Logic.{◌↔◌}
use mathlib.Core.Path.{◌≡◌, refl, sym, ap, ap₂, subst, ◌∙◌}
use mathlib.Core.Bool.{false, not}
use mathlib.Core.List.{List}
use Prim.Native.Nat.{ℕ, suc, ◌+◌, ◌*◌, ◌^◌, ◌≤◌, ◌<◌}
use native.Mathlib.Nat.{mod-lt}
use native.Mathlib.Omega.{arith}
use lib.Dec.{T, lit<}
use lib.ListN.{length, get_or, set}
use lib.Seq.{get_or-set_same}
use Rattle.model.specs.Lists.{choose, by_mark, sum, tabulate}
use Rattle.model.specs.Shapes.{Row, all_rows, counter_bits}
use Rattle.model.specs.Levels.{Level, read_at, uses, crowded}
use Rattle.model.specs.Walls.{Bucket, Wall, wall, slot_of, bucket_of, place_of, buckets_in, with_totals, good, parse, empty_full, empty_bucket}
use Rattle.model.specs.Sound.{flag, full_number, levels_of, own_counts, bucket_at, own_at, full_for, counts_at, count, sound_at}
use Rattle.model.specs.Calls.{Clear, Outcome, bucket_refusals, holding, overflowed, move_in, no_room, step, raised_by, overflows, increment}
use Rattle.model.proofs.Lists.{get_or_tab}
use Rattle.model.proofs.Buckets.{SoundB, bucket_facts, own_coded}
use Rattle.model.proofs.SoundWalls.{parse-header}
use Rattle.model.proofs.Tools.{not-not}
use Rattle.model.proofs.Parsing.{shaped_parse}
use Rattle.model.proofs.Crowding.{T_false}
use Rattle.model.proofs.Slots.{reversed-bit, reversed-reversed}
use Rattle.model.proofs.Headers.{Good, Limits, good_of, flows-number, bucket_lt}
use Rattle.model.proofs.Growth.{Wide}
use Rattle.model.proofs.Bridge.{bump_hold, room-crowded}
use Rattle.model.proofs.Demand2.{follows}
use Rattle.demands.proofs.Own.{own-raised}
use Rattle.model.proofs.Uses.{uses-encode, read_parts}
use Rattle.model.proofs.Images.{image_calls, image_past}
use Rattle.demands.specs.Layouts.{UsesLevel, below, part, room_to_carry, carried_in, Layouts}
use Rattle.demands.proofs.Laid.{words-below, plain-counts}

-- what a sound bucket holds
facts_of : (v : Wall) (i : ℕ) → T (sound_at v i) → SoundB v.header.width v.header.rows v.header.total v.header.used (bucket_at v i) (full_for v i)
unfolding sound_at
facts_of v i t = bucket_facts v.header.width v.header.rows v.header.total v.header.used (bucket_at v i) (full_for v i) t

levels : (ws : List ℕ) (i : ℕ) → T (sound_at (parse ws) i) → (a d : ℕ) → d < length (parse ws).header.rows
    → UsesLevel (parse ws) i a (suc d) ↔ (2 ^ below (parse ws) (suc d) ≤ get_or (own_at (parse ws) i) a 0)
levels ws i t a d h =
    let v : Wall = parse ws in
    let w : ℕ = v.header.width in
    let rs : List Row = v.header.rows in
    subst (λ (ls : List Level). T (uses (all_rows w rs) ls a (suc d)) ↔ (2 ^ below v (suc d) ≤ get_or (own_at v i) a 0)) (own_coded w rs (bucket_at v i) (facts_of v i t).levels)
    (uses-encode (all_rows w rs) (own_counts w rs (bucket_at v i)) a d (omega arith))

weighted : (ws : List ℕ) (i a : ℕ) → a < 64 → get_or (own_at (parse ws) i) a 0 ≡ sum (tabulate (suc (length (parse ws).header.rows)) (λ d. part (parse ws) i a d * 2 ^ below (parse ws) d))
unfolding own_counts
weighted ws i a h =
    let v : Wall = parse ws in
    let rs : List Row = all_rows v.header.width v.header.rows in
    let ls : List Level = levels_of v.header.rows (bucket_at v i) in
    get_or_tab 64 (read_at rs ls) a h ∙ read_parts rs ls a

-- ---- a bucket without the flag grows

module _ (ws : List ℕ) (y : ℕ) (ok : Clear (bucket_refusals ws y)) (below-limit : (parse ws).header.total < (parse ws).header.limit) (e : flag (bucket_at (parse ws) (bucket_of (parse ws).header y)) ≡ 0) where
  abbrev v : Wall
  v = parse ws

  abbrev w : ℕ
  w = v.header.width

  abbrev rs : List Row
  rs = v.header.rows

  abbrev i : ℕ
  i = bucket_of v.header y

  abbrev a : ℕ
  a = place_of v.header y

  abbrev os : List ℕ
  os = own_at v i

  g : Good ws
  g = good_of ws (not-not (good ws) ok.0)

  l : Limits v.header
  l = rw parse-header g.limits

  s : SoundB w rs v.header.total v.header.used (bucket_at v i) (full_for v i)
  s = facts_of v i (not-not (sound_at v i) ok.1.1.0)

  li : i < buckets_in v.header
  li = bucket_lt v.header y l.bits_low

  la : a < 64
  la = mod-lt (slot_of v.header y) (lit< tt)

  wide : Wide (all_rows w rs)
  wide = (l.width_low, l.fine.wide)

  own-count : count v y ≡ get_or os a 0
  unfolding count
  own-count = ap (λ l. get_or l a 0) (plain-counts v i e)

  small : sum os + 1 < 2 ^ counter_bits w rs
  unfolding counts_at
  small = let m : sum (counts_at v i) ≤ v.header.total = s.most in omega (arith, m, ap sum (plain-counts v i e), l.limit-high, below-limit)

  crowds : overflows v i a (count v y + 1) ≡ crowded w rs (set os a (get_or os a 0 + 1))
  unfolding no_room
  crowds = ap (λ m. by_mark m (no_room v i a (count v y + 1)) false) e ∙ ap (λ n. crowded w rs (set os a (n + 1))) own-count

  room : T (room_to_carry v i a) ↔ T (not (overflows v i a (count v y + 1)))
  room = subst (λ x. T (room_to_carry v i a) ↔ T (not x)) (sym crowds) (room-crowded w rs wide (bucket_at v i) s.levels a la small)

  -- the wall that the increment leaves, its bucket i
  held : no_room v i a (count v y + 1) ≡ false → bucket_at (raised_by v y 1) i ≡ holding w rs (set os a (count v y + 1))
  unfolding step
  held z =
      let b : Bucket = bucket_at v i in
      let x : Bucket = holding w rs (set os a (count v y + 1)) in
      let over : Wall = wall (with_totals v.header (v.header.total + 1) (v.header.used + 1)) (set v.buckets i (overflowed b v.header.used)) (set v.fulls v.header.used (move_in empty_full a (count v y + 1))) in
      let on : Wall = wall (with_totals v.header (v.header.total + 1) v.header.used) (set v.buckets i x) v.fulls in
      let moved : Wall = wall (with_totals v.header (v.header.total + 1) v.header.used) v.buckets (set v.fulls (full_number b) (move_in (full_for v i) a (count v y + 1))) in
      ap₂ (λ m t. bucket_at (by_mark m (choose t over on) moved) i) e z
      ∙ get_or-set_same v.buckets i x (empty_bucket w rs) (subst (λ n. i < n) (sym (shaped_parse ws g).buckets-number) li)

  carried : (increment ws y).number ≡ 0 → T (room_to_carry v i a) → bucket_at (parse (increment ws y).words) i ≡ carried_in v i a
  carried h t =
      let z : no_room v i a (count v y + 1) ≡ false = sym (ap (λ m. by_mark m (no_room v i a (count v y + 1)) false) e) ∙ sym (T_false (overflows v i a (count v y + 1)) (room.0 t)) in
      let f = follows ws y h in
      ap (λ (r : Outcome). bucket_at (parse r.words) i) f.same
      ∙ ap (λ x. bucket_at x i) (own-raised ws y f.clear).0
      ∙ held z
      ∙ ap (λ n. holding w rs (set os a (n + 1))) own-count
      ∙ sym (bump_hold w rs wide (bucket_at v i) s.levels a la)

pub layouts : Layouts
layouts = record {
  grows = λ ws y ok l e. record { room = room ws y ok l e; carried = carried ws y ok l e };
  weighted = weighted;
  reversed = reversed-bit;
  slot_back = reversed-reversed;
  buckets = λ h l. sym (flows-number h.bits l);
  shapes = (refl, refl, refl);
  counters = λ w. (omega arith, omega arith, omega arith);
  levels = levels;
  image_word = λ ws n b. image_calls ws n (words-below ws b);
  image_past = image_past;
}
