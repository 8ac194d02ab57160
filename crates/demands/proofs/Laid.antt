-- The words of a sound bucket are the only ones that the layout allows, and nothing in the words of a wall is left open.
use mathlib.Core.Path.{◌≡◌, refl, sym, ap, ap₂, ◌∙◌, subst}
use mathlib.Core.Bool.{Bool, true, false}
use mathlib.Core.List.{List, [], ◌∷◌, map}
use Prim.Native.Nat.{ℕ, zero, suc, ◌+◌, ◌*◌, ◌/◌, ◌%◌, ◌^◌, ◌≤◌, ◌<◌}
use native.Mathlib.Nat.{le_trans, mod-eq_of_lt, mod-lt, zero-div, zero-mod}
use native.Mathlib.Decide.{dec_lt}
use native.Mathlib.Omega.{arith}
use lib.Dec.{T, eqb, ltb, eqb→eq, ltb→lt, not_T, lit<}
use lib.Pow.{pow_mono, shr-shr}
use lib.ListN.{length, get_or, take, drop, replicate, length-replicate}
use lib.Seq.{ext_get_or}
use Rattle.model.specs.Lists.{sum, one_if, by_mark, tabulate, pieces}
use Rattle.model.specs.Packed.{pack, unpack, bit, rank, join_fields, cut_fields}
use Rattle.model.specs.Shapes.{Row, mark_widths, bucket_size}
use Rattle.model.specs.Levels.{Level}
use Rattle.model.specs.Walls.{Header, Bucket, Full, Wall, flows, buckets_in, bucket_length, read_header, read_full, parse, empty_bucket, empty_full}
use Rattle.model.specs.Sound.{upper_marks, flag, spare_bits, full_number, packed_word, pair_levels, levels_of, own_counts, moved_at, full_count, bucket_counts, sound_place, bucket_at, own_at, full_for, counts_at, count, holds_number, holders, is_empty_full}
use Rattle.model.specs.Calls.{from_levels, holding, overflowed}
use Rattle.model.proofs.Lists.{Below, below-take, below_at}
use Rattle.model.proofs.Packing.{length-unpack, pack-unpack}
use Rattle.model.proofs.Fields.{join_cut}
use Rattle.model.proofs.Tools.{Each, and_tests, each_at, each_map}
use Rattle.model.proofs.Headers.{Fine, flows-number, flow_at}
use Rattle.model.proofs.Slots.{slot_lt, undoing, slot-flow}
use Rattle.model.proofs.Crowding.{T_true, T_false}
use Rattle.model.proofs.Parsing.{Lengths, bucket-at, get_or_in}
use Rattle.model.proofs.Buckets.{SoundB, own_coded, length-own, counts-none, count_at, packed_goes, unpack-bit, flag_le}
use Rattle.model.proofs.SoundWalls.{SoundWall}
use Rattle.model.proofs.OwnSteps.{length-counts_at, empty_lengths}
use Rattle.model.proofs.Bridge.{first-words}
use Rattle.demands.specs.DemandTwo.{Words, Laid}

-- ---- levels and packed words taken apart and put together

pair_cells : (cs ms : List ℕ) → length cs ≡ length ms → map (λ (x : Level). x.cells) (pair_levels cs ms) ≡ cs
pair_cells [] ms e = refl
pair_cells (c ∷ cs) [] e = absurd (omega arith)
pair_cells (c ∷ cs) (m ∷ ms) e = ap (λ (r : List ℕ). c ∷ r) (pair_cells cs ms (omega arith))

pair_marks : (cs ms : List ℕ) → length cs ≡ length ms → map (λ (x : Level). x.marks) (pair_levels cs ms) ≡ ms
pair_marks [] [] e = refl
pair_marks [] (m ∷ ms) e = absurd (omega arith)
pair_marks (c ∷ cs) [] e = absurd (omega arith)
pair_marks (c ∷ cs) (m ∷ ms) e = ap (λ (r : List ℕ). m ∷ r) (pair_marks cs ms (omega arith))

length_cut : (ws : List ℕ) (x : ℕ) → length (cut_fields ws x) ≡ length ws
length_cut [] x = refl
length_cut (w ∷ ws) x = ap suc (length_cut ws (x / 2 ^ w))

length_widths : (rs : List Row) → length (mark_widths rs) ≡ length rs
length_widths [] = refl
length_widths (r ∷ rs) = ap suc (length_widths rs)

word-plain : (x : ℕ) → spare_bits x ≡ 0 → x / 2 ^ 40 % 2 ≡ 0 → x / 2 ^ 48 ≡ 0 → packed_word (upper_marks x) 0 0 ≡ x
word-plain x s f n = omega (arith, shr-shr x 40 1, shr-shr x 41 7)

word-flagged : (x : ℕ) → spare_bits x ≡ 0 → x / 2 ^ 40 % 2 ≡ 1 → packed_word (upper_marks x) 1 (x / 2 ^ 48) ≡ x
word-flagged x s f = omega (arith, shr-shr x 40 1, shr-shr x 41 7)

-- ---- a bucket

pub number-none : {w : ℕ} {rs : List Row} {t u : ℕ} {b : Bucket} {f : Full} → SoundB w rs t u b f → flag b ≡ 0 → full_number b ≡ 0
number-none {u = u} {b = b} s e = eqb→eq (full_number b) 0 (subst (λ m. T (by_mark m (eqb (full_number b) 0) (ltb (full_number b) u))) e s.number)

module _ (w : ℕ) (rs : List Row) (fine : Fine rs) (t u : ℕ) (b : Bucket) (f : Full) (s : SoundB w rs t u b f) (l : Lengths w (length rs) b) (ws : Below (2 ^ 64) b.first) where
  abbrev ms : List ℕ
  ms = cut_fields (mark_widths rs) (upper_marks b.packed)

  same_length : length b.uppers ≡ length ms
  same_length = l.uppers ∙ sym (length_cut (mark_widths rs) (upper_marks b.packed) ∙ length_widths rs)

  joined : join_fields (mark_widths rs) (map (λ (x : Level). x.marks) (pair_levels b.uppers ms)) ≡ upper_marks b.packed
  joined = ap (join_fields (mark_widths rs)) (pair_marks b.uppers ms same_length) ∙ join_cut (mark_widths rs) (upper_marks b.packed) ∙ mod-eq_of_lt s.marks

  abbrev bare : Bucket
  bare = record { first = b.first; marks = b.marks; uppers = b.uppers; packed = packed_word (upper_marks b.packed) 0 0 }

  -- the encoding of the bucket's own counts is the bucket without flag and number
  own_held : holding w rs (own_counts w rs b) ≡ bare
  unfolding holding
  own_held = ap (λ ls. from_levels w rs ls 0 0) (own_coded w rs b s.levels) ∙ go
    where
      go : from_levels w rs (levels_of rs b) 0 0 ≡ bare
      go i = record {
        first = first-words b.first w (pack 64 b.first) ws l.first refl i;
        marks = b.marks;
        uppers = pair_cells b.uppers ms same_length i;
        packed = packed_word (joined i) 0 0;
      }

  plain-words : flag b ≡ 0 → b ≡ holding w rs (own_counts w rs b)
  plain-words e = sym (own_held ∙ ap (λ p. record { first = b.first; marks = b.marks; uppers = b.uppers; packed = p }) (word-plain b.packed s.spare e (number-none s e)))

  flagged-words : flag b ≡ 1 → b ≡ overflowed (holding w rs (own_counts w rs b)) (full_number b)
  unfolding overflowed
  flagged-words e = sym (ap (λ c. overflowed c (full_number b)) own_held ∙ ap (λ p. record { first = b.first; marks = b.marks; uppers = b.uppers; packed = p })
      (ap (λ m. packed_word m 1 (full_number b)) (packed_goes (upper_marks b.packed) 0 0 (le_trans s.marks (pow_mono fine.room)) (lit< tt)) ∙ word-flagged b.packed s.spare e))

-- ---- in a wall

below-drop : (b : ℕ) (es : List ℕ) (a : ℕ) → Below b es → Below b (drop a es)
below-drop b es zero h = h
below-drop b [] (suc a) h = tt
below-drop b (e ∷ es) (suc a) h = below-drop b es a h.1

pub words-below : (ws : List ℕ) → Words ws → Below (2 ^ 64) ws
words-below [] h = tt
words-below (w ∷ ws) h = (h.0, words-below ws h.1)

pub first_below : (ws : List ℕ) → Words ws → (i : ℕ) → i < buckets_in (parse ws).header → Below (2 ^ 64) (bucket_at (parse ws) i).first
unfolding parse
first_below ws h i k =
    let n : ℕ = bucket_size (read_header ws).width (read_header ws).rows in
    subst (λ (b : Bucket). Below (2 ^ 64) b.first) (sym (bucket-at ws i (empty_bucket (read_header ws).width (read_header ws).rows) k))
    (below-take (2 ^ 64) (take n (drop (4 + i * n) ws)) (read_header ws).width (below-take (2 ^ 64) (drop (4 + i * n) ws) n (below-drop (2 ^ 64) ws (4 + i * n) (words-below ws h))))

-- a bucket without the flag counts what its levels hold
pub plain-counts : (v : Wall) (i : ℕ) → flag (bucket_at v i) ≡ 0 → counts_at v i ≡ own_at v i
unfolding counts_at
plain-counts v i e =
    ap (λ m. bucket_counts (own_at v i) (by_mark m empty_full (get_or v.fulls (full_number (bucket_at v i)) empty_full))) e
    ∙ counts-none (own_at v i) (length-own v.header.width v.header.rows (bucket_at v i))

module _ (v : Wall) (s : SoundWall v) (i : ℕ) (li : i < buckets_in v.header) where
  lengths : Lengths v.header.width (length v.header.rows) (bucket_at v i)
  lengths =
      each_at (Lengths v.header.width (length v.header.rows)) v.buckets i (empty_bucket v.header.width v.header.rows) s.shaped.buckets
      (empty_lengths v.header.width v.header.rows)

  none_here : (a : ℕ) → a < 64 → moved_at (full_for v i) a ≡ 0 → full_count (full_for v i) a ≡ 0
  none_here a la e =
      let f : Full = full_for v i in
      eqb→eq (full_count f a) 0 (subst (λ m. T (by_mark m (eqb (full_count f a) 0) (ltb (get_or (own_at v i) a 0) (full_count f a)))) e ((s.each i li).places a la))

  pub laid_of : Below (2 ^ 64) (bucket_at v i).first → Laid v i
  unfolding counts_at
  laid_of ws =
      let w : ℕ = v.header.width in
      let rs : List Row = v.header.rows in
      let f : Full = full_for v i in
      let os : List ℕ = own_at v i in
      let here : (a : ℕ) → a < 64 → get_or (counts_at v i) a 0 ≡ by_mark (moved_at f a) (get_or os a 0) (full_count f a) = count_at os f in
      record {
        plain = λ e. plain-words w rs s.limits.fine v.header.total v.header.used (bucket_at v i) f (s.each i li) lengths ws e ∙ ap (holding w rs) (sym (plain-counts v i e));
        flagged = flagged-words w rs s.limits.fine v.header.total v.header.used (bucket_at v i) f (s.each i li) lengths ws;
        moved = λ a la e. sym (here a la ∙ ap (λ m. by_mark m (get_or os a 0) (full_count f a)) e);
        unmoved = λ a la e. (none_here a la e, sym (here a la ∙ ap (λ m. by_mark m (get_or os a 0) (full_count f a)) e));
      }

-- ---- two walls that count alike

module _ (v : Wall) (s : SoundWall v) where
  -- every place of a bucket is a flow's
  count-slot : (i a : ℕ) → i < buckets_in v.header → a < 64 → count v (flow_at v.header (i * 64 + a)) ≡ get_or (counts_at v i) a 0
  unfolding count
  count-slot i a li la =
      ap (λ x. get_or (counts_at v (x / 64)) (x % 64) 0) (slot-flow v.header.bits v.header.spread (i * 64 + a) s.limits.spread-valid (omega (arith, flows-number v.header.bits s.limits.bits_low)))
      ∙ ap₂ (λ k p. get_or (counts_at v k) p 0) (high i a la) (low i a la)
    where
      high : (i a : ℕ) → a < 64 → (i * 64 + a) / 64 ≡ i
      high i a h = omega arith

      low : (i a : ℕ) → a < 64 → (i * 64 + a) % 64 ≡ a
      low i a h = omega arith

module _ (v u : Wall) (s : SoundWall v) (r : SoundWall u) (e : v.header ≡ u.header) (c : (y : ℕ) → y < flows v.header → count v y ≡ count u y) where
  pub in_both : (i : ℕ) → i < buckets_in v.header → i < buckets_in u.header
  in_both i li = subst (λ (h : Header). i < buckets_in h) e li

  pub counts_alike : (i : ℕ) → i < buckets_in v.header → counts_at v i ≡ counts_at u i
  counts_alike i li = ext_get_or 0 (counts_at v i) (counts_at u i) (length-counts_at v i ∙ sym (length-counts_at u i)) (λ a h.
      let la : a < 64 = subst (λ n. a < n) (length-counts_at v i) h in
      sym (count-slot v s i a li la) ∙ c (flow_at v.header (i * 64 + a)) (slot_lt v.header.bits (undoing v.header.bits v.header.spread) (i * 64 + a))
      ∙ ap (λ (h : Header). count u (flow_at h (i * 64 + a))) e ∙ count-slot u r i a (in_both i li) la)

-- ---- full-size buckets

none_counted : (l : List ℕ) → sum l ≡ 0 → l ≡ replicate (length l) 0
none_counted [] e = refl
none_counted (x ∷ l) e = let z : x ≡ 0 = omega arith in ap₂ ◌∷◌ z (none_counted l (omega arith))

empty-full : (f : Full) → length f.counts ≡ 64 → T (is_empty_full f) → f ≡ empty_full
empty-full f n t =
    let u = and_tests (eqb f.moved 0) (eqb (sum f.counts) 0) t in
    ap₂ (λ m c. record { moved = m; counts = c }) (eqb→eq f.moved 0 u.0)
    (none_counted f.counts (eqb→eq (sum f.counts) 0 u.1) ∙ ap (λ k. replicate k 0) n)

find : (n : ℕ) (f : ℕ → ℕ) → 0 < sum (tabulate n f) → (i : ℕ) × (i < n) × (0 < f i)
find zero f h = absurd (omega arith)
find (suc n) f h = go (f 0) refl (find n (λ i. f (suc i)))
  where
    go : (k : ℕ) → f 0 ≡ k → (0 < sum (tabulate n (λ i. f (suc i))) → (i : ℕ) × (i < n) × (0 < f (suc i))) → (i : ℕ) × (i < suc n) × (0 < f i)
    go zero e rec = let r = rec (omega arith) in (suc r.0, omega (arith, r.1), r.2)
    go (suc k) e rec = (0, omega arith, omega arith)

holds_of : (q : ℕ) (b : Bucket) → 0 < holds_number q b → (flag b ≡ 1) × (full_number b ≡ q)
holds_of q b h = go (flag b) refl (flag_le b) (eqb (full_number b) q) refl h
  where
    go : (m : ℕ) → flag b ≡ m → m ≤ 1 → (t : Bool) → eqb (full_number b) q ≡ t → 0 < by_mark m 0 (one_if t) → (flag b ≡ 1) × (full_number b ≡ q)
    go zero e l t k h = absurd (omega arith)
    go (suc zero) e l true k h = (e, eqb→eq (full_number b) q (subst T (sym k) tt))
    go (suc zero) e l false k h = absurd (omega arith)
    go (suc (suc m)) e l t k h = absurd (omega arith)

bits-word : (x y : ℕ) → x < 2 ^ 64 → y < 2 ^ 64 → ((a : ℕ) → a < 64 → bit x a ≡ bit y a) → x ≡ y
bits-word x y lx ly f =
    sym (pack-unpack 1 64 x ∙ mod-eq_of_lt lx)
    ∙ ap (pack 1) (ext_get_or 0 (unpack 1 64 x) (unpack 1 64 y) (length-unpack 1 64 x ∙ sym (length-unpack 1 64 y)) (λ a h.
    let la : a < 64 = subst (λ n. a < n) (length-unpack 1 64 x) h in
    unpack-bit x a la ∙ f a la ∙ sym (unpack-bit y a la)))
    ∙ (pack-unpack 1 64 y ∙ mod-eq_of_lt ly)

bit-none : (a : ℕ) → bit 0 a ≡ 0
bit-none a = ap (λ n. n % 2) (zero-div (2 ^ a)) ∙ zero-mod 2

same_full : (f g : Full) → length f.counts ≡ 64 → length g.counts ≡ 64 → f.moved < 2 ^ 64 → g.moved < 2 ^ 64
    → ((a : ℕ) → a < 64 → moved_at f a ≡ moved_at g a) → ((a : ℕ) → a < 64 → full_count f a ≡ full_count g a) → f ≡ g
same_full f g nf ng lf lg m c =
    ap₂ (λ x l. record { moved = x; counts = l }) (bits-word f.moved g.moved lf lg m)
    (ext_get_or 0 f.counts g.counts (nf ∙ sym ng) (λ a h. c a (subst (λ n. a < n) nf h)))

below-pieces : (n k : ℕ) (ws : List ℕ) → Below (2 ^ 64) ws → Each (Below (2 ^ 64)) (pieces n k ws)
below-pieces n zero ws h = tt
below-pieces n (suc k) ws h = (below-take (2 ^ 64) ws n h, below-pieces n k (drop n ws) (below-drop (2 ^ 64) ws n h))

pub full-below : (ws : List ℕ) → Words ws → (q : ℕ) → (get_or (parse ws).fulls q empty_full).moved < 2 ^ 64
unfolding parse
full-below ws h q =
    let hd : Header = read_header ws in
    let o : ℕ = 4 + buckets_in hd * bucket_length hd in
    each_at (λ (f : Full). f.moved < 2 ^ 64) (map read_full (pieces 65 hd.full (drop o ws))) q empty_full
    (each_map (λ (f : Full). f.moved < 2 ^ 64) (Below (2 ^ 64)) read_full (λ x b. below_at x 0 (lit< tt) b) (pieces 65 hd.full (drop o ws)) (below-pieces 65 hd.full (drop o ws) (below-drop (2 ^ 64) ws o (words-below ws h))))
    (lit< tt)

-- which places are moved, and whether there is a flag, by the bucket's own counts and the counts
module _ (v : Wall) (s : SoundWall v) (i : ℕ) (li : i < buckets_in v.header) where
  not-below : (n : ℕ) → ltb n n ≡ false
  not-below n = sym (T_false (ltb n n) (not_T (ltb n n) (λ t. let l = ltb→lt n n t in omega arith)))

  moved_is : (a : ℕ) → a < 64 → moved_at (full_for v i) a ≡ one_if (ltb (get_or (own_at v i) a 0) (get_or (counts_at v i) a 0))
  unfolding counts_at
  moved_is a la = go (moved_at f a) refl (mod-lt (f.moved / 2 ^ a) (lit< tt)) (count_at (own_at v i) f a la) ((s.each i li).places a la)
    where
      f : Full
      f = full_for v i

      own : ℕ
      own = get_or (own_at v i) a 0

      go : (m : ℕ) → moved_at f a ≡ m → m < 2 → get_or (counts_at v i) a 0 ≡ by_mark (moved_at f a) own (full_count f a) → T (sound_place (own_at v i) f a) → m ≡ one_if (ltb own (get_or (counts_at v i) a 0))
      go zero e l h t = sym (ap (λ n. one_if (ltb own n)) (h ∙ ap (λ m. by_mark m own (full_count f a)) e) ∙ ap one_if (not-below own))
      go (suc zero) e l h t =
          sym (ap (λ n. one_if (ltb own n)) (h ∙ ap (λ m. by_mark m own (full_count f a)) e)
          ∙ ap one_if (sym (T_true (ltb own (full_count f a)) (subst (λ m. T (by_mark m (eqb (full_count f a) 0) (ltb own (full_count f a)))) e t))))
      go (suc (suc m)) e l h t = absurd (omega arith)

  none-moved : ((q : ℕ) → (get_or v.fulls q empty_full).moved < 2 ^ 64) → ((a : ℕ) → a < 64 → moved_at (full_for v i) a ≡ 0) → flag (bucket_at v i) ≡ 0
  none-moved low h =
      let z : (full_for v i).moved ≡ 0 = bits-word (full_for v i).moved 0 (small (flag (bucket_at v i))) (lit< tt) (λ a la. h a la ∙ sym (bit-none a)) in
      let n : flag (bucket_at v i) ≤ rank 0 64 = subst (λ x. flag (bucket_at v i) ≤ rank x 64) z (s.each i li).some in
      omega (arith, n, rank-none)
    where
      small : (m : ℕ) → (by_mark m empty_full (get_or v.fulls (full_number (bucket_at v i)) empty_full)).moved < 2 ^ 64
      small zero = lit< tt
      small (suc m) = low (full_number (bucket_at v i))

      rank-none : rank 0 64 ≡ 0
      rank-none = refl

  plain-none : flag (bucket_at v i) ≡ 0 → (a : ℕ) → moved_at (full_for v i) a ≡ 0
  plain-none e a = ap (λ m. bit (by_mark m empty_full (get_or v.fulls (full_number (bucket_at v i)) empty_full)).moved a) e ∙ bit-none a

module _ (v : Wall) (s : SoundWall v) (i : ℕ) (li : i < buckets_in v.header) (lo : Below (2 ^ 64) (bucket_at v i).first) where
  bucket_is : bucket_at v i ≡ by_mark (flag (bucket_at v i)) (holding v.header.width v.header.rows (own_at v i)) (overflowed (holding v.header.width v.header.rows (own_at v i)) (full_number (bucket_at v i)))
  bucket_is = go (flag (bucket_at v i)) refl (flag_le (bucket_at v i))
    where
      go : (m : ℕ) → flag (bucket_at v i) ≡ m → m ≤ 1 → bucket_at v i ≡ by_mark m (holding v.header.width v.header.rows (own_at v i)) (overflowed (holding v.header.width v.header.rows (own_at v i)) (full_number (bucket_at v i)))
      go zero e l = (laid_of v s i li lo).plain e ∙ ap (holding v.header.width v.header.rows) (plain-counts v i e)
      go (suc zero) e l = (laid_of v s i li lo).flagged e
      go (suc (suc m)) e l = absurd (omega arith)

module _ (v u : Wall) (s : SoundWall v) (r : SoundWall u) (e : v.header ≡ u.header)
    (bv : (i : ℕ) → i < buckets_in v.header → Below (2 ^ 64) (bucket_at v i).first) (bu : (i : ℕ) → i < buckets_in u.header → Below (2 ^ 64) (bucket_at u i).first)
    (fv : (q : ℕ) → (get_or v.fulls q empty_full).moved < 2 ^ 64) (fu : (q : ℕ) → (get_or u.fulls q empty_full).moved < 2 ^ 64)
    (numbers : (i : ℕ) → i < buckets_in v.header → full_number (bucket_at v i) ≡ full_number (bucket_at u i))
    (own : (i : ℕ) → i < buckets_in v.header → own_at v i ≡ own_at u i)
    (c : (y : ℕ) → y < flows v.header → count v y ≡ count u y) where
  both : (i : ℕ) → i < buckets_in v.header → i < buckets_in u.header
  both = in_both v u s r e c

  moved : (i a : ℕ) → i < buckets_in v.header → a < 64 → moved_at (full_for v i) a ≡ moved_at (full_for u i) a
  moved i a li la =
      moved_is v s i li a la
      ∙ ap₂ (λ x y. one_if (ltb (get_or x a 0) (get_or y a 0))) (own i li) (counts_alike v u s r e c i li)
      ∙ sym (moved_is u r i (both i li) a la)

  flags : (i : ℕ) → i < buckets_in v.header → flag (bucket_at v i) ≡ flag (bucket_at u i)
  flags i li = go (flag (bucket_at v i)) refl (flag (bucket_at u i)) refl (flag_le (bucket_at v i)) (flag_le (bucket_at u i))
    where
      go : (m : ℕ) → flag (bucket_at v i) ≡ m → (n : ℕ) → flag (bucket_at u i) ≡ n → m ≤ 1 → n ≤ 1 → m ≡ n
      go zero p zero q h k = refl
      go zero p (suc n) q h k = absurd (omega (arith, q, none-moved u r i (both i li) fu (λ a la. sym (moved i a li la) ∙ plain-none v s i li p a)))
      go (suc m) p zero q h k = absurd (omega (arith, p, none-moved v s i li fv (λ a la. moved i a li la ∙ plain-none u r i (both i li) q a)))
      go (suc m) p (suc n) q h k = omega arith

  abbrev bucket_from : Header → ℕ → List ℕ → ℕ → Bucket
  bucket_from h m os n = by_mark m (holding h.width h.rows os) (overflowed (holding h.width h.rows os) n)

  bucket_alike : (i : ℕ) → i < buckets_in v.header → bucket_at v i ≡ bucket_at u i
  bucket_alike i li =
      bucket_is v s i li (bv i li)
      ∙ ap (λ h. bucket_from h (flag (bucket_at v i)) (own_at v i) (full_number (bucket_at v i))) e
      ∙ ap (λ m. bucket_from u.header m (own_at v i) (full_number (bucket_at v i))) (flags i li)
      ∙ ap₂ (bucket_from u.header (flag (bucket_at u i))) (own i li) (numbers i li)
      ∙ sym (bucket_is u r i (both i li) (bu i (both i li)))

  full_alike : (i : ℕ) → i < buckets_in v.header → (a : ℕ) → a < 64 → full_count (full_for v i) a ≡ full_count (full_for u i) a
  full_alike i li a la = go (moved_at (full_for v i) a) refl (mod-lt ((full_for v i).moved / 2 ^ a) (lit< tt))
    where
      lv : Laid v i
      lv = laid_of v s i li (bv i li)

      lu : Laid u i
      lu = laid_of u r i (both i li) (bu i (both i li))

      go : (m : ℕ) → moved_at (full_for v i) a ≡ m → m < 2 → full_count (full_for v i) a ≡ full_count (full_for u i) a
      go zero k l = (lv.unmoved a la k).0 ∙ sym (lu.unmoved a la (sym (moved i a li la) ∙ k)).0
      go (suc zero) k l = lv.moved a la k ∙ ap (λ x. get_or x a 0) (counts_alike v u s r e c i li) ∙ sym (lu.moved a la (sym (moved i a li la) ∙ k))
      go (suc (suc m)) k l = absurd (omega arith)

  long_v : (q : ℕ) → length (get_or v.fulls q empty_full).counts ≡ 64
  long_v q = each_at (λ (f : Full). length f.counts ≡ 64) v.fulls q empty_full s.shaped.fulls (length-replicate {A = ℕ} 64 0)

  long_u : (q : ℕ) → length (get_or u.fulls q empty_full).counts ≡ 64
  long_u q = each_at (λ (f : Full). length f.counts ≡ 64) u.fulls q empty_full r.shaped.fulls (length-replicate {A = ℕ} 64 0)

  held_alike : (q : ℕ) → q < v.header.used → get_or v.fulls q empty_full ≡ get_or u.fulls q empty_full
  unfolding holders
  held_alike q l =
      let d = find (buckets_in v.header) (λ i. holds_number q (bucket_at v i)) (omega (arith, s.held q l)) in
      let i : ℕ = d.0 in
      let li : i < buckets_in v.header = d.1 in
      let k = holds_of q (bucket_at v i) d.2 in
      let pv : full_for v i ≡ get_or v.fulls q empty_full = ap₂ (λ m n. by_mark m empty_full (get_or v.fulls n empty_full)) k.0 k.1 in
      let pu : full_for u i ≡ get_or u.fulls q empty_full = ap₂ (λ m n. by_mark m empty_full (get_or u.fulls n empty_full)) (sym (flags i li) ∙ k.0) (sym (numbers i li) ∙ k.1) in
      same_full (get_or v.fulls q empty_full) (get_or u.fulls q empty_full) (long_v q) (long_u q) (fv q) (fu q)
      (λ a la. ap (λ (f : Full). moved_at f a) (sym pv) ∙ moved i a li la ∙ ap (λ (f : Full). moved_at f a) pu)
      (λ a la. ap (λ (f : Full). full_count f a) (sym pv) ∙ full_alike i li a la ∙ ap (λ (f : Full). full_count f a) pu)

  spare_alike : (q : ℕ) → q < v.header.full → v.header.used ≤ q → get_or v.fulls q empty_full ≡ get_or u.fulls q empty_full
  spare_alike q h l =
      empty-full (get_or v.fulls q empty_full) (long_v q) (s.zeros q h l)
      ∙ sym (empty-full (get_or u.fulls q empty_full) (long_u q) (r.zeros q (subst (λ (g : Header). q < g.full) e h) (subst (λ (g : Header). g.used ≤ q) e l)))

  fulls_alike : v.fulls ≡ u.fulls
  fulls_alike = ext_get_or empty_full v.fulls u.fulls (s.shaped.fulls-number ∙ ap (λ (h : Header). h.full) e ∙ sym r.shaped.fulls-number) (λ q h.
      go q (subst (λ n. q < n) s.shaped.fulls-number h) (dec_lt q v.header.used))
    where
      go : (q : ℕ) → q < v.header.full → Dec (q < v.header.used) → get_or v.fulls q empty_full ≡ get_or u.fulls q empty_full
      go q h (yes l) = held_alike q l
      go q h (no n) = spare_alike q h (omega arith)

  buckets_alike : v.buckets ≡ u.buckets
  buckets_alike =
      let n = s.shaped.buckets-number ∙ ap buckets_in e ∙ sym r.shaped.buckets-number in
      let d : Bucket = empty_bucket v.header.width v.header.rows in
      ext_get_or d v.buckets u.buckets n (λ i h.
      bucket_alike i (subst (λ k. i < k) s.shaped.buckets-number h)
      ∙ get_or_in u.buckets i (empty_bucket u.header.width u.header.rows) d (subst (λ k. i < k) n h))

  pub walls_alike : v ≡ u
  walls_alike i = record { header = e i; buckets = buckets_alike i; fulls = fulls_alike i }
