-- A bucket of any shape: its levels as packed words, what they read, and when they are sound.
use mathlib.Core.Path.{◌≡◌, refl, sym, ap, ap₂, ◌∙◌}
use mathlib.Core.List.{List, [], ◌∷◌, map}
use Prim.Native.Nat.{ℕ, zero, suc, ◌+◌, ◌*◌, ◌/◌, ◌%◌, ◌^◌, ◌≤◌, ◌<◌, zero-le}
use native.Mathlib.Nat.{le_refl, le_trans, le_of_eq, le_of_suc-le-suc, not-suc-le-zero, zero-lt-suc, zero-mul, one-mul, mod-one, mod-eq_of_lt, zero-mod, div-lt_iff_lt-mul}
use native.Mathlib.Omega.{arith}
use lib.ListN.{length, get_or, length-map}
use lib.Pow.{pow_pos, mod-pow-add, pow-add}
use lib.Count.{ones}
use Rattle.model.specs.Lists.{sum}
use Rattle.model.specs.Packed.{rank, pack, unpack, entry, bit}
use Rattle.model.specs.Shapes.{Row}
use Rattle.model.specs.Levels.{sign, nonzero, uppers, parts, marks, onward, Level, level, encode}
use Rattle.model.proofs.Lists.{Below, Least, below_at, least_at, least_of}
use Rattle.model.proofs.Packing.{rank-ones, rank-all, pack-entry, bit-pack, rank-pack, pack_lt, ones-pack, pack-unpack, below-unpack, length-unpack}
use Rattle.model.proofs.Ranks.{rank_in, rank-sum, below-sign, least_nonzero, scatter, sign_scatter, nonzero_scatter, length_scatter}
use Rattle.model.proofs.Values.{below_parts, onward-at, part_at, mark_le, le_mark, join_parts, parts_join, uppers_join, length_join, length-onward, mark_at}

-- the bits of a counter from this row on
abbrev pub height : List Row → ℕ
height [] = 0
height (r ∷ rs) = height rs + r.width

-- the count at entry a: its part, and where its mark is set the count at its rank in the next level
unfoldable pub read : List Row → List Level → ℕ → ℕ
read [] ls a = 0
read (r ∷ rs) [] a = 0
read (r ∷ rs) (l ∷ ls) a = bit l.marks a * read rs ls (ones (l.marks % 2 ^ a)) * 2 ^ r.width + entry r.width l.cells a

-- each level has room for the values that reach it, and nothing goes on from the last
abbrev pub Fits : List Row → List ℕ → Type 0
Fits [] vs = length vs ≤ 0
Fits (r ∷ rs) vs = (length vs ≤ r.entries) × Fits rs (onward r.width vs)

-- ---- the walk reads what was encoded

pub rank-marks : (w : ℕ) (vs : List ℕ) (a : ℕ) → ones (pack 1 (marks w vs) % 2 ^ a) ≡ rank_in (uppers w vs) a
rank-marks w vs a = rank-pack (marks w vs) a (below-sign (uppers w vs)) ∙ rank-sum (uppers w vs) a

mark_mod : (m x n : ℕ) → m < 2 → m * (x % n) ≡ m * x % n
mark_mod zero x n h = rw (zero-mul, zero-mul, zero-mod)
mark_mod (suc zero) x n h = rw (one-mul, one-mul)
mark_mod (suc (suc m)) x n h = absurd (not-suc-le-zero (le_of_suc-le-suc (le_of_suc-le-suc h)))

pub read_encode : (rs : List Row) (vs : List ℕ) (a : ℕ) → read rs (encode rs vs) a ≡ get_or vs a 0 % 2 ^ height rs
unfolding encode read
read_encode [] vs a = sym (mod-one (get_or vs a 0))
read_encode (r ∷ rs) vs a =
    let w : ℕ = r.width in
    let h : Below 2 (marks w vs) = below-sign (uppers w vs) in
    rw (
      bit-pack (marks w vs) a h,
      rank-marks w vs a,
      read_encode rs (onward w vs) (rank_in (uppers w vs) a),
      mark_mod (get_or (marks w vs) a 0) (get_or (onward w vs) (rank_in (uppers w vs) a) 0) (2 ^ height rs) (below_at (marks w vs) a (zero-lt-suc 1) h),
      onward-at w vs a,
      pack-entry w (parts w vs) a (below_parts w vs),
      part_at w vs a,
      mod-pow-add,
    )

-- ---- the values of a bucket that fits are below 2 ^ height, so it reads them whole, and one list of them only has its levels

mark_lt : (m : ℕ) {x b : ℕ} → m < 2 → x < b → m * x < b
mark_lt zero {x} h l = rw zero-mul (omega arith)
mark_lt (suc zero) {x} h l = rw one-mul l
mark_lt (suc (suc m)) h l = absurd (not-suc-le-zero (le_of_suc-le-suc (le_of_suc-le-suc h)))

pub fits_below : (rs : List Row) (vs : List ℕ) → Fits rs vs → (a : ℕ) → get_or vs a 0 < 2 ^ height rs
fits_below [] [] f a = zero-lt-suc 0
fits_below [] (v ∷ vs) f a = absurd (not-suc-le-zero f)
fits_below (r ∷ rs) vs f a =
    let w : ℕ = r.width in
    let q : get_or vs a 0 / 2 ^ w < 2 ^ height rs =
    rw onward-at at (mark_lt (get_or (marks w vs) a 0) (below_at (marks w vs) a (zero-lt-suc 1) (below-sign (uppers w vs))) (fits_below rs (onward w vs) f.1 (rank_in (uppers w vs) a))) in
    rw pow-add ((div-lt_iff_lt-mul (pow_pos w)).0 q)

pub read_fits : (rs : List Row) (vs : List ℕ) (a : ℕ) → Fits rs vs → read rs (encode rs vs) a ≡ get_or vs a 0
read_fits rs vs a f = read_encode rs vs a ∙ mod-eq_of_lt (fits_below rs vs f a)

-- ---- sound levels, read as the document has it. n entries are used, and each value is at least lo: 0 on the first level, 1 above it.

abbrev pub Sound : ℕ → List Row → ℕ → List Level → Type 0
Sound lo [] n [] = n ≤ 0
Sound lo [] n (l ∷ ls) = ⊥
Sound lo (r ∷ rs) n [] = ⊥
Sound lo (r ∷ rs) n (l ∷ ls) =
    (n ≤ r.entries)
    × (l.cells < 2 ^ (r.width * n))
    × (l.marks < 2 ^ n)
    × ((a : ℕ) → a < n → lo ≤ entry r.width l.cells a + bit l.marks a)
    × Sound 1 rs (ones l.marks) ls

pub entry-encode : (w : ℕ) (vs : List ℕ) (a : ℕ) → entry w (pack w (parts w vs)) a ≡ get_or vs a 0 % 2 ^ w
entry-encode w vs a = pack-entry w (parts w vs) a (below_parts w vs) ∙ part_at w vs a

pub bit-encode : (w : ℕ) (vs : List ℕ) (a : ℕ) → bit (pack 1 (marks w vs)) a ≡ sign (get_or vs a 0 / 2 ^ w)
bit-encode w vs a = bit-pack (marks w vs) a (below-sign (uppers w vs)) ∙ mark_at w vs a

pub ones-marks : (w : ℕ) (vs : List ℕ) → ones (pack 1 (marks w vs)) ≡ length (onward w vs)
ones-marks w vs = ones-pack (marks w vs) (below-sign (uppers w vs)) ∙ sym (length-onward w vs)

-- the same as the definitions have it, of a level over the values vs
pub rank_coded : (w : ℕ) (vs : List ℕ) (a : ℕ) → rank (pack 1 (marks w vs)) a ≡ rank_in (uppers w vs) a
rank_coded w vs a = sym (rank-ones (pack 1 (marks w vs)) a) ∙ rank-marks w vs a

pub used_coded : (w : ℕ) (vs : List ℕ) → rank (pack 1 (marks w vs)) (length vs) ≡ length (onward w vs)
used_coded w vs = rank-all (pack 1 (marks w vs)) (length vs) (simp (one-mul, length-map) at (pack_lt 1 (marks w vs) (below-sign (uppers w vs)))) ∙ ones-marks w vs

pub encode-sound : (lo : ℕ) (rs : List Row) (vs : List ℕ) → lo ≤ 1 → Least lo vs → Fits rs vs → Sound lo rs (length vs) (encode rs vs)
unfolding encode
encode-sound lo [] vs k h f = f
encode-sound lo (r ∷ rs) vs k h f =
    let w : ℕ = r.width in (
      f.0,
      rw length-map at (pack_lt w (parts w vs) (below_parts w vs)),
      simp (one-mul, length-map) at (pack_lt 1 (marks w vs) (below-sign (uppers w vs))),
      (λ a l. rw (entry-encode, bit-encode) (le_mark w (get_or vs a 0) lo k (least_at vs a h l))),
      rw (ones-marks w vs) (encode-sound 1 rs (onward w vs) (le_refl 1) (least_nonzero (uppers w vs)) f.1),
    )

-- ---- and sound levels are those of one list of values

-- one level of n entries in use: with the values us of the next level it holds one list of values
record Held (w n : ℕ) (l : Level) (us : List ℕ) : Type 0 where
  values : List ℕ
  number : length values ≡ n
  cells : pack w (parts w values) ≡ l.cells
  marks : pack 1 (marks w values) ≡ l.marks
  next : onward w values ≡ us

held : (w n : ℕ) (l : Level) (us : List ℕ) → l.cells < 2 ^ (w * n) → l.marks < 2 ^ n → length us ≡ ones l.marks → Least 1 us → Held w n l us
held w n l us hc hg e h =
    let ps : List ℕ = unpack w n l.cells in
    let ms : List ℕ = unpack 1 n l.marks in
    let bp : Below (2 ^ w) ps = below-unpack w n l.cells in
    let bm : Below 2 ms = below-unpack 1 n l.marks in
    let goes : pack 1 ms ≡ l.marks = pack-unpack 1 n l.marks ∙ mod-eq_of_lt (rw one-mul hg) in
    let room : sum ms ≡ length us = sym (ones-pack ms bm) ∙ ap ones goes ∙ sym e in
    let qs : List ℕ = scatter ms us in
    let long : length ps ≡ length qs = length-unpack w n l.cells ∙ sym (length_scatter ms us ∙ length-unpack 1 n l.marks) in
    let upper : uppers w (join_parts w ps qs) ≡ qs = uppers_join w ps qs bp long in
    record {
      values = join_parts w ps qs;
      number = length_join w ps qs ∙ length-unpack w n l.cells;
      cells = ap (pack w) (parts_join w ps qs bp long) ∙ pack-unpack w n l.cells ∙ mod-eq_of_lt hc;
      marks = ap (λ x. pack 1 (map sign x)) upper ∙ ap (pack 1) (sign_scatter ms us bm room h) ∙ goes;
      next = ap nonzero upper ∙ nonzero_scatter ms us bm room h;
    }

held_least : {w n : ℕ} {l : Level} {us : List ℕ} (o : Held w n l us) (lo : ℕ)
    → ((a : ℕ) → a < n → lo ≤ entry w l.cells a + bit l.marks a) → Least lo o.values
held_least {w} {n} o lo s =
    least_of lo o.values (λ a h. le_trans
    (rw (← o.cells, ← o.marks, entry-encode, bit-encode) at (s a (le_trans h (le_of_eq o.number))))
    (mark_le w (get_or o.values a 0)))

pub record Values (lo : ℕ) (rs : List Row) (n : ℕ) (ls : List Level) : Type 0 where
  pub values : List ℕ
  pub number : length values ≡ n
  pub least : Least lo values
  pub fits : Fits rs values
  pub coded : encode rs values ≡ ls

pub sound_values : (lo : ℕ) (rs : List Row) (n : ℕ) (ls : List Level) → Sound lo rs n ls → Values lo rs n ls
unfolding encode
sound_values lo [] n [] s = record { values = []; number = omega arith; least = tt; fits = zero-le; coded = refl }
sound_values lo [] n (l ∷ ls) s = absurd s
sound_values lo (r ∷ rs) n [] s = absurd s
sound_values lo (r ∷ rs) n (l ∷ ls) s =
    let u = sound_values 1 rs (ones l.marks) ls s.4 in
    let o = held r.width n l u.values s.1 s.2 u.number u.least in
    record {
      values = o.values;
      number = o.number;
      least = held_least o lo s.3;
      fits = (rw o.number s.0, rw o.next u.fits);
      coded = ap₂ ◌∷◌ (ap₂ level o.cells o.marks) (ap (encode rs) o.next ∙ u.coded);
    }

-- ---- the counts add up, level by level: the entries of a level at offset l weigh 2 ^ l each

unfoldable pub total : ℕ → List Row → ℕ → List Level → ℕ
total l [] n ls = 0
total l (r ∷ rs) n [] = 0
total l (r ∷ rs) n (c ∷ ls) = sum (unpack r.width n c.cells) * 2 ^ l + total (l + r.width) rs (ones c.marks) ls
