-- What a good header says, fact by fact.
use mathlib.Core.Path.{◌≡◌, ap, ◌∙◌}
use mathlib.Core.Bool.{Bool, ◌&&◌}
use mathlib.Core.List.{List, [], ◌∷◌, map}
use Prim.Native.Nat.{ℕ, zero, suc, ◌-◌, ◌*◌, ◌/◌, ◌^◌, ◌≤◌, ◌<◌}
use native.Mathlib.Nat.{div-lt_iff_lt-mul}
use native.Mathlib.Omega.{arith}
use lib.Dec.{T, leb, ltb, eqb, leb→le, le→leb, ltb→lt, lt→ltb, eqb→eq, eqb_refl, lit<}
use lib.Pow.{pow-add}
use lib.ListN.{length}
use Rattle.model.specs.Lists.{sum}
use Rattle.model.specs.Shapes.{Row, rows_of, known_shape, mark_widths, valid_row, falling, valid_rows}
use Rattle.model.specs.Slots.{slot, known_bits, valid_spread}
use Rattle.model.specs.Walls.{Header, letters, head_field, read_header, limits, good, good_tests, wall_size, buckets_in, count_end, limit_fits, full_fits, slot_of, bucket_of}
use Rattle.model.proofs.Growth.{Wide}
use Rattle.model.proofs.Slots.{slot_lt, undoing}
use Rattle.model.proofs.Tools.{AllT, all_tests, tests_all, and_tests, tests_and}

-- Of the rows of a shape: no width is 0, and their marks have room below the flag. The laws of walls use only this of a shape.
pub record Fine (rs : List Row) : Type 0 where
  pub wide : Wide rs
  pub room : sum (mark_widths rs) ≤ 40

wide_of : (k : ℕ) (rs : List Row) → T (falling k rs) → Wide rs
wide_of k [] t = tt
wide_of k (r ∷ rs) t =
    let u = and_tests (valid_row r) (falling r.entries rs) (and_tests (leb r.entries k) (valid_row r && falling r.entries rs) t).1 in
    let v = all_tests (row_tests r) u.0 in
    (leb→le 1 r.width v.1.0, wide_of r.entries rs u.1)
  where
    row_tests : Row → List Bool
    row_tests r = leb 1 r.entries ∷ leb 1 r.width ∷ leb r.width 16 ∷ leb (r.entries * r.width) 64 ∷ []

-- so with every valid shape
pub valid_fine : (rs : List Row) → T (valid_rows rs) → Fine rs
valid_fine rs t =
    let v = all_tests (leb 1 (length rs) ∷ leb (length rs) 4 ∷ falling 64 rs ∷ leb (sum (mark_widths rs)) 40 ∷ leb (sum (map (λ (r : Row). r.width) rs)) 47 ∷ []) t in
    record { wide = wide_of 64 rs v.1.1.0; room = leb→le (sum (mark_widths rs)) 40 v.1.1.1.0 }

pub shape_bounds : (p : ℕ) → T (known_shape p) → (3 ≤ p) × (p ≤ 5)
shape_bounds p t = let u = and_tests (leb 3 p) (leb p 5) t in (leb→le 3 p u.0, leb→le p 5 u.1)

-- the three rows of the table are valid, by computing
pub table_valid : (p : ℕ) → T (known_shape p) → T (valid_rows (rows_of p))
table_valid zero t = absurd (omega (arith, (shape_bounds 0 t).0))
table_valid (suc zero) t = absurd (omega (arith, (shape_bounds 1 t).0))
table_valid (suc (suc zero)) t = absurd (omega (arith, (shape_bounds 2 t).0))
table_valid (suc (suc (suc zero))) t = tt
table_valid (suc (suc (suc (suc zero)))) t = tt
table_valid (suc (suc (suc (suc (suc zero))))) t = tt
table_valid (suc (suc (suc (suc (suc (suc n)))))) t = absurd (omega (arith, (shape_bounds (suc (suc (suc (suc (suc (suc n)))))) t).1))

pub rows_fine : (p : ℕ) → T (known_shape p) → Fine (rows_of p)
rows_fine p t = valid_fine (rows_of p) (table_valid p t)

pub record Limits (h : Header) : Type 0 where
  pub fine : Fine h.rows
  pub shape_low : 3 ≤ h.shape
  pub shape_high : h.shape ≤ 5
  pub width_low : 1 ≤ h.width
  pub width_high : h.width ≤ 16
  pub bits_low : 6 ≤ h.bits
  pub bits_high : h.bits ≤ 22
  pub limit-low : 1 ≤ h.limit
  pub limit-high : h.limit < count_end h
  pub full_most : h.full ≤ 4096
  pub full-number : h.full ≤ buckets_in h
  pub within : h.total ≤ h.limit
  pub spare_full : h.used ≤ h.full
  pub spread-valid : T (valid_spread h.bits h.spread)

pub limits_of : (h : Header) → Fine h.rows → AllT (limits h) → Limits h
limits_of h f t =
    let s = shape_bounds h.shape t.0 in
    let w = and_tests (leb 1 h.width) (leb h.width 16) t.1.0 in
    let b = and_tests (leb 6 h.bits) (leb h.bits 22) t.1.1.0 in
    let m = and_tests (leb 1 h.limit) (ltb h.limit (count_end h)) t.1.1.1.0 in
    let j = and_tests (leb h.full (buckets_in h)) (leb h.full 4096) t.1.1.1.1.0 in
    record {
      fine = f;
      shape_low = s.0;
      shape_high = s.1;
      width_low = leb→le 1 h.width w.0;
      width_high = leb→le h.width 16 w.1;
      bits_low = leb→le 6 h.bits b.0;
      bits_high = leb→le h.bits 22 b.1;
      limit-low = leb→le 1 h.limit m.0;
      limit-high = ltb→lt h.limit (count_end h) m.1;
      full_most = leb→le h.full 4096 j.1;
      full-number = leb→le h.full (buckets_in h) j.0;
      within = leb→le h.total h.limit t.1.1.1.1.1.0;
      spare_full = leb→le h.used h.full t.1.1.1.1.1.1.0;
      spread-valid = t.1.1.1.1.1.1.1.0;
    }

pub eq-eqb : {m n : ℕ} → m ≡ n → T (eqb m n)
eq-eqb {m} e = rw (← e) (eqb_refl m)

module _ (h : Header) (l : Limits h) where
  pub shape_test : T (known_shape h.shape)
  shape_test = tests_and (leb 3 h.shape) (leb h.shape 5) (le→leb 3 h.shape l.shape_low) (le→leb h.shape 5 l.shape_high)

  pub bits_test : T (known_bits h.bits)
  bits_test = tests_and (leb 6 h.bits) (leb h.bits 22) (le→leb 6 h.bits l.bits_low) (le→leb h.bits 22 l.bits_high)

  pub limit_test : T (limit_fits h)
  limit_test = tests_and (leb 1 h.limit) (ltb h.limit (count_end h)) (le→leb 1 h.limit l.limit-low) (lt→ltb h.limit (count_end h) l.limit-high)

  pub full_test : T (full_fits h)
  full_test = tests_and (leb h.full (buckets_in h)) (leb h.full 4096) (le→leb h.full (buckets_in h) l.full-number) (le→leb h.full 4096 l.full_most)

  pub of_limits : AllT (limits h)
  of_limits = (
    shape_test,
    (
      tests_and (leb 1 h.width) (leb h.width 16) (le→leb 1 h.width l.width_low) (le→leb h.width 16 l.width_high),
      (bits_test, (limit_test, (full_test, (le→leb h.total h.limit l.within, (le→leb h.used h.full l.spare_full, (l.spread-valid, tt)))))),
    ),
  )

pub record Good (ws : List ℕ) : Type 0 where
  pub long : 4 ≤ length ws
  pub marked : head_field ws 0 ≡ letters
  pub version : head_field ws 1 ≡ 1
  pub exact : length ws ≡ wall_size (read_header ws)
  pub limits : Limits (read_header ws)

pub good_of : (ws : List ℕ) → T (good ws) → Good ws
unfolding good
good_of ws g =
    let t = all_tests (good_tests ws) g in
    record {
      long = leb→le 4 (length ws) t.0;
      marked = eqb→eq (head_field ws 0) letters t.1.0;
      version = eqb→eq (head_field ws 1) 1 t.1.1.0;
      exact = eqb→eq (length ws) (wall_size (read_header ws)) t.1.1.1.0;
      limits = limits_of (read_header ws) (rows_fine (head_field ws 2) t.1.1.1.1.0) t.1.1.1.1;
    }

pub of_good : (ws : List ℕ) → Good ws → T (good ws)
unfolding good
of_good ws g =
    tests_all (good_tests ws) (le→leb 4 (length ws) g.long, (eq-eqb g.marked, (eq-eqb g.version, (eq-eqb g.exact, of_limits (read_header ws) g.limits))))

-- a flow's bucket is one of the wall's
pub flows-number : (b : ℕ) → 6 ≤ b → 2 ^ b ≡ 2 ^ (b - 6) * 64
flows-number b h = ap (λ n. 2 ^ n) (omega arith) ∙ pow-add 2 (b - 6) 6

pub slot-bucket : (b s : ℕ) → 6 ≤ b → s < 2 ^ b → s / 64 < 2 ^ (b - 6)
slot-bucket b s h l = (div-lt_iff_lt-mul (lit< tt)).1 (rw (← flows-number b h) l)

pub bucket_lt : (h : Header) (y : ℕ) → 6 ≤ h.bits → bucket_of h y < buckets_in h
bucket_lt h y l = slot-bucket h.bits (slot_of h y) l (slot_lt h.bits h.spread y)

-- the flow of a slot
abbrev pub flow_at : Header → ℕ → ℕ
flow_at h s = slot h.bits (undoing h.bits h.spread) s
