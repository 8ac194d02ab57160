-- A header is opened exactly where number 7 is not met.
use mathlib.Core.Path.{◌≡◌, refl, sym, ap, ap₂, ◌∙◌, subst}
use mathlib.Core.Bool.{Bool, true, false, not}
use mathlib.Core.List.{List}
use Prim.Native.Nat.{ℕ, ◌+◌, ◌-◌, ◌*◌, ◌/◌, ◌%◌, ◌^◌, ◌≤◌, ◌<◌}
use native.Mathlib.Omega.{arith}
use lib.Dec.{T, leb, eqb, le→leb, leb→le, eqb→eq}
use lib.Pow.{pow_mono, shr-shr, shr_lt}
use native.Mathlib.Nat.{mul-le-mul, mod-eq_of_lt}
use lib.ListN.{length}
use Rattle.std.specs.Prelude.{Option, Some, None, IfSome, Result, Ok, Err, option_map, ok_or}
use Rattle.model.specs.Lists.{choose}
use Rattle.model.specs.Shapes.{known_shape, valid_width, rows_of}
use Rattle.model.specs.Slots.{known_bits, valid_spread}
use Rattle.model.specs.Walls.{Header, read_header, head_field, word_at, good, limit_fits, full_fits, buckets_in, bucket_length, wall_size}
use Rattle.model.proofs.Tools.{and_tests, tests_and}
use Rattle.model.proofs.Headers.{Limits, limits_of, good_of, of_good, eq-eqb, shape_bounds, rows_fine}
use Rattle.model.proofs.Headers as model
use Rattle.layout.specs.declared.Wall.{Wall}
use Rattle.shapes.specs.Shapes.{shape_of, Valid}
use Rattle.layout.specs.Views.{header_of}
use Rattle.shapes.proofs.Shapes.{table_shape, table_length}
use Rattle.header.specs.Headers.{fields_of, Known, Marked, opened_of}

pub is_false : (b : Bool) → (T b → ⊥) → false ≡ b
is_false true f = absurd (f tt)
is_false false f = refl

both : (a b : Bool) → (T a → T b) → (T b → T a) → a ≡ b
both true true f g = refl
both true false f g = absurd (f tt)
both false true f g = absurd (g tt)
both false false f g = refl

-- ---- shape, width and bits

pub shape-length : (v : Wall) → Known v → length (rows_of v.shape) + 1 ≡ v.shape
shape-length v k = omega (arith, table_length v.shape k.shape_low k.shape_high, k.shape_low)

pub length_of_bucket : (v : Wall) → Known v → v.width + v.shape + 1 ≡ bucket_length (header_of v)
length_of_bucket v k = omega (arith, shape-length v k)

pub known-valid : (v : Wall) → Known v → Valid (shape_of v.shape v.width)
known-valid v k = table_shape v.shape v.width k.shape_low k.shape_high k.width_low k.width_high

-- ---- the fields, as the code takes them from the words

pub fields-words : (ws : List ℕ) → word_at ws 0 < 2 ^ 64
    → record { shape = word_at ws 0 / 1099511627776 % 256; width = word_at ws 0 / 281474976710656 % 256; bits = word_at ws 0 / 72057594037927936; limit = word_at ws 1; total = word_at ws 2; full = word_at ws 3 % 65536; used = word_at ws 3 / 65536 % 65536; spread = word_at ws 3 / 4294967296 } ≡ fields_of ws
fields-words ws h =
    let a : word_at ws 0 / 1099511627776 % 256 ≡ head_field ws 2 = omega arith in
    let s : word_at ws 0 / 2 ^ 24 / 2 ^ 16 / 2 ^ 8 ≡ word_at ws 0 / 2 ^ 48 = ap (λ x. x / 2 ^ 8) (shr-shr (word_at ws 0) 24 16) ∙ shr-shr (word_at ws 0) 40 8 in
    let t : word_at ws 0 / 2 ^ 48 / 2 ^ 8 ≡ word_at ws 0 / 2 ^ 56 = shr-shr (word_at ws 0) 48 8 in
    let b : word_at ws 0 / 281474976710656 % 256 ≡ head_field ws 3 = ap (λ x. x % 256) (sym s) in
    let d : word_at ws 0 / 72057594037927936 ≡ head_field ws 4 = sym (mod-eq_of_lt (shr_lt 8 56 h)) ∙ ap (λ x. x % 256) (sym (ap (λ x. x / 2 ^ 8) s ∙ t)) in
    let e : word_at ws 3 / 4294967296 ≡ word_at ws 3 / 2 ^ 16 / 2 ^ 16 = omega arith in
    ap₂ (λ x y. record { shape = x; width = y; bits = word_at ws 0 / 72057594037927936; limit = word_at ws 1; total = word_at ws 2; full = word_at ws 3 % 65536; used = word_at ws 3 / 65536 % 65536; spread = word_at ws 3 / 4294967296 }) a b
    ∙ ap₂ (λ x y. record { shape = head_field ws 2; width = head_field ws 3; bits = x; limit = word_at ws 1; total = word_at ws 2; full = word_at ws 3 % 65536; used = word_at ws 3 / 65536 % 65536; spread = y }) d e

-- the mark of the first word is its letters and its version
pub marked : (ws : List ℕ) → 4 ≤ length ws → word_at ws 0 % 1099511627776 ≡ 21780290 → Marked ws
marked ws h e = record { long = h; letters = omega arith; version = omega arith }

pub mark_of : (ws : List ℕ) → model.Good ws → word_at ws 0 % 1099511627776 ≡ 21780290
mark_of ws g = let a = g.marked in let b = g.version in omega arith

-- ---- sizes

pub buckets_most : (v : Wall) → Known v → buckets_in (header_of v) ≤ 65536
buckets_most v k = let h : v.bits - 6 ≤ 16 = omega (arith, k.bits_high) in pow_mono h

pub size_most : (h n m : ℕ) → h ≤ 65536 → n ≤ 22 → m ≤ 4096 → 4 + h * n + 65 * m < 2 ^ 32
size_most h n m a b c = let p : h * n ≤ 65536 * 22 = mul-le-mul a b in omega arith

-- ---- a header that fails a test, and one that passes them all

pub bad : (ws : List ℕ) → (model.Good ws → ⊥) → false ≡ good ws
bad ws f = is_false (good ws) (λ t. f (good_of ws t))

not_both : (r : Bool) → T r → not r ≡ true → ⊥
not_both true t e = subst T (sym e) tt
not_both false t e = t

module _ (ws : List ℕ) (v : Wall) (e : v ≡ fields_of ws) where
  limits-at : model.Good ws → Limits (header_of v)
  limits-at g = subst (λ (v : Wall). Limits (header_of v)) (sym e) g.limits

  -- a test that every header within its limits passes
  pub fails_test : (p : Header → Bool) → ((h : Header) → Limits h → T (p h)) → (r : Bool) → r ≡ p (header_of v) → not r ≡ true → false ≡ good ws
  fails_test p given r f n = bad ws (λ g. not_both r (subst T (sym f) (given (header_of v) (limits-at g))) n)

  pub fails_fact : (Limits (header_of v) → ⊥) → false ≡ good ws
  fails_fact f = bad ws (λ g. f (limits-at g))

  -- the length decides
  pub passes : Marked ws → Known v → T (limit_fits (header_of v)) → T (full_fits (header_of v)) → v.total ≤ v.limit → v.used ≤ v.full → T (valid_spread v.bits v.spread)
      → eqb (length ws) (wall_size (header_of v)) ≡ good ws
  passes m k t f total used spread =
      let s : T (known_shape v.shape) = tests_and (leb 3 v.shape) (leb v.shape 5) (le→leb 3 v.shape k.shape_low) (le→leb v.shape 5 k.shape_high) in
      let w : T (valid_width v.width) = tests_and (leb 1 v.width) (leb v.width 16) (le→leb 1 v.width k.width_low) (le→leb v.width 16 k.width_high) in
      let b : T (known_bits v.bits) = tests_and (leb 6 v.bits) (leb v.bits 22) (le→leb 6 v.bits k.bits_low) (le→leb v.bits 22 k.bits_high) in
      let l : Limits (header_of v) = limits_of (header_of v) (rows_fine v.shape s)
      (s, (w, (b, (t, (f, (le→leb v.total v.limit total, (le→leb v.used v.full used, (spread, tt)))))))) in
      let same : wall_size (header_of v) ≡ wall_size (read_header ws) = ap (λ (v : Wall). wall_size (header_of v)) e in
      both (eqb (length ws) (wall_size (header_of v))) (good ws)
      (λ t. of_good ws (record {
        long = m.long;
        marked = m.letters;
        version = m.version;
        exact = eqb→eq (length ws) (wall_size (header_of v)) t ∙ same;
        limits = subst (λ (v : Wall). Limits (header_of v)) e l;
      }))
      (λ t. eq-eqb ((good_of ws t).exact ∙ sym same))

pub spread_test : (h : Header) → Limits h → T (valid_spread h.bits h.spread)
spread_test h l = l.spread-valid

pub width_test : (h : Header) → Limits h → T (valid_width h.width)
width_test h l = tests_and (leb 1 h.width) (leb h.width 16) (le→leb 1 h.width l.width_low) (le→leb h.width 16 l.width_high)

pub known_of : (v : Wall) → T (known_shape v.shape) → T (valid_width v.width) → T (known_bits v.bits) → Known v
known_of v s w b =
    let x = shape_bounds v.shape s in
    let y = and_tests (leb 1 v.width) (leb v.width 16) w in
    let z = and_tests (leb 6 v.bits) (leb v.bits 22) b in
    record {
      shape_low = x.0;
      shape_high = x.1;
      width_low = leb→le 1 v.width y.0;
      width_high = leb→le v.width 16 y.1;
      bits_low = leb→le 6 v.bits z.0;
      bits_high = leb→le v.bits 22 z.1;
    }

-- ---- an opened header

pub opened_bad : (ws : List ℕ) → false ≡ good ws → None ≡ opened_of ws
opened_bad ws e = ap (λ b. choose b (Some (fields_of ws)) None) e

pub not_opened : (ws : List ℕ) → None ≡ opened_of ws → T (not (good ws))
not_opened ws e = go (good ws) e
  where
    go : (b : Bool) → None ≡ choose b (Some (fields_of ws)) None → T (not b)
    go true q = let z : ◌≡◌ {A = ℕ} 0 1 = cc in absurd (omega arith)
    go false q = tt

pub good-known : (ws : List ℕ) → model.Good ws → Known (fields_of ws)
good-known ws g =
    let l = g.limits in
    record { shape_low = l.shape_low; shape_high = l.shape_high; width_low = l.width_low; width_high = l.width_high; bits_low = l.bits_low; bits_high = l.bits_high }

-- where a call ends because no header is opened, with the error b, the words are not good
pub unopened : {X E : Type 0} (f : X → Wall) (o : Option X) (ws : List ℕ) (r b : E) → option_map f o ≡ opened_of ws → ◌≡◌ {A = Result X E} (Err r) (ok_or o b) → (r ≡ b) × T (not (good ws))
unopened f None ws r b e h = (cc, not_opened ws e)
unopened f (Some o) ws r b e h = let z : ◌≡◌ {A = ℕ} 0 1 = cc in absurd (omega arith)

-- and where one is, it is opened over these words
pub same_words : {X E : Type 0} (f : X → List ℕ) (o : Option X) (ws : List ℕ) (x : X) (b : E) → IfSome o (λ x. f x ≡ ws) → ◌≡◌ {A = Result X E} (Ok x) (ok_or o b) → f x ≡ ws
same_words f None ws x b h e = let z : ◌≡◌ {A = ℕ} 0 1 = cc in absurd (omega arith)
same_words f (Some y) ws x b h e = let z : x ≡ y = cc in ap f z ∙ h
