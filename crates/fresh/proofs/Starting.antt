-- Raise and close: the words of a fresh wall, and each refusal.
use mathlib.Core.Path.{◌≡◌, sym, ap, ap₂, ◌∙◌, subst}
use mathlib.Core.Bool.{not}
use mathlib.Core.List.{List, [], ◌∷◌}
use Prim.Native.Nat.{ℕ, suc, ◌+◌, ◌*◌, ◌^◌, ◌≤◌, ◌<◌}
use native.Mathlib.Omega.{arith}
use lib.Dec.{T, leb, ltb, eqb, leb→le, lt→ltb, lit<}
use lib.Arith.{le→nltb}
use lib.ListN.{length, set, replicate}
use Rattle.model.specs.Shapes.{known_shape, width_asked}
use Rattle.model.specs.Slots.{known_bits, valid_spread}
use Rattle.model.specs.Walls.{Header, full_word, with_totals, buckets_in, bucket_length, wall_size, limit_fits, full_fits, read_header, good, fresh}
use Rattle.model.specs.Calls.{Refusal, refuse, first_met, outcome, Ask, asked, sized_refusals, raise_refusals, raise, close_refusals, close}
use Rattle.model.proofs.Tools.{to_not-not, and_tests}
use Rattle.model.proofs.Slots.{spread-fits}
use Rattle.model.proofs.Headers.{good_of}
use Rattle.model.proofs.Refusals.{first-met, first-skip, first_clear, answer_done, refused_as}
use Rattle.layout.specs.declared.Wall.{Wall}
use Rattle.layout.specs.Views.{header_of}
use Rattle.layout.proofs.Refused.{asked_bounds}
use Rattle.header.specs.Headers.{fields_of, Known}
use Rattle.header.proofs.Opening.{good-known}
use Rattle.fresh.specs.Raise.{raise_sized}

-- ---- the words

pub written : (n : ℕ) (v : Wall) → Known v → v.full ≤ 4096 → n ≡ wall_size (header_of v)
    → set (set (set (replicate n 0) 0 (v.bits * 72057594037927936 + v.width * 281474976710656 + v.shape * 1099511627776 + 21780290)) 1 v.limit) 3 (v.full + v.spread * 4294967296) ≡ fresh (header_of v)
unfolding fresh
written n v k f e =
    let h : Header = header_of v in
    let x : ℕ = buckets_in h * bucket_length h + 65 * v.full in
    let l : n ≡ suc (suc (suc (suc x))) = omega arith in
    let w0 : v.bits * 72057594037927936 + v.width * 281474976710656 + v.shape * 1099511627776 + 21780290 ≡ Rattle.model.specs.Packed.join_fields Rattle.model.specs.Walls.head_fields (0x4C5742 ∷ 1 ∷ v.shape ∷ v.width ∷ v.bits ∷ []) = omega arith in
    let w3 : v.full + v.spread * 4294967296 ≡ full_word (with_totals h 0 0) = omega arith in
    ap (λ n. set (set (set (replicate n 0) 0 (v.bits * 72057594037927936 + v.width * 281474976710656 + v.shape * 1099511627776 + 21780290)) 1 v.limit) 3 (v.full + v.spread * 4294967296)) l
    ∙ ap₂ (λ a b. a ∷ v.limit ∷ 0 ∷ b ∷ replicate x 0) w0 w3

-- ---- raise

-- the header that was asked for, as the code has it; u is the width
abbrev pub wall_at : Ask → ℕ → Wall
wall_at a u = record { shape = a.shape; width = u; bits = a.bits; limit = a.limit; total = 0; full = a.full; used = 0; spread = a.spread }

pub known_at : (v : Wall) (w : ℕ) → T (known_shape v.shape) → w ≤ 16 → v.width ≡ width_asked w → T (known_bits v.bits) → Known v
known_at v w s l e k =
    let x = Rattle.model.proofs.Headers.shape_bounds v.shape s in
    let y = and_tests (leb 6 v.bits) (leb v.bits 22) k in
    let z = asked_bounds w l in
    record {
      shape_low = x.0;
      shape_high = x.1;
      width_low = omega (arith, z.0);
      width_high = omega (arith, z.1);
      bits_low = leb→le 6 v.bits y.0;
      bits_high = leb→le v.bits 22 y.1;
    }

-- what is said of that header is said of the model's
pub at-asked : {A : Type 0} (f : Header → A) (a : Ask) (u : ℕ) → u ≡ width_asked a.width → f (header_of (wall_at a u)) ≡ f (asked a)
at-asked f a u e = ap (λ u. f (header_of (wall_at a u))) e

pub full_most : (h : Header) → T (full_fits h) → h.full ≤ 4096
full_most h t = leb→le h.full 4096 (and_tests (leb h.full (buckets_in h)) (leb h.full 4096) t).1

module _ (a : Ask) (ws : List ℕ) where
  abbrev rest : List Refusal
  rest = sized_refusals (asked a) ws

  abbrev r1 : Refusal
  r1 = refuse 1 (not (known_shape a.shape))

  abbrev r2 : Refusal
  r2 = refuse 2 (ltb 16 a.width)

  abbrev r3 : Refusal
  r3 = refuse 3 (not (known_bits a.bits))

  refused : (n : ℕ) → 0 < n → first_met (raise_refusals a ws) ≡ n → record { number = n; value = 0; words = ws } ≡ raise a ws
  unfolding raise
  refused = refused_as (raise_refusals a ws) 0 (fresh (asked a)) ws

  pub raise_1 : T (not (known_shape a.shape)) → record { number = 1; value = 0; words = ws } ≡ raise a ws
  raise_1 t = refused 1 (lit< tt) (first-met [] r1 (r2 ∷ r3 ∷ rest) tt t)

  module _ (s : T (known_shape a.shape)) where
    pub raise_2 : 16 < a.width → record { number = 2; value = 0; words = ws } ≡ raise a ws
    raise_2 l = refused 2 (lit< tt) (first-met (r1 ∷ []) r2 (r3 ∷ rest) (to_not-not (known_shape a.shape) s, tt) (lt→ltb 16 a.width l))

    module _ (l : a.width ≤ 16) where
      pub raise_3 : T (not (known_bits a.bits)) → record { number = 3; value = 0; words = ws } ≡ raise a ws
      raise_3 t = refused 3 (lit< tt) (first-met (r1 ∷ r2 ∷ []) r3 rest (to_not-not (known_shape a.shape) s, (le→nltb 16 a.width l, tt)) t)

      -- shape, width and bits are known: the rest decides
      pub raise-rest : T (known_bits a.bits) → raise_sized (asked a) ws ≡ raise a ws
      unfolding raise raise_sized
      raise-rest k = ap (λ n. outcome n 0 (fresh (asked a)) ws)
          (sym (first-skip (r1 ∷ r2 ∷ r3 ∷ []) rest (to_not-not (known_shape a.shape) s, (le→nltb 16 a.width l, (to_not-not (known_bits a.bits) k, tt)))))

-- ---- the rest of raise

module _ (h : Header) (ws : List ℕ) where
  abbrev r4 : Refusal
  r4 = refuse 4 (not (limit_fits h))

  abbrev r5 : Refusal
  r5 = refuse 5 (not (full_fits h))

  abbrev r15 : Refusal
  r15 = refuse 15 (not (valid_spread h.bits h.spread))

  abbrev r6 : Refusal
  r6 = refuse 6 (not (eqb (length ws) (wall_size h)))

  stops : (n : ℕ) → 0 < n → first_met (sized_refusals h ws) ≡ n → record { number = n; value = 0; words = ws } ≡ raise_sized h ws
  unfolding raise_sized
  stops = refused_as (sized_refusals h ws) 0 (fresh h) ws

  pub sized_4 : T (not (limit_fits h)) → record { number = 4; value = 0; words = ws } ≡ raise_sized h ws
  sized_4 t = stops 4 (lit< tt) (first-met [] r4 (r5 ∷ r15 ∷ r6 ∷ []) tt t)

  module _ (f : T (limit_fits h)) where
    pub sized_5 : T (not (full_fits h)) → record { number = 5; value = 0; words = ws } ≡ raise_sized h ws
    sized_5 t = stops 5 (lit< tt) (first-met (r4 ∷ []) r5 (r15 ∷ r6 ∷ []) (to_not-not (limit_fits h) f, tt) t)

    module _ (g : T (full_fits h)) where
      pub sized_15 : T (not (valid_spread h.bits h.spread)) → record { number = 15; value = 0; words = ws } ≡ raise_sized h ws
      sized_15 t = stops 15 (lit< tt) (first-met (r4 ∷ r5 ∷ []) r15 (r6 ∷ []) (to_not-not (limit_fits h) f, (to_not-not (full_fits h) g, tt)) t)

      module _ (m : T (valid_spread h.bits h.spread)) where
        pub sized_6 : T (not (eqb (length ws) (wall_size h))) → record { number = 6; value = 0; words = ws } ≡ raise_sized h ws
        sized_6 t = stops 6 (lit< tt) (first-met (r4 ∷ r5 ∷ r15 ∷ []) r6 [] (to_not-not (limit_fits h) f, (to_not-not (full_fits h) g, (to_not-not (valid_spread h.bits h.spread) m, tt))) t)

        pub sized_0 : T (eqb (length ws) (wall_size h)) → record { number = 0; value = 0; words = fresh h } ≡ raise_sized h ws
        unfolding raise_sized
        sized_0 e = sym (answer_done 0 (fresh h) ws (first_met (sized_refusals h ws)) (first_clear (sized_refusals h ws)
            (to_not-not (limit_fits h) f, (to_not-not (full_fits h) g, (to_not-not (valid_spread h.bits h.spread) m, (to_not-not (eqb (length ws) (wall_size h)) e, tt))))))

-- ---- close

pub close_7 : (ws : List ℕ) → T (not (good ws)) → record { number = 7; value = 0; words = ws } ≡ close ws
unfolding close
close_7 ws t = sym (ap (λ n. outcome n 0 (fresh (read_header ws)) ws) (first-met [] (refuse 7 (not (good ws))) [] tt t))

pub close_0 : (ws : List ℕ) → T (good ws) → record { number = 0; value = 0; words = fresh (read_header ws) } ≡ close ws
unfolding close
close_0 ws g = sym (answer_done 0 (fresh (read_header ws)) ws (first_met (close_refusals ws)) (first_clear (close_refusals ws) (to_not-not (good ws) g, tt)))

-- a good header has what writing a fresh wall asks
pub opened_writes : (ws : List ℕ) (v : Wall) → v ≡ fields_of ws → T (good ws) → Known v × (v.full ≤ 4096) × (v.spread < 2 ^ 32) × (length ws ≡ wall_size (header_of v))
opened_writes ws v e t =
    let g = good_of ws t in
    subst (λ (v : Wall). Known v × (v.full ≤ 4096) × (v.spread < 2 ^ 32) × (length ws ≡ wall_size (header_of v))) (sym e)
    (good-known ws g, g.limits.full_most, spread-fits (read_header ws).bits (read_header ws).spread g.limits.bits_high g.limits.spread-valid, g.exact)

pub opened_closes : (ws : List ℕ) (v : Wall) → v ≡ fields_of ws → T (good ws) → (us : List ℕ) → us ≡ fresh (header_of v) → record { number = 0; value = 0; words = us } ≡ close ws
opened_closes ws v e t us f =
    ap (λ us. record { number = 0; value = 0; words = us }) (f ∙ ap (λ (v : Wall). fresh (header_of v)) e) ∙ close_0 ws t
