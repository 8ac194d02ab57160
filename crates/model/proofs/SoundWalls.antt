-- A sound wall, fact by fact, and that the check says so.
use mathlib.Core.Logic.{◌↔◌}
use mathlib.Core.Path.{◌≡◌, refl, sym, ◌∙◌}
use mathlib.Core.Bool.{Bool, true, false}
use mathlib.Core.List.{List, [], ◌∷◌}
use Prim.Native.Nat.{ℕ, ◌≤◌, ◌<◌}
use lib.Dec.{T, leb, eqb, leb→le, le→leb, eqb→eq, lit<}
use lib.ListN.{get_or}
use Rattle.model.specs.Lists.{one_if, every, by_mark}
use Rattle.model.specs.Walls.{Wall, buckets_in, read_header, good, parse, empty_full}
use Rattle.model.specs.Sound.{bucket_at, full_for, sound_at, holders, all_counts, is_empty_full, sound_buckets, sound_rest}
use Rattle.model.specs.Calls.{Clear, first_met, check, check_refusals}
use Rattle.model.proofs.Tests.{every-at, every_of}
use Rattle.model.proofs.Tools.{all_tests, tests_all, not-not, to_not-not}
use Rattle.model.proofs.Refusals.{clear_first, first_clear}
use Rattle.model.proofs.Headers.{Good, Limits, good_of, of_good, eq-eqb}
use Rattle.model.proofs.Parsing.{Shaped, shaped_parse}
use Rattle.model.proofs.Buckets.{SoundB, bucket_facts, facts_bucket}

pub record SoundWall (v : Wall) : Type 0 where
  pub shaped : Shaped v
  pub limits : Limits v.header
  pub each : (i : ℕ) → i < buckets_in v.header → SoundB v.header.width v.header.rows v.header.total v.header.used (bucket_at v i) (full_for v i)
  pub sums : all_counts v ≡ v.header.total
  pub held : (q : ℕ) → q < v.header.used → holders v q ≡ 1
  pub zeros : (q : ℕ) → q < v.header.full → v.header.used ≤ q → T (is_empty_full (get_or v.fulls q empty_full))

module _ (v : Wall) where
  abbrev pub zero_test : ℕ → Bool
  zero_test q = by_mark (one_if (leb v.header.used q)) true (is_empty_full (get_or v.fulls q empty_full))

  abbrev rest_tests : List Bool
  rest_tests = eqb (all_counts v) v.header.total ∷ every v.header.used (λ q. eqb (holders v q) 1) ∷ every v.header.full zero_test ∷ []

  zero-test : (q : ℕ) → T (zero_test q) → v.header.used ≤ q → T (is_empty_full (get_or v.fulls q empty_full))
  zero-test q t h = go (leb v.header.used q) (le→leb v.header.used q h) t
    where
      go : (b : Bool) → T b → T (by_mark (one_if b) true (is_empty_full (get_or v.fulls q empty_full))) → T (is_empty_full (get_or v.fulls q empty_full))
      go true h t = t
      go false h t = absurd h

  test_zero : (q : ℕ) → (v.header.used ≤ q → T (is_empty_full (get_or v.fulls q empty_full))) → T (zero_test q)
  test_zero q f = go (leb v.header.used q) (λ t. f (leb→le v.header.used q t))
    where
      go : (b : Bool) → (T b → T (is_empty_full (get_or v.fulls q empty_full))) → T (by_mark (one_if b) true (is_empty_full (get_or v.fulls q empty_full)))
      go true f = f tt
      go false f = tt

  pub sound_of : Shaped v → Limits v.header → T (every (buckets_in v.header) (sound_at v)) → T (sound_rest v) → SoundWall v
  unfolding sound_at sound_rest
  sound_of s l t r =
      let a = all_tests rest_tests r in
      record {
        shaped = s;
        limits = l;
        each = λ i h. bucket_facts v.header.width v.header.rows v.header.total v.header.used (bucket_at v i) (full_for v i) (every-at (buckets_in v.header) (sound_at v) t i h);
        sums = eqb→eq (all_counts v) v.header.total a.0;
        held = λ q h. eqb→eq (holders v q) 1 (every-at v.header.used (λ q. eqb (holders v q) 1) a.1.0 q h);
        zeros = λ q h. zero-test q (every-at v.header.full zero_test a.1.1.0 q h);
      }

  pub of_sound : SoundWall v → T (every (buckets_in v.header) (sound_at v)) × T (sound_rest v)
  unfolding sound_at sound_rest
  of_sound s = (
    every_of (buckets_in v.header) (sound_at v) (λ i h. facts_bucket v.header.width v.header.rows v.header.total v.header.used (bucket_at v i) (full_for v i) (s.each i h)),
    tests_all rest_tests (eq-eqb s.sums, (every_of v.header.used (λ q. eqb (holders v q) 1) (λ q h. eq-eqb (s.held q h)), (every_of v.header.full zero_test (λ q h. test_zero q (s.zeros q h)), tt))),
  )

-- ---- the check

pub parse-header : (ws : List ℕ) → (parse ws).header ≡ read_header ws
unfolding parse
parse-header ws = refl

pub check-number : (ws : List ℕ) → (check ws).number ≡ first_met (check_refusals ws)
unfolding check
check-number ws = refl

pub check_clear : (ws : List ℕ) → (check ws).number ≡ 0 → Clear (check_refusals ws)
check_clear ws e = clear_first (check_refusals ws) (lit< tt, (lit< tt, (lit< tt, tt))) (sym (check-number ws) ∙ e)

pub each_sound : (ws : List ℕ) → (check ws).number ≡ 0 → (i : ℕ) → i < buckets_in (parse ws).header → T (sound_at (parse ws) i)
each_sound ws e = every-at (buckets_in (parse ws).header) (sound_at (parse ws)) (not-not (sound_buckets (parse ws)) (check_clear ws e).1.0)

-- the check accepts exactly the words of good header whose wall is sound
pub check_sound : (ws : List ℕ) → ((check ws).number ≡ 0) ↔ (Good ws × SoundWall (parse ws))
check_sound ws = (
  (λ e.
      let c = check_clear ws e in
      let g = good_of ws (not-not (good ws) c.0) in
      (g, sound_of (parse ws) (shaped_parse ws g) (rw parse-header g.limits) (not-not (sound_buckets (parse ws)) c.1.0) (not-not (sound_rest (parse ws)) c.1.1.0))),
  (λ h.
      let t = of_sound (parse ws) h.1 in
      check-number ws ∙ first_clear (check_refusals ws) (to_not-not (good ws) (of_good ws h.0), (to_not-not (sound_buckets (parse ws)) t.0, (to_not-not (sound_rest (parse ws)) t.1, tt)))),
)
