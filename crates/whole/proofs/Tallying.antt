-- One bucket more is passed, and all of them.
use mathlib.Core.Logic.{◌≢◌}
use mathlib.Core.Path.{◌≡◌, refl, sym, ap, ap₂, ◌∙◌, subst}
use mathlib.Core.Bool.{not}
use mathlib.Core.List.{List}
use Prim.Native.Nat.{ℕ, zero, suc, ◌+◌, ◌-◌, ◌*◌, ◌/◌, ◌%◌, ◌^◌, ◌≤◌, ◌<◌}
use native.Mathlib.Nat.{mul-le-mul_right, suc-mul, zero-div}
use native.Mathlib.Omega.{arith}
use lib.Dec.{T, lit<}
use lib.Pow.{pow_mono}
use lib.ListN.{get_or, replicate}
use Rattle.model.specs.Lists.{sum, tabulate}
use Rattle.model.specs.Levels.{sign}
use Rattle.model.specs.Packed.{bit}
use Rattle.model.specs.Walls.{Bucket, Header, Wall, buckets_in, parse}
use Rattle.model.specs.Sound.{bucket_at, counts_at, flag, full_for, full_number, holds_number, sound_at}
use Rattle.model.proofs.Sums.{sum-zero, tab_ext}
use Rattle.model.proofs.Tools.{by_eq}
use Rattle.model.proofs.Buckets.{SoundB, bucket_facts, flag_le}
use Rattle.model.proofs.OwnSteps.{number_lt}
use Rattle.model.proofs.Steps.{holds_none, holds_one}
use Rattle.layout.specs.declared.Wall as layout
use Rattle.layout.specs.Views.{header_of}
use Rattle.std.specs.Prelude.{Option, Some, None}
use Rattle.uppers.specs.Judge.{verdict}
use Rattle.uppers.proofs.Verdicts.{said-not, said-sound}
use Rattle.whole.specs.declared.Tally.{Tally}
use Rattle.header.specs.Headers.{Open}
use Rattle.whole.specs.Check.{Noted, Passed, Seen, holders_to, seen_at}
use Rattle.header.proofs.Places.{count_end_most, open_header, open_known, open_limits}
use Rattle.whole.proofs.Holding.{one_first, one_more, sign-here, sum-last, sum-within}

-- ---- none

zero-at : (n i : ℕ) → ◌≡◌ {A = ℕ} (get_or (replicate n 0) i 0) 0
zero-at zero i = refl
zero-at (suc n) zero = refl
zero-at (suc n) (suc i) = zero-at n i

none_seen : (n q : ℕ) → seen_at (replicate n 0) q ≡ 0
none_seen n q = ap (λ x. bit x (q % 64)) (zero-at n (q / 64)) ∙ ap (λ x. x % 2) (zero-div (2 ^ (q % 64)))

pub seen_none : (v : Wall) → Seen v 0 (replicate 64 0)
unfolding holders_to
seen_none v = record { bitmap = record { long = refl; words = λ i. rw (zero-at 64 i) (lit< tt) }; bits = λ q l. none_seen 64 q }

pub passed_none : (v : Wall) → Passed v 0 (record { sum = 0; flagged = 0; again = 0 })
unfolding holders_to
passed_none v = record {
  sound = λ k l. absurd (omega arith);
  counts = refl;
  flags = sym (sum-zero v.header.used (λ q. 0) (λ q l. refl));
  firsts = omega (arith, sum-zero v.header.used (λ q. 0) (λ q l. refl));
  few = omega arith;
}

-- ---- bucket i of a wall

module _ (v : Wall) (i : ℕ) where
  facts : T (sound_at v i) → SoundB v.header.width v.header.rows v.header.total v.header.used (bucket_at v i) (full_for v i)
  unfolding sound_at
  facts s = bucket_facts v.header.width v.header.rows v.header.total v.header.used (bucket_at v i) (full_for v i) s

  most : T (sound_at v i) → sum (counts_at v i) ≤ v.header.total
  unfolding counts_at
  most s = (facts s).most

  number_in : T (sound_at v i) → flag (bucket_at v i) ≡ 1 → full_number (bucket_at v i) < v.header.used
  number_in s e = number_lt (facts s) (omega arith)

  next : (q : ℕ) → holders_to v (i + 1) q ≡ holders_to v i q + holds_number q (bucket_at v i)
  unfolding holders_to
  next q = sum-last i (λ k. holds_number q (bucket_at v k))

-- the flag is one bit
flag_one : (b : Bucket) → (flag b ≡ 0 → ⊥) → flag b ≡ 1
flag_one b f = go (flag b) (flag_le b) f
  where
    go : (m : ℕ) → m ≤ 1 → (m ≡ 0 → ⊥) → m ≡ 1
    go zero l f = absurd (f refl)
    go (suc zero) l f = refl
    go (suc (suc m)) l f = absurd (omega arith)

-- what the code found of it: the verdict r, which is sound with the sum c
module _ (v : Wall) (i : ℕ) (r : Option ℕ) (c : ℕ) (w : r ≡ verdict (sound_at v i) (sum (counts_at v i))) (is : r ≡ Some c) where
  told-sound : T (sound_at v i)
  told-sound = subst T (sym (said-sound (sound_at v i) (sum (counts_at v i)) (sym w ∙ is)).0) tt

  told-sum : c ≡ sum (counts_at v i)
  told-sum = sym (said-sound (sound_at v i) (sum (counts_at v i)) (sym w ∙ is)).1

pub told-not : (v : Wall) (i : ℕ) (r : Option ℕ) → r ≡ verdict (sound_at v i) (sum (counts_at v i)) → r ≡ None → T (not (sound_at v i))
told-not v i r w h = subst (λ b. T (not b)) (sym (said-not (sound_at v i) (sum (counts_at v i)) (sym w ∙ h))) tt

-- and its packed word n
module _ (v : Wall) (i n : ℕ) (k : n ≡ (bucket_at v i).packed) where
  clear : n / 2 ^ 40 % 2 ≡ 0 → flag (bucket_at v i) ≡ 0
  clear f = ap (λ x. x / 2 ^ 40 % 2) (sym k) ∙ f

  flagged : (n / 2 ^ 40 % 2 ≡ 0 → ⊥) → flag (bucket_at v i) ≡ 1
  flagged f = flag_one (bucket_at v i) (λ z. f (ap (λ x. x / 2 ^ 40 % 2) k ∙ z))

module _ (v : Wall) (i : ℕ) (t : Tally) (p : Passed v i t) (r : Option ℕ) (c : ℕ) (w : r ≡ verdict (sound_at v i) (sum (counts_at v i))) (is : r ≡ Some c) where
  s : T (sound_at v i)
  s = told-sound v i r c w is

  pub sum_fits : i < 65536 → v.header.total < 2 ^ 47 → t.sum + c < 2 ^ 64
  sum_fits l b =
      let a : sum (tabulate i (λ k. sum (counts_at v k))) ≤ i * v.header.total = sum-within i v.header.total (λ k. sum (counts_at v k)) (λ k l. most v k (p.sound k l)) in
      let d : suc i * v.header.total ≤ 65536 * v.header.total = mul-le-mul_right v.header.total l in
      omega (arith, p.counts, told-sum v i r c w is, most v i s, suc-mul i v.header.total)

  sounds : (k : ℕ) → k < i + 1 → T (sound_at v k)
  sounds k l = by_eq k i (λ q. subst (λ j. T (sound_at v j)) (sym q) s) (λ z. p.sound k (omega arith))

  adds : t.sum + c ≡ sum (tabulate (i + 1) (λ k. sum (counts_at v k)))
  adds = ap₂ (λ a b. a + b) p.counts (told-sum v i r c w is) ∙ sym (sum-last i (λ k. sum (counts_at v k)))

  -- it has no flag
  module _ (n : ℕ) (k : n ≡ (bucket_at v i).packed) (f : n / 2 ^ 40 % 2 ≡ 0) where
    same : (q : ℕ) → holders_to v (i + 1) q ≡ holders_to v i q
    same q = let z = clear v i n k f in omega (arith, next v i q, holds_none q (bucket_at v i) (λ h. absurd (omega arith)))

    pub passed_plain : Passed v (i + 1) (record { sum = t.sum + c; flagged = t.flagged; again = t.again })
    passed_plain = record {
      sound = sounds;
      counts = adds;
      flags = p.flags ∙ ap sum (tab_ext v.header.used (holders_to v i) (holders_to v (i + 1)) (λ q l. sym (same q)));
      firsts = ap (λ x. t.again + sum x) (tab_ext v.header.used (λ q. sign (holders_to v (i + 1) q)) (λ q. sign (holders_to v i q)) (λ q l. ap sign (same q))) ∙ p.firsts;
      few = omega (arith, p.few);
    }

    pub seen_plain : (seen : List ℕ) → Seen v i seen → Seen v (i + 1) seen
    seen_plain seen h = record { bitmap = h.bitmap; bits = λ q l. h.bits q l ∙ ap sign (sym (same q)) }

  -- it has one, and holds the number of the word m
  module _ (m : ℕ) (k : m ≡ (bucket_at v i).packed) (f : m / 2 ^ 40 % 2 ≡ 0 → ⊥) (seen : List ℕ) (h : Seen v i seen) where
    abbrev n : ℕ
    n = m / 2 ^ 48

    holds : n ≡ full_number (bucket_at v i)
    holds = ap (λ x. x / 2 ^ 48) k

    low : n < v.header.used
    low = omega (arith, number_in v i s (flagged v i m k f), holds)

    more : holders_to v (i + 1) n ≡ holders_to v i n + 1
    more = let g = flagged v i m k f in omega (arith, next v i n, holds_one n (bucket_at v i) (omega arith) (sym holds))

    others : (q : ℕ) → q ≢ n → holders_to v (i + 1) q ≡ holders_to v i q
    others q z = omega (arith, next v i q, holds_none q (bucket_at v i) (λ k d. z (sym d ∙ sym holds)))

    pub passed_flagged : (a : ℕ) → a ≡ seen_at seen n → Passed v (i + 1) (record { sum = t.sum + c; flagged = t.flagged + 1; again = t.again + a })
    passed_flagged a ea = record {
      sound = sounds;
      counts = adds;
      flags = omega (arith, p.flags, one_more v.header.used n (holders_to v i) (holders_to v (i + 1)) low more others);
      firsts = omega (arith, p.firsts, ea ∙ h.bits n low, one_first v.header.used n (holders_to v i) (holders_to v (i + 1)) low more others);
      few = omega (arith, p.few);
    }

    pub seen_flagged : (after : List ℕ) → Noted seen after n → Seen v (i + 1) after
    seen_flagged after d = record {
      bitmap = d.bitmap;
      bits = λ q l. by_eq q n
          (λ k. subst (λ q. seen_at after q ≡ sign (holders_to v (i + 1) q)) (sym k) (d.here ∙ sym (sign-here v.header.used n (holders_to v i) (holders_to v (i + 1)) low more others)))
          (λ z. d.other q z ∙ h.bits q l ∙ ap sign (sym (others q z)));
    }

-- at most as many come second as there are
pub again_few : (v : Wall) (i : ℕ) (t : Tally) → Passed v i t → t.again ≤ i
again_few v i t p = omega (arith, p.firsts, p.few)

-- ---- a wall that is open

module _ (ws : List ℕ) (v : layout.Wall) (o : Open ws v) where
  pub bucket-few : (i : ℕ) → i < buckets_in (header_of v) → i < 65536
  bucket-few i l = let b : v.bits - 6 ≤ 16 = omega (arith, (open_known ws v o).bits_high) in omega (arith, pow_mono b)

  pub total_small : (parse ws).header.total < 2 ^ 47
  total_small =
      let l = open_limits ws v o in
      subst (λ (h : Header). h.total < 2 ^ 47) (open_header ws v o) (omega (arith, l.within, l.limit-high, count_end_most ws v o))

  -- the number that a flagged bucket holds is one of a full-size bucket
  pub number-few : (i n c : ℕ) (r : Option ℕ) → r ≡ verdict (sound_at (parse ws) i) (sum (counts_at (parse ws) i)) → r ≡ Some c
      → n ≡ (bucket_at (parse ws) i).packed → (n / 2 ^ 40 % 2 ≡ 0 → ⊥) → n / 2 ^ 48 < 4096
  number-few i n c r w h k f =
      let l = open_limits ws v o in
      let m = number_in (parse ws) i (told-sound (parse ws) i r c w h) (flagged (parse ws) i n k f) in
      omega (arith, k, m, ap (λ (h : Header). h.used) (open_header ws v o), l.spare_full, l.full_most)
