-- Demand 3: a fresh wall and a list of flows. What is accepted, and what is held then, is said of the list alone, whatever its order.
use mathlib.Core.Logic.{◌↔◌}
use mathlib.Core.Path.{◌≡◌, refl, sym, ap, ap₂, ◌∙◌, subst}
use mathlib.Core.List.{List, [], ◌∷◌, reverse_aux}
use Prim.Native.Nat.{ℕ, zero, suc, ◌+◌, ◌*◌, ◌/◌, ◌%◌, ◌≤◌, ◌<◌}
use native.Mathlib.Nat.{le_refl, mod-lt}
use native.Mathlib.Decide.{dec_lt}
use native.Mathlib.Omega.{arith}
use lib.Dec.{T, ltb, eqb, eqb_refl, lit<, nltb→le, T_not}
use lib.Arith.{le→nltb}
use lib.ListN.{length, get_or, length-map}
use Rattle.model.specs.Lists.{sum, one_if, by_mark}
use Rattle.model.specs.Levels.{crowded}
use Rattle.model.specs.Slots.{valid_spread}
use Rattle.model.specs.Walls.{Header, Wall, buckets_in, flows, slot_of, bucket_of, place_of, parse, with_totals, fresh}
use Rattle.model.specs.Sound.{flag, bucket_at, counts_at, count}
use Rattle.model.specs.Calls.{Outcome, Refusal, refuse, first_met, bucket_refusals, raised_by, increment}
use Rattle.model.specs.Runs.{listed, run, tallies, crowded_after, slots, crowded_buckets}
use Rattle.model.proofs.Lists.{Below, get_or_tab}
use Rattle.model.proofs.Crowding.{T_true}
use Rattle.model.proofs.Order.{Throughout, Within, accepted-within, crowded_of-listed, sum-listed, whole_length, whole_listed, crowded-zero}
use Rattle.model.proofs.Slots.{slot_lt, slot_inj, undoing, slot-flow}
use Rattle.model.proofs.Tools.{by_eq}
use Rattle.model.proofs.Headers.{Limits, bucket_lt, flow_at}
use Rattle.model.proofs.Sums.{tab_ext}
use Rattle.model.specs.Need.{Needed}
use Rattle.model.proofs.Steps.{eqb-false}
use Rattle.model.proofs.Refusals.{first_clear, clear_first, first-skip}
use Rattle.model.proofs.Demand2.{Accepted, follows, Tabled, tabled_parse, reparsed, accepted-flatten, own_clear}
use Rattle.model.proofs.Eleven.{step_alone, eleven_drops, eqb-not}
use Rattle.model.proofs.Fresh.{fresh_wall, fresh-flatten, fresh-sound, fresh-counts, fresh-flag}
use Rattle.model.proofs.Reached.{Reached, reached_used, reached_crowds, reached_next}

-- ---- one increment of the words

pub record On (h : Header) (xs : List ℕ) (ws : List ℕ) : Type 0 where
  pub accepted : Accepted ws
  pub reached : Reached h xs (parse ws)

-- the refusals of the next flow, said of the slots xs so far and its slot x
abbrev pub next_refusals : Header → ℕ → List ℕ → List Refusal
next_refusals h x xs = refuse 10 (eqb (length xs) h.limit) ∷ refuse 12 (ltb h.full (crowded_after h (x ∷ xs))) ∷ []

module _ (h : Header) (xs ws : List ℕ) (o : On h xs ws) (y : ℕ) (ly : y < flows h) where
  abbrev g : Header
  g = (parse ws).header

  flow_of : y < flows g
  flow_of = subst (λ (k : Header). y < flows k) (sym o.reached.header) ly

  pub next-number : (increment ws y).number ≡ first_met (next_refusals h (slot_of h y) xs)
  next-number =
      eleven_drops ws y ∙ first-skip (bucket_refusals ws y) (step_alone (parse ws) y) (own_clear ws y o.accepted flow_of)
      ∙ ap₂ (λ p q. first_met (refuse 10 p ∷ refuse 12 q ∷ []))
      (ap (λ (k : Header). eqb k.total k.limit) o.reached.header)
      (reached_crowds h xs (parse ws) o.reached y 1)

  pub next_on : (increment ws y).number ≡ 0 → On h (slot_of h y ∷ xs) (increment ws y).words
  next_on e =
      let f = follows ws y e in
      let r = reached_next h xs (parse ws) o.reached y 1 (le_refl 1) (f.free o.reached.sound) in
      let k : Tabled h = subst Tabled o.reached.header (tabled_parse ws) in
      let b : Tabled (raised_by (parse ws) y 1).header = subst Tabled (sym r.header) k in
      subst (λ (a : Outcome). On h (slot_of h y ∷ xs) a.words) (sym f.same) (record {
        accepted = accepted-flatten (raised_by (parse ws) y 1) r.sound b;
        reached = subst (Reached h (slot_of h y ∷ xs)) (sym (reparsed (raised_by (parse ws) y 1) r.sound b)) r;
      })

  so_far : length xs ≤ h.limit
  so_far = subst (λ (k : Header). k.total ≤ k.limit) o.reached.header o.reached.sound.limits.within

  abbrev Room : List ℕ → Type 0
  Room l = Within 64 (buckets_in h) h.width h.rows h.limit h.full l

  pub next-within : ((increment ws y).number ≡ 0) ↔ Room (slot_of h y ∷ xs)
  next-within = (
    (λ e.
        let c = clear_first (next_refusals h (slot_of h y) xs) (lit< tt, (lit< tt, tt)) (sym next-number ∙ e) in (
          by_eq (length xs) h.limit
              (λ q. absurd (T_not (eqb (length xs) h.limit) c.0 (subst (λ n. T (eqb (length xs) n)) q (eqb_refl (length xs)))))
              (λ q. omega (arith, so_far)),
          nltb→le h.full (crowded_after h (slot_of h y ∷ xs)) c.1.0,
        )),
    (λ w. next-number ∙ first_clear (next_refusals h (slot_of h y) xs) (eqb-not (length xs) h.limit w.0, (le→nltb h.full (crowded_after h (slot_of h y ∷ xs)) w.1, tt))),
  )

-- ---- a run

pub run_on : (ws : List ℕ) (y : ℕ) (ys : List ℕ) → (increment ws y).number ≡ 0 → run ws (y ∷ ys) ≡ run (increment ws y).words ys
unfolding run
run_on ws y ys e = ap (λ n. by_mark n (run (increment ws y).words ys) (record { number = (increment ws y).number; value = 0; words = (increment ws y).words })) e

pub run-first : (ws : List ℕ) (y : ℕ) (ys : List ℕ) → (run ws (y ∷ ys)).number ≡ 0 → (increment ws y).number ≡ 0
unfolding run
run-first ws y ys e = go (increment ws y).number refl e
  where
    go : (n : ℕ) → (increment ws y).number ≡ n → (by_mark n (run (increment ws y).words ys) (record { number = (increment ws y).number; value = 0; words = (increment ws y).words })).number ≡ 0 → (increment ws y).number ≡ 0
    go zero q e = q
    go (suc n) q e = e

module _ (h : Header) where
  abbrev pub Fit : List ℕ → Type 0
  Fit l = Within 64 (buckets_in h) h.width h.rows h.limit h.full l

  pub run_allowed : (ys xs ws : List ℕ) → On h xs ws → Below (flows h) ys → (run ws ys).number ≡ 0 → Throughout Fit xs (slots h ys)
  run_allowed [] xs ws o b e = tt
  run_allowed (y ∷ ys) xs ws o b e =
      let z = run-first ws y ys e in
      ((next-within h xs ws o y b.0).0 z, run_allowed ys (slot_of h y ∷ xs) (increment ws y).words (next_on h xs ws o y b.0 z) b.1 (sym (ap (λ (a : Outcome). a.number) (run_on ws y ys z)) ∙ e))

  pub allowed_run : (ys xs ws : List ℕ) → On h xs ws → Below (flows h) ys → Throughout Fit xs (slots h ys) → (run ws ys).number ≡ 0
  unfolding run
  allowed_run [] xs ws o b t = refl
  allowed_run (y ∷ ys) xs ws o b t =
      let z = (next-within h xs ws o y b.0).1 t.0 in
      ap (λ (a : Outcome). a.number) (run_on ws y ys z) ∙ allowed_run ys (slot_of h y ∷ xs) (increment ws y).words (next_on h xs ws o y b.0 z) b.1 t.1

  pub run_reaches : (ys xs ws : List ℕ) → On h xs ws → Below (flows h) ys → (run ws ys).number ≡ 0 → On h (reverse_aux (slots h ys) xs) (run ws ys).words
  unfolding run
  run_reaches [] xs ws o b e = o
  run_reaches (y ∷ ys) xs ws o b e =
      let z = run-first ws y ys e in
      let q = run_on ws y ys z in
      subst (λ (a : Outcome). On h (reverse_aux (slots h ys) (slot_of h y ∷ xs)) a.words) (sym q)
      (run_reaches ys (slot_of h y ∷ xs) (increment ws y).words (next_on h xs ws o y b.0 z) b.1 (sym (ap (λ (a : Outcome). a.number) q) ∙ e))

-- ---- listings by flow and by slot

module _ (h : Header) (v : T (valid_spread h.bits h.spread)) where
  pub listed-slots : (y : ℕ) (ys : List ℕ) → y < flows h → Below (flows h) ys → listed (slot_of h y) (slots h ys) ≡ listed y ys
  listed-slots y [] l b = refl
  listed-slots y (z ∷ ys) l b =
      ap₂ ◌+◌ (by_eq y z
      (λ e. ap one_if (sym (T_true (eqb (slot_of h y) (slot_of h z)) (subst (λ x. T (eqb (slot_of h y) (slot_of h x))) e (eqb_refl (slot_of h y)))) ∙ T_true (eqb y z) (subst (λ x. T (eqb y x)) e (eqb_refl y))))
      (λ n. ap one_if (eqb-false (slot_of h y) (slot_of h z) (λ e. n (slot_inj h.bits h.spread v y z l b.0 e)) ∙ sym (eqb-false y z n))))
      (listed-slots y ys l b.1)

  none-listed : (s : ℕ) (xs : List ℕ) → flows h ≤ s → listed s (slots h xs) ≡ 0
  none-listed s [] l = refl
  none-listed s (x ∷ xs) l = ap₂ ◌+◌ (ap one_if (eqb-false s (slot_of h x) (λ e. omega (arith, slot_lt h.bits h.spread x)))) (none-listed s xs l)

  -- flows listed equally often stand on slots listed equally often
  pub same_slots : (xs ys : List ℕ) → Below (flows h) xs → Below (flows h) ys → ((y : ℕ) → y < flows h → listed y xs ≡ listed y ys)
      → (s : ℕ) → listed s (slots h xs) ≡ listed s (slots h ys)
  same_slots xs ys hx hy f s = go (dec_lt s (flows h))
    where
      at : (y : ℕ) (zs : List ℕ) → Below (flows h) zs → y < flows h → slot_of h y ≡ s → listed s (slots h zs) ≡ listed y zs
      at y zs hz l e = ap (λ x. listed x (slots h zs)) (sym e) ∙ listed-slots y zs l hz

      go : Dec (s < flows h) → listed s (slots h xs) ≡ listed s (slots h ys)
      go (yes l) =
          let y : ℕ = flow_at h s in
          let k : y < flows h = slot_lt h.bits (undoing h.bits h.spread) s in
          let e : slot_of h y ≡ s = slot-flow h.bits h.spread s v l in
          at y xs hx k e ∙ f y k ∙ sym (at y ys hy k e)
      go (no n) = none-listed s xs (omega arith) ∙ sym (none-listed s ys (omega arith))

-- ---- from a fresh wall

-- what is held after the flows ys
pub record After (h : Header) (ys : List ℕ) (ws : List ℕ) : Type 0 where
  pub accepted : Accepted ws
  pub header : (parse ws).header ≡ with_totals h (length ys) (crowded_buckets h ys)
  pub counts : (y : ℕ) → y < flows h → count (parse ws) y ≡ listed y ys
  pub tallied : (k : ℕ) → k < buckets_in h → counts_at (parse ws) k ≡ tallies k (slots h ys)
  pub flags : (k : ℕ) → k < buckets_in h → flag (bucket_at (parse ws) k) ≡ one_if (crowded h.width h.rows (tallies k (slots h ys)))
  pub needed : (k : ℕ) → k < buckets_in h → flag (bucket_at (parse ws) k) ≡ 1 → Needed (parse ws) k

-- two walls with the same counts, total, U and flags
pub record Same (h : Header) (ws vs : List ℕ) : Type 0 where
  pub header : (parse ws).header ≡ (parse vs).header
  pub counts : (y : ℕ) → y < flows h → count (parse ws) y ≡ count (parse vs) y
  pub flags : (k : ℕ) → k < buckets_in h → flag (bucket_at (parse ws) k) ≡ flag (bucket_at (parse vs) k)

module _ (h : Header) (l : Limits (with_totals h 0 0)) (k : Tabled h) where
  pub fresh_on : On h [] (fresh h)
  unfolding fresh_wall
  fresh_on =
      let s = fresh-sound h l in
      let r : Reached h [] (fresh_wall h) = record {
        sound = s;
        header = refl;
        counts = λ k _. fresh-counts h k;
        flags = λ k _. fresh-flag h k ∙ ap one_if (sym (crowded-zero 64 h.width h.rows));
        needed = λ k _ e. absurd (omega (arith, e, fresh-flag h k));
      } in
      subst (On h []) (fresh-flatten h) (record { accepted = accepted-flatten (fresh_wall h) s k; reached = subst (Reached h []) (sym (reparsed (fresh_wall h) s k)) r })

  -- (i) a list is accepted throughout exactly where its length is within M and the buckets that it crowds are within J
  pub accepted-list : (ys : List ℕ) → Below (flows h) ys → ((run (fresh h) ys).number ≡ 0) ↔ ((length ys ≤ h.limit) × (crowded_buckets h ys ≤ h.full))
  accepted-list ys b =
      let w = accepted-within 64 (buckets_in h) h.width h.rows h.limit h.full (slots h ys) in (
        (λ e. let t = w.0 (run_allowed h ys [] (fresh h) fresh_on b e) in (rw length-map at t.0, t.1)),
        (λ t. allowed_run h ys [] (fresh h) fresh_on b (w.1 (rw length-map t.0, t.1))),
      )

  rev_listed : (ys : List ℕ) (s : ℕ) → listed s (reverse_aux (slots h ys) []) ≡ listed s (slots h ys)
  rev_listed ys s = whole_listed 64 (buckets_in h) h.width h.rows h.limit h.full (slots h ys) s

  rev_crowded : (ys : List ℕ) → crowded_after h (reverse_aux (slots h ys) []) ≡ crowded_buckets h ys
  rev_crowded ys = crowded_of-listed 64 (buckets_in h) h.width h.rows (reverse_aux (slots h ys) []) (slots h ys) (rev_listed ys)

  rev_length : (ys : List ℕ) → length (reverse_aux (slots h ys) []) ≡ length ys
  rev_length ys = whole_length 64 (buckets_in h) h.width h.rows h.limit h.full (slots h ys) ∙ length-map ys (slot_of h)

  rev_tally : (ys : List ℕ) (k : ℕ) → tallies k (reverse_aux (slots h ys) []) ≡ tallies k (slots h ys)
  rev_tally ys k = tab_ext 64 (λ a. listed (k * 64 + a) (reverse_aux (slots h ys) [])) (λ a. listed (k * 64 + a) (slots h ys)) (λ a _. rev_listed ys (k * 64 + a))

  -- (ii) after an accepted list each flow's count is its number of listings, the total the length, U the number of crowded buckets, and just those are flagged
  pub after_on : (ys ws : List ℕ) → Below (flows h) ys → On h (reverse_aux (slots h ys) []) ws → After h ys ws
  unfolding count
  after_on ys ws b o =
      let r = o.reached in
      let v : Wall = parse ws in
      record {
        accepted = o.accepted;
        header = r.header ∙ ap₂ (with_totals h) (rev_length ys) (reached_used h (reverse_aux (slots h ys) []) v r ∙ rev_crowded ys);
        counts = λ y m.
            let x : ℕ = slot_of h y in
            ap (λ g. get_or (counts_at v (bucket_of g y)) (place_of g y) 0) r.header
            ∙ ap (λ c. get_or c (x % 64) 0) (r.counts (x / 64) (bucket_lt h y l.bits_low) ∙ rev_tally ys (x / 64))
            ∙ get_or_tab 64 (λ a. listed (x / 64 * 64 + a) (slots h ys)) (x % 64) (mod-lt x (lit< tt))
            ∙ ap (λ s. listed s (slots h ys)) (at_slot x) ∙ listed-slots h l.spread-valid y ys m b;
        tallied = λ k m. r.counts k m ∙ rev_tally ys k;
        flags = λ k m. r.flags k m ∙ ap (λ c. one_if (crowded h.width h.rows c)) (rev_tally ys k);
        needed = λ k m. r.needed k (subst (λ (g : Header). k < buckets_in g) (sym r.header) m);
      }
    where
      at_slot : (x : ℕ) → x / 64 * 64 + x % 64 ≡ x
      at_slot x = omega arith

  pub after_list : (ys : List ℕ) → Below (flows h) ys → (run (fresh h) ys).number ≡ 0 → After h ys (run (fresh h) ys).words
  after_list ys b e = after_on ys (run (fresh h) ys).words b (run_reaches h ys [] (fresh h) fresh_on b e)

  -- (iii) two lists that list each flow equally often are accepted alike, and crowd as many buckets
  module _ (xs ys : List ℕ) (bx : Below (flows h) xs) (by : Below (flows h) ys) (f : (y : ℕ) → y < flows h → listed y xs ≡ listed y ys) where
    pub same_length : length xs ≡ length ys
    same_length = sym (sum-listed (flows h) xs bx) ∙ ap sum (tab_ext (flows h) (λ s. listed s xs) (λ s. listed s ys) f) ∙ sum-listed (flows h) ys by

    pub same_crowded : crowded_buckets h xs ≡ crowded_buckets h ys
    same_crowded = crowded_of-listed 64 (buckets_in h) h.width h.rows (slots h xs) (slots h ys) (same_slots h l.spread-valid xs ys bx by f)

    pub accepted_alike : (run (fresh h) xs).number ≡ 0 → (run (fresh h) ys).number ≡ 0
    accepted_alike e = let w = (accepted-list xs bx).0 e in (accepted-list ys by).1 (rw (← same_length) w.0, rw (← same_crowded) w.1)

    pub same_tally : (k : ℕ) → tallies k (slots h xs) ≡ tallies k (slots h ys)
    same_tally k = tab_ext 64 (λ a. listed (k * 64 + a) (slots h xs)) (λ a. listed (k * 64 + a) (slots h ys)) (λ a _. same_slots h l.spread-valid xs ys bx by f (k * 64 + a))

    -- and end with the same counts, total, U and flags
    pub ends_alike : (run (fresh h) xs).number ≡ 0 → Same h (run (fresh h) xs).words (run (fresh h) ys).words
    ends_alike e =
        let p = after_list xs bx e in
        let q = after_list ys by (accepted_alike e) in
        record {
          header = p.header ∙ ap₂ (with_totals h) same_length same_crowded ∙ sym q.header;
          counts = λ y m. p.counts y m ∙ f y m ∙ sym (q.counts y m);
          flags = λ k m. p.flags k m ∙ ap (λ c. one_if (crowded h.width h.rows c)) (same_tally k) ∙ sym (q.flags k m);
        }

  -- (iv) after an accepted list the next increment's number: 10 where the length is M, else 12 where the list with it crowds more than J buckets, else 0
  pub next-after : (ys : List ℕ) → Below (flows h) ys → (run (fresh h) ys).number ≡ 0 → (y : ℕ) → y < flows h
      → (increment (run (fresh h) ys).words y).number ≡ first_met (refuse 10 (eqb (length ys) h.limit) ∷ refuse 12 (ltb h.full (crowded_buckets h (y ∷ ys))) ∷ [])
  next-after ys b e y m =
      next-number h (reverse_aux (slots h ys) []) (run (fresh h) ys).words (run_reaches h ys [] (fresh h) fresh_on b e) y m
      ∙ ap₂ (λ n c. first_met (refuse 10 (eqb n h.limit) ∷ refuse 12 (ltb h.full c) ∷ [])) (rev_length ys)
      (crowded_of-listed 64 (buckets_in h) h.width h.rows (slot_of h y ∷ reverse_aux (slots h ys) []) (slots h (y ∷ ys)) (λ s. ap (λ n. one_if (eqb s (slot_of h y)) + n) (rev_listed ys s)))
