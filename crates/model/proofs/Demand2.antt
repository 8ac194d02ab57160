-- Demand 2: on a wall that the check accepts, an accepted increment raises one count by one and no other, and lookup answers the count.
use mathlib.Core.Logic.{◌≢◌}
use mathlib.Core.Path.{◌≡◌, refl, sym, ap, ◌∙◌, subst, subst₂}
use mathlib.Core.Bool.{true, false, not, ◌&&◌}
use mathlib.Core.List.{List, ◌++◌, map}
use Prim.Native.Nat.{ℕ, ◌+◌, ◌*◌, ◌≤◌, ◌<◌}
use native.Mathlib.Nat.{le_refl, mod-lt}
use native.Mathlib.Omega.{arith}
use lib.Dec.{T, eqb, nleb→lt, eqb_refl, lit<, T_not}
use lib.Arith.{lt_of_le-ne}
use lib.ListN.{length, get_or, length-append, length-map}
use lib.Seq.{get_or-set_same, get_or-set_other}
use Rattle.model.specs.Lists.{one_if, by_mark, concat}
use Rattle.model.specs.Shapes.{rows_of}
use Rattle.model.specs.Walls.{Header, Wall, buckets_in, flows, wall_size, bucket_words, full_words, read_header, flatten, parse, with_totals, slot_of, bucket_of, place_of}
use Rattle.model.specs.Sound.{flag, bucket_at, full_for, counts_at, count}
use Rattle.model.specs.Calls.{Clear, Outcome, first_met, no_room, overflows, bucket_refusals, step_refusals, raised_by, lookup, increment, check}
use Rattle.model.specs.After.{own_after, full_after}
use Rattle.model.proofs.Slots.{slot_inj}
use Rattle.model.proofs.Tools.{by_eq}
use Rattle.model.proofs.Pieces.{length_cat}
use Rattle.model.proofs.Headers.{Good, Limits, of_good, bucket_lt}
use Rattle.model.proofs.Parsing.{Shaped, Coded, coded_of, read_head, head_marked, parse-flatten, offset_fulls, sized_fulls}
use Rattle.model.proofs.SoundWalls.{SoundWall, check_sound, each_sound}
use Rattle.model.proofs.OwnSteps.{length-counts_at}
use Rattle.model.proofs.Steps.{Stepped, step-sound}
use Rattle.model.proofs.Meets.{meets_none}
use Rattle.model.proofs.Refusals.{Named, first_clear, clear_first, answer_no, answer_done}

-- ---- the words of a sound wall are accepted

length-flatten : (v : Wall) → Shaped v → length (flatten v) ≡ wall_size v.header
unfolding flatten
length-flatten v s =
    let lb = offset_fulls v s in
    let lf : length (concat (map full_words v.fulls)) ≡ v.header.full * 65 =
    length_cat 65 (map full_words v.fulls) (sized_fulls v.fulls s.fulls) ∙ ap (λ n. n * 65) (length-map v.fulls full_words ∙ s.fulls-number) in
    omega (arith, length-append (concat (map bucket_words v.buckets)) (concat (map full_words v.fulls)))

read_flatten : (v : Wall) → Coded v.header → read_header (flatten v) ≡ v.header
unfolding flatten
read_flatten v c = read_head v.header (concat (map bucket_words v.buckets) ++ concat (map full_words v.fulls)) c

pub good-flatten : (v : Wall) → Coded v.header → Shaped v → Limits v.header → Good (flatten v)
unfolding flatten
good-flatten v c s l =
    let m = head_marked v.header (concat (map bucket_words v.buckets) ++ concat (map full_words v.fulls)) c.head in
    let j : v.header.full < 65536 = c.fulls.0 in
    let u : v.header.used < 65536 = c.fulls.1.0 in
    record {
      long = omega arith;
      marked = m.0;
      version = m.1;
      exact = length-flatten v s ∙ ap wall_size (sym (read_flatten v c));
      limits = subst Limits (sym (read_flatten v c)) l;
    }

-- the rows are those of the shape number
abbrev pub Tabled : Header → Type 0
Tabled h = h.rows ≡ rows_of h.shape

pub tabled_parse : (ws : List ℕ) → Tabled (parse ws).header
unfolding parse
tabled_parse ws = refl

pub reparsed : (v : Wall) → SoundWall v → Tabled v.header → parse (flatten v) ≡ v
reparsed v s e = parse-flatten v (coded_of v.header s.limits e) s.shaped

pub accepted-flatten : (v : Wall) → SoundWall v → Tabled v.header → (check (flatten v)).number ≡ 0
accepted-flatten v s e = (check_sound (flatten v)).1 (good-flatten v (coded_of v.header s.limits e) s.shaped s.limits, subst SoundWall (sym (reparsed v s e)) s)

-- ---- what an increment asks

module _ (v : Wall) (y : ℕ) (s : SoundWall v) where
  abbrev i : ℕ
  i = bucket_of v.header y

  abbrev a : ℕ
  a = place_of v.header y

  in_wall : i < buckets_in v.header
  in_wall = bucket_lt v.header y s.limits.bits_low

  in_bucket : a < 64
  in_bucket = mod-lt (slot_of v.header y) (lit< tt)

  -- refusals 10 and 12 are not met for d more
  pub record Free (d : ℕ) : Type 0 where
    pub room : v.header.total + d ≤ v.header.limit
    pub spare : flag (bucket_at v i) ≡ 0 → no_room v i a (count v y + d) ≡ true → v.header.used < v.header.full

  lt_of : (m n : ℕ) → m ≤ n → T (not (eqb m n)) → m < n
  lt_of m n h t = lt_of_le-ne h (λ e. T_not (eqb m n) t (subst (λ x. T (eqb m x)) e (eqb_refl m)))

  pub spare_of : (d : ℕ) → T (not (overflows v i a (count v y + d) && eqb v.header.used v.header.full)) → flag (bucket_at v i) ≡ 0 → no_room v i a (count v y + d) ≡ true → v.header.used < v.header.full
  spare_of d c e t = lt_of v.header.used v.header.full s.limits.spare_full (subst₂ (λ m b. T (not (by_mark m b false && eqb v.header.used v.header.full))) e t c)

  pub free_of : Clear (step_refusals v y) → Free 1
  free_of c = record { room = omega (arith, lt_of v.header.total v.header.limit s.limits.within c.0); spare = spare_of 1 c.1.1.0 }

  -- the wall that an increment leaves
  pub more_stepped : (d : ℕ) → 1 ≤ d → Free d → Stepped v i a d (raised_by v y d)
  unfolding count
  more_stepped d p f = step-sound v s i a d in_wall in_bucket p f.room f.spare

-- ---- the counts, by flow

module _ (v v' : Wall) (y d : ℕ) (t : Stepped v (bucket_of v.header y) (place_of v.header y) d v') (l : Limits v.header) where
  reread : (z : ℕ) → count v' z ≡ get_or (counts_at v' (bucket_of v.header z)) (place_of v.header z) 0
  unfolding count
  reread z = ap (λ h. get_or (counts_at v' (bucket_of h z)) (place_of h z) 0) t.header

  pub count-here : count v' y ≡ count v y + d
  unfolding count
  count-here =
      reread y ∙ ap (λ l. get_or l (place_of v.header y) 0) t.here
      ∙ get_or-set_same (counts_at v (bucket_of v.header y)) (place_of v.header y) (count v y + d) 0 (subst (λ n. place_of v.header y < n) (sym (length-counts_at v (bucket_of v.header y))) (mod-lt (slot_of v.header y) (lit< tt)))

  pub count-there : (z : ℕ) → y < flows v.header → z < flows v.header → z ≢ y → count v' z ≡ count v z
  unfolding count
  count-there z hy hz n = reread z ∙ by_eq (bucket_of v.header z) (bucket_of v.header y)
      (λ e. ap (λ k. get_or (counts_at v' k) (place_of v.header z) 0) e ∙ ap (λ l. get_or l (place_of v.header z) 0) t.here
      ∙ get_or-set_other (counts_at v (bucket_of v.header y)) (place_of v.header y) (place_of v.header z) (count v y + d) 0
      (λ p. n (slot_inj v.header.bits v.header.spread l.spread-valid z y hz hy (omega arith)))
      ∙ sym (ap (λ k. get_or (counts_at v k) (place_of v.header z) 0) e))
      (λ e. ap (λ l. get_or l (place_of v.header z) 0) (t.there (bucket_of v.header z) (bucket_lt v.header z l.bits_low) e))

-- ---- demand 2

abbrev pub Accepted : List ℕ → Type 0
Accepted ws = (check ws).number ≡ 0

-- what an accepted increment of flow y by d leaves
pub record RaisedBy (ws : List ℕ) (y d : ℕ) (r : Outcome) : Type 0 where
  pub accepted : Accepted r.words
  pub value : r.value ≡ count (parse ws) y + d
  pub header : (parse r.words).header ≡ with_totals (parse ws).header ((parse ws).header.total + d) (parse r.words).header.used
  pub here : count (parse r.words) y ≡ count (parse ws) y + d
  pub there : (z : ℕ) → z < flows (parse ws).header → z ≢ y → count (parse r.words) z ≡ count (parse ws) z
  pub used : (parse r.words).header.used ≡ (parse ws).header.used + one_if (overflows (parse ws) (bucket_of (parse ws).header y) (place_of (parse ws).header y) (count (parse ws) y + d))
  pub own : bucket_at (parse r.words) (bucket_of (parse ws).header y) ≡ own_after (parse ws) (bucket_of (parse ws).header y) (place_of (parse ws).header y) (count (parse ws) y + d)
  pub own_full : full_for (parse r.words) (bucket_of (parse ws).header y) ≡ full_after (parse ws) (bucket_of (parse ws).header y) (place_of (parse ws).header y) (count (parse ws) y + d)
  pub others : (k : ℕ) → k < buckets_in (parse ws).header → k ≢ bucket_of (parse ws).header y → (bucket_at (parse r.words) k ≡ bucket_at (parse ws) k) × (full_for (parse r.words) k ≡ full_for (parse ws) k)

named : (ws : List ℕ) (y : ℕ) → Named (bucket_refusals ws y ++ step_refusals (parse ws) y)
named ws y = (lit< tt, (lit< tt, (lit< tt, (lit< tt, (lit< tt, (lit< tt, tt))))))

-- the walls that follow one another
pub record Follows (ws : List ℕ) (y : ℕ) (r : Outcome) : Type 0 where
  pub clear : Clear (bucket_refusals ws y ++ step_refusals (parse ws) y)
  pub flow : y < flows (parse ws).header
  pub free : (s : SoundWall (parse ws)) → Free (parse ws) y s 1
  pub same : r ≡ record { number = 0; value = count (parse ws) y + 1; words = flatten (raised_by (parse ws) y 1) }

pub follows : (ws : List ℕ) (y : ℕ) → (increment ws y).number ≡ 0 → Follows ws y (increment ws y)
unfolding increment
follows ws y e =
    let n : ℕ = first_met (bucket_refusals ws y ++ step_refusals (parse ws) y) in
    let z : n ≡ 0 = sym (answer_no (count (parse ws) y + 1) (flatten (raised_by (parse ws) y 1)) ws n) ∙ e in
    let c = clear_first (bucket_refusals ws y ++ step_refusals (parse ws) y) (named ws y) z in
    record {
      clear = c;
      flow = nleb→lt (flows (parse ws).header) y c.1.0;
      free = λ s. free_of (parse ws) y s c.1.1.1;
      same = answer_done (count (parse ws) y + 1) (flatten (raised_by (parse ws) y 1)) ws n z;
    }

pub raises-by : (ws : List ℕ) (y d : ℕ) (s : SoundWall (parse ws)) → 1 ≤ d → y < flows (parse ws).header → Free (parse ws) y s d
    → RaisedBy ws y d (record { number = 0; value = count (parse ws) y + d; words = flatten (raised_by (parse ws) y d) })
unfolding count
raises-by ws y d s p l f =
    let v : Wall = raised_by (parse ws) y d in
    let t = more_stepped (parse ws) y s d p f in
    let b : Tabled v.header = subst Tabled (sym t.header) (tabled_parse ws) in
    let q : parse (flatten v) ≡ v = reparsed v t.sound b in
    record {
      accepted = accepted-flatten v t.sound b;
      value = refl;
      header = ap (λ (v : Wall). v.header) q ∙ t.header ∙ ap (λ (v : Wall). with_totals (parse ws).header ((parse ws).header.total + d) v.header.used) (sym q);
      here = ap (λ v. count v y) q ∙ count-here (parse ws) v y d t s.limits;
      there = λ z h n. ap (λ v. count v z) q ∙ count-there (parse ws) v y d t s.limits z l h n;
      used = ap (λ (v : Wall). v.header.used) q ∙ t.used;
      own = ap (λ (v : Wall). bucket_at v (bucket_of (parse ws).header y)) q ∙ t.own.0;
      own_full = ap (λ (v : Wall). full_for v (bucket_of (parse ws).header y)) q ∙ t.own.1;
      others = λ k h n. (ap (λ (v : Wall). bucket_at v k) q ∙ (t.others k h n).0, ap (λ (v : Wall). full_for v k) q ∙ (t.others k h n).1);
    }

pub increment-raises : (ws : List ℕ) (y : ℕ) → Accepted ws → (increment ws y).number ≡ 0 → RaisedBy ws y 1 (increment ws y)
increment-raises ws y ok e =
    let f = follows ws y e in
    let s = ((check_sound ws).0 ok).1 in
    subst (RaisedBy ws y 1) (sym f.same) (raises-by ws y 1 s (le_refl 1) f.flow (f.free s))

-- on an accepted wall none of 7, 8 and 9 is met for a flow of the wall
pub own_clear : (ws : List ℕ) (y : ℕ) → Accepted ws → y < flows (parse ws).header → Clear (bucket_refusals ws y)
own_clear ws y ok h =
    let a = (check_sound ws).0 ok in
    meets_none ws y (of_good ws a.0) h (each_sound ws ok (bucket_of (parse ws).header y) (bucket_lt (parse ws).header y a.1.limits.bits_low))

pub lookup-count : (ws : List ℕ) (y : ℕ) → Accepted ws → y < flows (parse ws).header → lookup ws y ≡ record { number = 0; value = count (parse ws) y; words = ws }
unfolding lookup
lookup-count ws y ok h = answer_done (count (parse ws) y) ws ws (first_met (bucket_refusals ws y)) (first_clear (bucket_refusals ws y) (own_clear ws y ok h))
