-- Demand 2.
use mathlib.Core.Path.{◌≡◌, sym, ap, ◌∙◌}
use mathlib.Core.List.{List, ◌++◌}
use Prim.Native.Nat.{ℕ, ◌+◌, ◌<◌}
use lib.Dec.{lit<}
use Rattle.model.specs.Walls.{Wall, buckets_in, with_totals, flatten, parse}
use Rattle.model.specs.Sound.{count}
use Rattle.model.specs.Calls.{Clear, Outcome, first_met, bucket_refusals, step_refusals, raised_by, lookup, increment}
use Rattle.model.proofs.Lists.{below_at}
use Rattle.model.proofs.Parsing.{flatten-parse}
use Rattle.model.proofs.SoundWalls.{check_sound}
use Rattle.model.proofs.Refusals.{first_clear, answer_done}
use Rattle.model.proofs.Demand2.{increment-raises, lookup-count}
use Rattle.demands.specs.DemandTwo.{Accepted, Words, Raised, Laid, Alike, Agree, DemandTwo}
use Rattle.demands.proofs.Own.{own-raised}
use Rattle.demands.proofs.Laid.{number-none, words-below, first_below, full-below, plain-counts, in_both, counts_alike, laid_of, walls_alike}

laid : (ws : List ℕ) → Words ws → Accepted ws → (i : ℕ) → i < buckets_in (parse ws).header → Laid (parse ws) i
laid ws h ok i li = laid_of (parse ws) ((check_sound ws).0 ok).1 i li (first_below ws h i li)

-- the words of an accepted wall are those that its wall is written as
back : (ws : List ℕ) → Words ws → Accepted ws → flatten (parse ws) ≡ ws
back ws h ok = flatten-parse ws ((check_sound ws).0 ok).0 (below_at ws 0 (lit< tt) (words-below ws h))

determined : (ws us : List ℕ) → Words ws → Words us → Accepted ws → Accepted us → Agree ws us → ws ≡ us
determined ws us h k ok good a =
    sym (back ws h ok)
    ∙ ap flatten (walls_alike (parse ws) (parse us) ((check_sound ws).0 ok).1 ((check_sound us).0 good).1 a.header (first_below ws h) (first_below us k) (full-below ws h) (full-below us k)
    a.numbers a.own a.counts)
    ∙ back us k good

-- walls without flags agree in all where they count alike
agree_plain : (ws us : List ℕ) → Accepted ws → Accepted us → Alike ws us → Agree ws us
agree_plain ws us ok good a =
    let v : Wall = parse ws in
    let u : Wall = parse us in
    let s = ((check_sound ws).0 ok).1 in
    let r = ((check_sound us).0 good).1 in
    let both = in_both v u s r a.header a.counts in
    record {
      header = a.header;
      numbers = λ i l. number-none (s.each i l) (a.plain i l).0 ∙ sym (number-none (r.each i (both i l)) (a.plain i l).1);
      own = λ i l. sym (plain-counts v i (a.plain i l).0) ∙ counts_alike v u s r a.header a.counts i l ∙ plain-counts u i (a.plain i l).1;
      counts = a.counts;
    }

raises : (ws : List ℕ) (y : ℕ) → Accepted ws → (increment ws y).number ≡ 0 → Raised ws y (increment ws y)
raises ws y ok e =
    let r = increment-raises ws y ok e in
    record {
      value = r.value;
      here = r.here;
      there = r.there;
      header = r.header ∙ ap (with_totals (parse ws).header ((parse ws).header.total + 1)) r.used;
      accepted = r.accepted;
      own = r.own;
      own_full = r.own_full;
      others = r.others;
    }

own_reads : (ws : List ℕ) (y : ℕ) → Clear (bucket_refusals ws y) → lookup ws y ≡ record { number = 0; value = count (parse ws) y; words = ws }
unfolding lookup
own_reads ws y c = answer_done (count (parse ws) y) ws ws (first_met (bucket_refusals ws y)) (first_clear (bucket_refusals ws y) c)

own_raises : (ws : List ℕ) (y : ℕ) → Clear (bucket_refusals ws y ++ step_refusals (parse ws) y)
    → ((increment ws y).number ≡ 0) × ((increment ws y).value ≡ count (parse ws) y + 1) × (count (parse (increment ws y).words) y ≡ count (parse ws) y + 1)
    × (parse (increment ws y).words ≡ raised_by (parse ws) y 1)
unfolding increment
own_raises ws y c =
    let rs = bucket_refusals ws y ++ step_refusals (parse ws) y in
    let e = answer_done (count (parse ws) y + 1) (flatten (raised_by (parse ws) y 1)) ws (first_met rs) (first_clear rs c) in (
      ap (λ (r : Outcome). r.number) e,
      ap (λ (r : Outcome). r.value) e,
      ap (λ (r : Outcome). count (parse r.words) y) e ∙ (own-raised ws y c).1,
      ap (λ (r : Outcome). parse r.words) e ∙ (own-raised ws y c).0,
    )

pub demand_two : DemandTwo
demand_two = record {
  reads = lookup-count;
  raises = raises;
  laid = laid;
  same_words = λ ws us h k ok good a. determined ws us h k ok good (agree_plain ws us ok good a);
  determined = determined;
  own_reads = own_reads;
  own_raises = own_raises;
}
