-- The busy list: the flows listed by their index, the words that hold them, and the call's three outcomes.
use mathlib.Core.Logic.{◌≢◌, ◌↔◌}
use mathlib.Core.Path.{◌≡◌, refl, sym, ap, ◌∙◌, subst}
use mathlib.Core.Bool.{Bool, true, false}
use mathlib.Core.List.{List, [], ◌∷◌, ◌++◌}
use Prim.Native.Nat.{ℕ, zero, suc, ◌+◌, ◌*◌, ◌-◌, ◌/◌, ◌≤◌, ◌<◌, zero-le}
use native.Mathlib.Nat.{le-div_iff_mul-le, le_refl, lt_trans, zero-lt-suc, le_of_suc-le-suc, not-suc-le-zero}
use native.Mathlib.Decide.{dec_lt}
use native.Mathlib.Omega.{arith}
use lib.Dec.{T, leb, leb→le, le→leb, leb-zero}
use lib.Arith.{lt→nleb}
use lib.ListN.{length, get_or, drop}
use lib.Seq.{length-take-le, length_front, get_or-append-add, get_or-drop}
use Rattle.model.specs.Lists.{one_if, choose, sum, tabulate}
use Rattle.model.specs.Walls.{flows, word_at, parse}
use Rattle.model.specs.Sound.{count}
use Rattle.model.specs.Calls.{check, check_refusals}
use Rattle.model.specs.BusyLists.{Listing, busy_from, busy_flows, entries, written, busy}
use Rattle.model.proofs.Tools.{by_eq}
use Rattle.model.proofs.Sums.{sum-zero}
use Rattle.model.proofs.Crowding.{T_false}
use Rattle.model.proofs.Refusals.{first-apart}
use Rattle.model.proofs.SoundWalls.{check-number, check_sound}
use Rattle.model.proofs.Demand2.{lookup-count}
use Rattle.model.proofs.BusyLists.{length-busy, length-entries, busy-refused, busy_short, busy-done}
use Rattle.demands.specs.DemandTwo.{Accepted}
use Rattle.demands.proofs.Totals.{within-total}
use Rattle.demands.specs.BusyList.{how_many, flow_at, count_at, Filled, BusyList}

-- ---- the flows listed

module _ (c : ℕ → ℕ) (floor : ℕ) where
  abbrev from : ℕ → ℕ → List ℕ
  from y n = busy_from c floor y n

  -- flow x is to be listed: one of the n flows from y on, whose count is at least the floor
  abbrev Busy : ℕ → ℕ → ℕ → Type 0
  Busy y n x = (y ≤ x) × (x < y + n) × (floor ≤ c x)

  abbrev AllBusy : ℕ → ℕ → List ℕ → Type 0
  AllBusy y n ys = (i : ℕ) → i < length ys → Busy y n (get_or ys i 0)

  busy-from : (y n : ℕ) → AllBusy y n (from y n)
  busy-from y zero = λ i h. absurd (not-suc-le-zero h)
  busy-from y (suc n) = go (leb floor (c y)) (leb→le floor (c y)) (from (suc y) n) (busy-from (suc y) n)
    where
      later : (x : ℕ) → Busy (suc y) n x → Busy y (suc n) x
      later x b = (omega (arith, b.0), omega (arith, b.1), b.2)

      go : (b : Bool) → (T b → floor ≤ c y) → (ys : List ℕ) → AllBusy (suc y) n ys → AllBusy y (suc n) (choose b (y ∷ ys) ys)
      go true f ys a zero h = (le_refl y, omega arith, f tt)
      go true f ys a (suc i) h = later (get_or ys i 0) (a i (le_of_suc-le-suc h))
      go false f ys a i h = later (get_or ys i 0) (a i h)

  abbrev Rising : List ℕ → Type 0
  Rising ys = (i j : ℕ) → i < j → j < length ys → get_or ys i 0 < get_or ys j 0

  rising_from : (y n : ℕ) → Rising (from y n)
  rising_from y zero = λ i j l h. absurd (not-suc-le-zero h)
  rising_from y (suc n) = go (leb floor (c y)) (from (suc y) n) (busy-from (suc y) n) (rising_from (suc y) n)
    where
      go : (b : Bool) (ys : List ℕ) → AllBusy (suc y) n ys → Rising ys → Rising (choose b (y ∷ ys) ys)
      go true ys a r i zero l h = absurd (not-suc-le-zero l)
      go true ys a r zero (suc j) l h = (a j (le_of_suc-le-suc h)).0
      go true ys a r (suc i) (suc j) l h = r i j (le_of_suc-le-suc l) (le_of_suc-le-suc h)
      go false ys a r i j l h = r i j l h

  abbrev In : ℕ → List ℕ → Type 0
  In x ys = (i : ℕ) × (i < length ys) × (get_or ys i 0 ≡ x)

  in_from : (x y n : ℕ) → Busy y n x → In x (from y n)
  in_from x y zero b = absurd (omega (arith, b.0, b.1))
  in_from x y (suc n) b =
      by_eq x y (λ e. here (leb floor (c y)) (le→leb floor (c y) (subst (λ z. floor ≤ c z) e b.2)) (from (suc y) n) e)
      (λ z. there (leb floor (c y)) (from (suc y) n) (in_from x (suc y) n (omega (arith, b.0), omega (arith, b.1), b.2)))
    where
      here : (b : Bool) → T b → (ys : List ℕ) → x ≡ y → In x (choose b (y ∷ ys) ys)
      here true t ys e = (0, zero-lt-suc (length ys), sym e)
      here false t ys e = absurd t

      there : (b : Bool) (ys : List ℕ) → In x ys → In x (choose b (y ∷ ys) ys)
      there true ys m = (suc m.0, omega (arith, m.1), m.2)
      there false ys m = m

all_of : (n : ℕ) (c : ℕ → ℕ) → sum (tabulate n (λ y. one_if (leb 0 (c y)))) ≡ n
all_of zero c = refl
all_of (suc n) c = omega (arith, ap one_if (leb-zero (c 0)), all_of n (λ y. c (suc y)))

-- ---- the words

module _ (c : ℕ → ℕ) where
  entry_at : (ys us : List ℕ) (i : ℕ) → i < length ys → (flow_at (entries c ys ++ us) i ≡ get_or ys i 0) × (count_at (entries c ys ++ us) i ≡ c (get_or ys i 0))
  entry_at [] us i h = absurd (not-suc-le-zero h)
  entry_at (y ∷ ys) us zero h = (refl, refl)
  entry_at (y ∷ ys) us (suc i) h = let e = entry_at ys us i (le_of_suc-le-suc h) in (at (2 * suc i) (2 * i) (omega arith) ∙ e.0, at (2 * suc i + 1) (2 * i + 1) (omega arith) ∙ e.1)
    where
      at : (j k : ℕ) → j ≡ suc (suc k) → word_at (y ∷ c y ∷ (entries c ys ++ us)) j ≡ word_at (entries c ys ++ us) k
      at j k e = ap (word_at (y ∷ c y ∷ (entries c ys ++ us))) e

  rest_at : (ys list : List ℕ) (i : ℕ) → 2 * length ys ≤ i → word_at (written c ys list) i ≡ word_at list i
  rest_at ys list i h =
      let j : ℕ = i - 2 * length ys in
      ap (word_at (written c ys list)) (omega (arith, length-entries c ys)) ∙ get_or-append-add (entries c ys) (drop (2 * length ys) list) j 0
      ∙ get_or-drop (2 * length ys) list j 0 ∙ ap (word_at list) (omega arith)

  length-written : (ys list : List ℕ) → 2 * length ys ≤ length list → length (written c ys list) ≡ length list
  length-written ys list h = length_front list (entries c ys) (2 * length ys) (length-entries c ys ∙ sym (length-take-le (2 * length ys) list h))

-- ---- the call

module _ (ws : List ℕ) (floor : ℕ) (list : List ℕ) where
  abbrev c : ℕ → ℕ
  c = count (parse ws)

  abbrev n : ℕ
  n = flows (parse ws).header

  abbrev ys : List ℕ
  ys = busy_flows (parse ws) floor

  abbrev refused : ℕ → Listing
  refused m = record { number = m; value = 0; words = ws; list = list }

  abbrev done : Listing
  done = record { number = 0; value = length ys; words = ws; list = written c ys list }

  many : length ys ≡ how_many (parse ws) floor
  many = length-busy (parse ws) floor

  -- what holds of each outcome holds of the call
  by-outcome : (P : Listing → Type 0) → ((m : ℕ) → 0 < m → (check ws).number ≡ m → P (refused m)) → (Accepted ws → length list < 2 * length ys → P (refused 14))
      → (Accepted ws → 2 * length ys ≤ length list → P done) → P (busy ws floor list)
  by-outcome P r s d = go (check ws).number refl (dec_lt (length list) (2 * length ys))
    where
      go : (m : ℕ) → (check ws).number ≡ m → Dec (length list < 2 * length ys) → P (busy ws floor list)
      go zero e (yes l) = subst P (busy_short ws floor list e l) (s e l)
      go zero e (no l) = subst P (busy-done ws floor list e (omega arith)) (d e (omega arith))
      go (suc m) e l = subst P (busy-refused ws floor list (suc m) (zero-lt-suc m) e) (r (suc m) (zero-lt-suc m) e)

  never_fourteen : (check ws).number ≢ 14
  never_fourteen e = first-apart 14 (check_refusals ws) ((λ z. omega arith), ((λ z. omega arith), ((λ z. omega arith), (λ z. omega arith)))) (sym (check-number ws) ∙ e)

  short : ((busy ws floor list).number ≡ 14) ↔ (Accepted ws × (length list < 2 * how_many (parse ws) floor))
  short = (
    by-outcome (λ (r : Listing). r.number ≡ 14 → Accepted ws × (length list < 2 * how_many (parse ws) floor))
        (λ m l e q. absurd (never_fourteen (e ∙ q)))
        (λ ok l q. (ok, omega (arith, many)))
        (λ ok l q. absurd (omega arith)),
    (λ h. sym (ap (λ (r : Listing). r.number) (busy_short ws floor list h.0 (omega (arith, many, h.1))))),
  )

  accepted : ((busy ws floor list).number ≡ 0) ↔ (Accepted ws × (2 * how_many (parse ws) floor ≤ length list))
  accepted = (
    by-outcome (λ (r : Listing). r.number ≡ 0 → Accepted ws × (2 * how_many (parse ws) floor ≤ length list))
        (λ m l e q. absurd (omega arith))
        (λ ok l q. absurd (omega arith))
        (λ ok l q. (ok, omega (arith, many))),
    (λ h. sym (ap (λ (r : Listing). r.number) (busy-done ws floor list h.0 (omega (arith, many, h.1))))),
  )

  -- entry i holds the flow at index i and its count
  held : (i : ℕ) → i < length ys → (flow_at done.list i ≡ get_or ys i 0) × (count_at done.list i ≡ c (get_or ys i 0))
  held = entry_at c ys (drop (2 * length ys) list)

  listed-done : Accepted ws → 2 * length ys ≤ length list → Filled ws floor list done
  listed-done ok h = record {
    value = many;
    rising = λ i j l m. rw ((held i (lt_trans l m)).0, (held j m).0) (rising_from c floor 0 n i j l m);
    exactly = λ y. (
      (λ e. let b = busy-from c floor 0 n e.0 e.1 in subst (λ x. (x < n) × (floor ≤ c x)) (sym (held e.0 e.1).0 ∙ e.2) (omega (arith, b.1), b.2)),
      (λ b. let e = in_from c floor y 0 n (zero-le, omega (arith, b.0), b.1) in (e.0, e.1, (held e.0 e.1).0 ∙ e.2)),
    );
    counts = λ i l. rw ((held i l).0, (held i l).1) (lookup-count ws (get_or ys i 0) ok (omega (arith, (busy-from c floor 0 n i l).1)));
    rest = rest_at c ys list;
    long = length-written c ys list h;
  }

  listed : (busy ws floor list).number ≡ 0 → Filled ws floor list (busy ws floor list)
  listed = by-outcome (λ (r : Listing). r.number ≡ 0 → Filled ws floor list r) (λ m l e q. absurd (omega arith)) (λ ok l q. absurd (omega arith)) (λ ok l q. listed-done ok l)

  none : Accepted ws → ((y : ℕ) → y < n → c y < floor) → busy ws floor list ≡ refused 0
  none ok f =
      let e : length ys ≡ 0 = many ∙ sum-zero n (λ y. one_if (leb floor (c y))) (λ y l. ap one_if (sym (T_false (leb floor (c y)) (lt→nleb floor (c y) (f y l))))) in
      sym (busy-done ws floor list ok (omega (arith, e))) ∙ go ys e
    where
      go : (ys : List ℕ) → length ys ≡ 0 → record { number = 0; value = length ys; words = ws; list = written c ys list } ≡ refused 0
      go [] e = refl
      go (y ∷ ys) e = absurd (omega arith)

  kept : (busy ws floor list).words ≡ ws
  unfolding busy
  kept = refl

every-flow : (ws list : List ℕ) → Accepted ws → 2 * flows (parse ws).header ≤ length list → ((busy ws 0 list).number ≡ 0) × ((busy ws 0 list).value ≡ flows (parse ws).header)
every-flow ws list ok h =
    let e = all_of (flows (parse ws).header) (count (parse ws)) in
    let d = (accepted ws 0 list).1 (ok, omega (arith, e)) in
    (d, (listed ws 0 list d).value ∙ e)

long-enough : (ws : List ℕ) (floor : ℕ) (list : List ℕ) → Accepted ws → 1 ≤ floor → 2 * ((parse ws).header.total / floor) ≤ length list → (busy ws floor list).number ≡ 0
long-enough ws floor list ok l h =
    let m : how_many (parse ws) floor ≤ (parse ws).header.total / floor = (le-div_iff_mul-le l).1 (within-total (parse ws) ((check_sound ws).0 ok).1 floor) in
    (accepted ws floor list).1 (ok, omega (arith, m))

pub busy-list : BusyList
busy-list = record {
  listed = listed;
  as_check = λ ws floor list h. sym (ap (λ (r : Listing). r.number) (busy-refused ws floor list (check ws).number h refl));
  short = short;
  done = accepted;
  kept = kept;
  all = every-flow;
  enough = long-enough;
  none = none;
}
