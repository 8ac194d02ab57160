-- The busy list is complete, exact and in order, or refused.
use Rattle.std.specs.Prelude.{◌↔◌, ◌≡◌, List, ℕ, ◌+◌, ◌*◌, ◌/◌, ◌≤◌, ◌<◌, leb, length}
use Rattle.model.specs.Lists.{one_if, sum, tabulate}
use Rattle.model.specs.Walls.{Wall, flows, word_at, parse}
use Rattle.model.specs.Sound.{count}
use Rattle.model.specs.Calls.{check, lookup}
use Rattle.model.specs.BusyLists.{Listing, busy}
use Rattle.demands.specs.DemandTwo.{Accepted}

-- how many flows of a wall count at least the floor
abbrev pub how_many : Wall → ℕ → ℕ
how_many v floor = sum (tabulate (flows v.header) (λ y. one_if (leb floor (count v y))))

-- entry i of a list, two words
abbrev pub flow_at : List ℕ → ℕ → ℕ
flow_at list i = word_at list (2 * i)

abbrev pub count_at : List ℕ → ℕ → ℕ
count_at list i = word_at list (2 * i + 1)

-- flow y is that of one of the first k entries
abbrev pub Entered : List ℕ → ℕ → ℕ → Type 0
Entered list k y = (i : ℕ) × (i < k) × (flow_at list i ≡ y)

-- what an accepted call leaves in a list
pub record Filled (ws : List ℕ) (floor : ℕ) (list : List ℕ) (r : Listing) : Type 0 where
  -- an entry for each flow to list, in rising flow number, so that none stands there twice
  pub value : r.value ≡ how_many (parse ws) floor
  pub rising : (i j : ℕ) → i < j → j < r.value → flow_at r.list i < flow_at r.list j
  -- a flow is listed exactly where it is below N and its count is at least the floor
  pub exactly : (y : ℕ) → Entered r.list r.value y ↔ ((y < flows (parse ws).header) × (floor ≤ count (parse ws) y))
  -- the count listed is the count that lookup answers
  pub counts : (i : ℕ) → i < r.value → lookup ws (flow_at r.list i) ≡ record { number = 0; value = count_at r.list i; words = ws }
  -- the words after the last entry are as they were
  pub rest : (i : ℕ) → 2 * r.value ≤ i → word_at r.list i ≡ word_at list i
  pub long : length r.list ≡ length list

pub record BusyList : Type 0 where
  pub listed : (ws : List ℕ) (floor : ℕ) (list : List ℕ) → (busy ws floor list).number ≡ 0 → Filled ws floor list (busy ws floor list)
  -- 7, 9 and 13 as in the check, then 14 exactly where the flows to list need more words than were lent
  pub as_check : (ws : List ℕ) (floor : ℕ) (list : List ℕ) → 0 < (check ws).number → (busy ws floor list).number ≡ (check ws).number
  pub short : (ws : List ℕ) (floor : ℕ) (list : List ℕ) → ((busy ws floor list).number ≡ 14) ↔ (Accepted ws × (length list < 2 * how_many (parse ws) floor))
  pub done : (ws : List ℕ) (floor : ℕ) (list : List ℕ) → ((busy ws floor list).number ≡ 0) ↔ (Accepted ws × (2 * how_many (parse ws) floor ≤ length list))
  -- the wall's words are never changed
  pub kept : (ws : List ℕ) (floor : ℕ) (list : List ℕ) → (busy ws floor list).words ≡ ws
  -- floor 0 lists all N flows; a floor above every count answers 0 and 0 flows and leaves the list
  pub all : (ws : List ℕ) (list : List ℕ) → Accepted ws → 2 * flows (parse ws).header ≤ length list → ((busy ws 0 list).number ≡ 0) × ((busy ws 0 list).value ≡ flows (parse ws).header)
  -- from floor 1 up, room for as many entries as the floor goes into the total is always enough
  pub enough : (ws : List ℕ) (floor : ℕ) (list : List ℕ) → Accepted ws → 1 ≤ floor → 2 * ((parse ws).header.total / floor) ≤ length list → (busy ws floor list).number ≡ 0
  pub none : (ws : List ℕ) (floor : ℕ) (list : List ℕ) → Accepted ws → ((y : ℕ) → y < flows (parse ws).header → count (parse ws) y < floor)
      → busy ws floor list ≡ record { number = 0; value = 0; words = ws; list = list }
