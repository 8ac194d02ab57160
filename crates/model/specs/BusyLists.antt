-- The busy list: every flow whose count is at least a floor, in rising flow number, in a lent list.
use Rattle.std.specs.Prelude.{List, [], ◌∷◌, ◌++◌, ℕ, zero, suc, ◌*◌, leb, ltb, length, drop}
use Rattle.model.specs.Lists.{choose}
use Rattle.model.specs.Walls.{Wall, flows, parse}
use Rattle.model.specs.Sound.{count}
use Rattle.model.specs.Calls.{Outcome, Refusal, refuse, first_met, outcome, check_refusals}

-- of the n flows from y on, those whose count by c is at least the floor
abbrev pub busy_from : (ℕ → ℕ) → ℕ → ℕ → ℕ → List ℕ
busy_from c floor y zero = []
busy_from c floor y (suc n) = choose (leb floor (c y)) (y ∷ busy_from c floor (suc y) n) (busy_from c floor (suc y) n)

-- of all flows of a wall
abbrev pub busy_flows : Wall → ℕ → List ℕ
busy_flows v floor = busy_from (count v) floor 0 (flows v.header)

-- two words for each, flow then count
abbrev pub entries : (ℕ → ℕ) → List ℕ → List ℕ
entries c [] = []
entries c (y ∷ ys) = y ∷ c y ∷ entries c ys

-- the lent list with these from its start, every other word of it as it was
abbrev pub written : (ℕ → ℕ) → List ℕ → List ℕ → List ℕ
written c ys list = entries c ys ++ drop (2 * length ys) list

-- the check's, then that the entries need more words than were lent
abbrev pub busy_refusals : List ℕ → ℕ → List ℕ → List Refusal
busy_refusals ws floor list = check_refusals ws ++ refuse 14 (ltb (length list) (2 * length (busy_flows (parse ws) floor))) ∷ []

-- the outcome of a call that is lent a list beside the wall: the words of the wall, and of the list
pub record Listing : Type 0 where
  pub number : ℕ
  pub value : ℕ
  pub words : List ℕ
  pub list : List ℕ

-- with the wall's words, of the outcome of the list
abbrev pub listing : List ℕ → Outcome → Listing
listing ws o = record { number = o.number; value = o.value; words = ws; list = o.words }

-- the value is how many flows are listed; the wall is only read
unfoldable pub busy : List ℕ → ℕ → List ℕ → Listing
busy ws floor list =
    let ys : List ℕ = busy_flows (parse ws) floor in
    listing ws (outcome (first_met (busy_refusals ws floor list)) (length ys) (written (count (parse ws)) ys list) list)
