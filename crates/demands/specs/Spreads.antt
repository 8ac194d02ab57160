-- Request 2: each spread gives every slot to exactly one flow, a wall carries its spread on, and any other number is refused.
use Rattle.std.specs.Prelude.{◌↔◌, ◌≢◌, ◌⊎◌, ◌≡◌, not, List, ℕ, ◌/◌, ◌%◌, ◌^◌, ◌≤◌, ◌<◌, T, get_or}
use Rattle.model.specs.Slots.{slot, valid_spread}
use Rattle.model.specs.Walls.{flows, good, read_header, parse}
use Rattle.model.specs.Calls.{Ask, raise, close, lookup, increment, check}
use Rattle.model.specs.BusyLists.{busy}

-- exactly one flow stands at slot s
pub record OneFlow (b m s : ℕ) : Type 0 where
  pub flow : ℕ
  pub known : flow < 2 ^ b
  pub there : slot b m flow ≡ s
  pub alone : (y : ℕ) → y < 2 ^ b → slot b m y ≡ s → y ≡ flow

-- a spread that gives the flow of a slot of spread m
pub record Undone (b m : ℕ) : Type 0 where
  pub by : ℕ
  pub valid : T (valid_spread b by)
  pub back : (y : ℕ) → y < 2 ^ b → slot b by (slot b m y) ≡ y

-- every call on the words but raise answers 7
pub record Foreign (ws : List ℕ) : Type 0 where
  pub lookups : (y : ℕ) → (lookup ws y).number ≡ 7
  pub increments : (y : ℕ) → (increment ws y).number ≡ 7
  pub checks : (check ws).number ≡ 7
  pub lists : (floor : ℕ) (list : List ℕ) → (busy ws floor list).number ≡ 7
  pub closes : (close ws).number ≡ 7

pub record Spreads : Type 0 where
  pub one_flow : (b m s : ℕ) → T (valid_spread b m) → s < 2 ^ b → OneFlow b m s
  -- so in every wall of a good header
  pub in_wall : (ws : List ℕ) → T (good ws) → (s : ℕ) → s < flows (read_header ws) → OneFlow (read_header ws).bits (read_header ws).spread s
  pub undone : (b m : ℕ) → T (valid_spread b m) → Undone b m
  -- at an odd spread two flows that are alike in their low six bits, or in more of them, share no bucket
  pub apart : (b m y z : ℕ) → 6 ≤ b → T (valid_spread b m) → m ≢ 0 → y < 2 ^ b → z < 2 ^ b → y % 64 ≡ z % 64 → y ≢ z → slot b m y / 64 ≢ slot b m z / 64
  -- spread 1 leaves each flow at its own number
  pub identity : (b y : ℕ) → y < 2 ^ b → slot b 1 y ≡ y
  -- what is refused is even and not 0, or too large: 15 in raise and in the slot call (demand 1: their lists), 7 in a header
  pub refused : (b m : ℕ) → T (not (valid_spread b m)) ↔ ((m ≢ 0) × ((m % 2 ≡ 0) ⊎ (2 ^ b ≤ m)))
  pub foreign : (ws : List ℕ) → T (not (valid_spread (read_header ws).bits (read_header ws).spread)) → Foreign ws
  -- it stands in bits 32 to 63 of word 3, as raise was asked, and close and every increment leave it there
  pub word : (ws : List ℕ) → (parse ws).header.spread ≡ get_or ws 3 0 / 2 ^ 32
  pub raised : (a : Ask) (ws : List ℕ) → (raise a ws).number ≡ 0 → (parse (raise a ws).words).header.spread ≡ a.spread
  pub closed : (ws : List ℕ) → (close ws).number ≡ 0 → (parse (close ws).words).header.spread ≡ (parse ws).header.spread
  pub incremented : (ws : List ℕ) (y : ℕ) → (increment ws y).number ≡ 0 → (parse (increment ws y).words).header.spread ≡ (parse ws).header.spread
