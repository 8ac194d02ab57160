-- Demand 3: from a fresh wall, what a list of increments comes to is said of the list alone, whatever its order.
use Rattle.std.specs.Prelude.{◌≢◌, ◌↔◌, ◌≡◌, List, [], ◌∷◌, ◌++◌, ℕ, ◌≤◌, ◌<◌, length}
use Rattle.model.specs.Lists.{one_if}
use Rattle.model.specs.Levels.{crowded}
use Rattle.model.specs.Walls.{Header, flows, buckets_in, with_totals, read_header, parse}
use Rattle.model.specs.Sound.{flag, bucket_at, counts_at, count}
use Rattle.model.specs.Need.{Needed}
use Rattle.model.specs.Calls.{Ask, asked, raise, close, increment}
use Rattle.model.specs.Runs.{run, listed, slots, tallies, crowded_buckets}
use Rattle.demands.specs.DemandTwo.{Accepted}

-- every one of the flows is below n
abbrev pub Flows : ℕ → List ℕ → Type 0
Flows n [] = Unit {0}
Flows n (y ∷ ys) = (y < n) × Flows n ys

-- one list is a rearrangement of the other
pub data Rearranged : List ℕ → List ℕ → Type 0 where
  none : Rearranged [] []
  skip : {x : ℕ} {xs ys : List ℕ} → Rearranged xs ys → Rearranged (x ∷ xs) (x ∷ ys)
  swap : {x y : ℕ} {xs : List ℕ} → Rearranged (x ∷ y ∷ xs) (y ∷ x ∷ xs)
  then : {xs ys zs : List ℕ} → Rearranged xs ys → Rearranged ys zs → Rearranged xs zs

-- after an accepted list every flow's count is the number of its listings, the total is the length, U is the number of crowded buckets,
-- and a bucket is flagged exactly where its counts are crowded, and never without need; the check accepts the wall
pub record After (h : Header) (ys ws : List ℕ) : Type 0 where
  pub counts : (y : ℕ) → y < flows h → count (parse ws) y ≡ listed y ys
  pub header : (parse ws).header ≡ with_totals h (length ys) (crowded_buckets h ys)
  pub flags : (i : ℕ) → i < buckets_in h → flag (bucket_at (parse ws) i) ≡ one_if (crowded h.width h.rows (tallies i (slots h ys)))
  -- the counts of a bucket are the listings of its places
  pub tallied : (i : ℕ) → i < buckets_in h → counts_at (parse ws) i ≡ tallies i (slots h ys)
  pub needed : (i : ℕ) → i < buckets_in h → flag (bucket_at (parse ws) i) ≡ 1 → Needed (parse ws) i
  pub accepted : Accepted ws

-- the same counts, crowded buckets, total and U
pub record Ends (h : Header) (ws us : List ℕ) : Type 0 where
  pub counts : (y : ℕ) → y < flows h → count (parse ws) y ≡ count (parse us) y
  pub header : (parse ws).header ≡ (parse us).header
  pub flags : (i : ℕ) → i < buckets_in h → flag (bucket_at (parse ws) i) ≡ flag (bucket_at (parse us) i)

-- the number of the next increment: 10 exactly where the total is M, else 12 exactly where the counts after it crowd more than J buckets, else 0
pub record Next (total M crowds J n : ℕ) : Type 0 where
  pub ten : (n ≡ 10) ↔ (total ≡ M)
  pub twelve : (n ≡ 12) ↔ ((total ≢ M) × (J < crowds))
  pub zero : (n ≡ 0) ↔ ((total ≢ M) × (crowds ≤ J))
  pub only : (n ≢ 0) → (n ≢ 10) → n ≡ 12

-- from the words ws of a fresh wall of the header h
pub record Listed (h : Header) (ws : List ℕ) : Type 0 where
  -- (a) a list is accepted throughout exactly where its length is at most M and its listings crowd at most J buckets
  pub accepted : (ys : List ℕ) → Flows (flows h) ys → ((run ws ys).number ≡ 0) ↔ ((length ys ≤ h.limit) × (crowded_buckets h ys ≤ h.full))
  -- (b) if one order is accepted every order is, and every prefix
  pub orders : (xs ys : List ℕ) → Flows (flows h) xs → Flows (flows h) ys → ((y : ℕ) → y < flows h → listed y xs ≡ listed y ys) → (run ws xs).number ≡ 0 → (run ws ys).number ≡ 0
  pub prefixes : (xs ys : List ℕ) → (run ws (xs ++ ys)).number ≡ 0 → (run ws xs).number ≡ 0
  -- an accepted list has known flows only, so every rearrangement of it is accepted too, and ends alike
  pub known : (ys : List ℕ) → (run ws ys).number ≡ 0 → Flows (flows h) ys
  pub any_order : (xs ys : List ℕ) → Rearranged xs ys → (run ws xs).number ≡ 0 → ((run ws ys).number ≡ 0) × Ends h (run ws xs).words (run ws ys).words
  -- (c)
  pub after : (ys : List ℕ) → Flows (flows h) ys → (run ws ys).number ≡ 0 → After h ys (run ws ys).words
  -- (d)
  pub ends : (xs ys : List ℕ) → Flows (flows h) xs → Flows (flows h) ys → ((y : ℕ) → y < flows h → listed y xs ≡ listed y ys) → (run ws xs).number ≡ 0 → Ends h (run ws xs).words (run ws ys).words
  -- (e)
  pub next : (ys : List ℕ) → Flows (flows h) ys → (run ws ys).number ≡ 0 → (y : ℕ) → y < flows h → Next (length ys) h.limit (crowded_buckets h (y ∷ ys)) h.full (increment (run ws ys).words y).number

pub record DemandThree : Type 0 where
  pub raised : (a : Ask) (ws : List ℕ) → (raise a ws).number ≡ 0 → Listed (asked a) (raise a ws).words
  pub closed : (ws : List ℕ) → (close ws).number ≡ 0 → Listed (read_header ws) (close ws).words
  -- a rearrangement lists each flow equally often
  pub rearranged : (xs ys : List ℕ) → Rearranged xs ys → (y : ℕ) → listed y xs ≡ listed y ys
