-- Demand 1: every call, on any words and any arguments, has an outcome; its number is that of the first refusal of the call's list
-- that is met, and 0 where none is; a number other than 0 comes with the value 0 and leaves the words as they were, 0 with the call's value and words.
use Rattle.std.specs.Prelude.{◌↔◌, ◌≡◌, List, ◌∷◌, ◌++◌, ℕ, ◌+◌, ◌*◌, ◌<◌, not, T, length, take, drop}
use Rattle.model.specs.Packed.{pack}
use Rattle.model.specs.Shapes.{rows_of, width_asked, counter_bits}
use Rattle.model.specs.Slots.{slot}
use Rattle.model.specs.Walls.{Wall, buckets_in, read_header, flatten, parse, fresh}
use Rattle.model.specs.Sound.{count, sound_at}
use Rattle.model.specs.Calls.{Refusal, Clear, Reply, Outcome, slot_refusals, slot_call, limits_refusals, limits_call, image_refusals, image_call, Ask, ask, asked, raise_refusals, raise, close_refusals, close, bucket_refusals, step_refusals, raised_by, lookup, increment, check_refusals, check}
use Rattle.model.specs.BusyLists.{Listing, busy_flows, written, busy_refusals, busy}

-- n is given exactly where it is the first number of the list to be met; 0 exactly where none is
pub record Numbered (rs : List Refusal) (n : ℕ) : Type 0 where
  pub done : (n ≡ 0) ↔ Clear rs
  pub first : (before : List Refusal) (r : Refusal) (after : List Refusal) → rs ≡ before ++ r ∷ after → (n ≡ r.number) ↔ (Clear before × T r.met)

-- a call on numbers or bytes, whose value is v where it is done
pub record Replies (rs : List Refusal) (v : ℕ) (r : Reply) : Type 0 where
  pub number : Numbered rs r.number
  pub value : 0 < r.number → r.value ≡ 0
  pub done : r.number ≡ 0 → r.value ≡ v

-- a call on words, whose value is v and which leaves the words us where it is done
pub record Answers (rs : List Refusal) (v : ℕ) (us ws : List ℕ) (r : Outcome) : Type 0 where
  pub number : Numbered rs r.number
  pub value : 0 < r.number → r.value ≡ 0
  pub words : 0 < r.number → r.words ≡ ws
  pub done : r.number ≡ 0 → (r.value ≡ v) × (r.words ≡ us)

-- of a call that is lent a list, the outcome of the list
abbrev pub of_list : Listing → Outcome
of_list r = record { number = r.number; value = r.value; words = r.list }

-- bucket i is not sound, and all before it are
pub record LowestUnsound (v : Wall) (i : ℕ) : Type 0 where
  pub within : i < buckets_in v.header
  pub unsound : T (not (sound_at v i))
  pub before : (k : ℕ) → k < i → T (sound_at v k)

-- the check never changes a word; its 9 comes with the lowest unsound bucket, any other number with 0
pub record Checks (ws : List ℕ) (r : Outcome) : Type 0 where
  pub number : Numbered (check_refusals ws) r.number
  pub words : r.words ≡ ws
  pub nine : r.number ≡ 9 → LowestUnsound (parse ws) r.value
  pub other : (r.number ≡ 9 → ⊥) → r.value ≡ 0

pub record DemandOne : Type 0 where
  pub slot_calls : (b m y : ℕ) → Replies (slot_refusals b m y) (slot b m y) (slot_call b m y)
  pub limits_calls : (p w : ℕ) → Replies (limits_refusals p w) (counter_bits (width_asked w) (rows_of p)) (limits_call p w)
  pub image_calls : (bytes : List ℕ) (n : ℕ) → Replies (image_refusals bytes n) (pack 8 (take 8 (drop (8 * n) bytes))) (image_call bytes n)
  pub raise_calls : (a : Ask) (ws : List ℕ) → Answers (raise_refusals a ws) 0 (fresh (asked a)) ws (raise a ws)
  pub close_calls : (ws : List ℕ) → Answers (close_refusals ws) 0 (fresh (read_header ws)) ws (close ws)
  pub lookup_calls : (ws : List ℕ) (y : ℕ) → Answers (bucket_refusals ws y) (count (parse ws) y) ws ws (lookup ws y)
  pub increment_calls : (ws : List ℕ) (y : ℕ) → Answers (bucket_refusals ws y ++ step_refusals (parse ws) y) (count (parse ws) y + 1) (flatten (raised_by (parse ws) y 1)) ws (increment ws y)
  pub check_calls : (ws : List ℕ) → Checks ws (check ws)
  pub busy_calls : (ws : List ℕ) (floor : ℕ) (list : List ℕ) → Answers (busy_refusals ws floor list) (length (busy_flows (parse ws) floor)) (written (count (parse ws)) (busy_flows (parse ws) floor) list) list (of_list (busy ws floor list))
  -- width 0 asks for 7
  pub default : (p b l j m : ℕ) (ws : List ℕ) → (raise (ask p 0 b l j m) ws ≡ raise (ask p 7 b l j m) ws) × (limits_call p 0 ≡ limits_call p 7)
  -- lookup never changes a word, and number 11 is never given
  pub kept : (ws : List ℕ) (y : ℕ) → (lookup ws y).words ≡ ws
  pub eleven : (ws : List ℕ) (y : ℕ) → (increment ws y).number ≡ 11 → ⊥
