-- The edges of the spread, both sides of each. Shape 3, w1 1, b 6, M 100 and J 0 unless said.
use Rattle.std.specs.Prelude.{◌≡◌, List, [], ◌∷◌, ◌++◌, map, ℕ, ◌+◌, ◌*◌, ◌^◌, replicate, set}
use Rattle.model.specs.Slots.{slot}
use Rattle.model.specs.Calls.{Reply, slot_call, ask, raise, close, lookup, increment, check}
use Rattle.edges.specs.Edges.{head, said}

-- number and value of the slot call
abbrev pub told : Reply → List ℕ
told r = r.number ∷ r.value ∷ []

-- the number of a raise with the spread m, in 9 words, which are exact
abbrev pub raising : ℕ → ℕ
raising m = (raise (ask 3 1 6 100 0 m) (replicate 9 0)).number

-- the number of a lookup in a fresh wall whose header carries m
abbrev pub reading : ℕ → ℕ
reading m = (lookup (head 100 0 (m * 2 ^ 32) ++ replicate 5 0) 0).number

-- with J 1 and spread 5: flows 0..14 at 2 and flow 15, which stands at place 11, at 1
abbrev pub spread_out : List ℕ
spread_out = head 100 31 (1 + 5 * 2 ^ 32) ++ ((2 ^ 11 ∷ 0x1084210842108463 ∷ 0x111111111111111 ∷ 0 ∷ 0 ∷ []) ++ replicate 65 0)

-- flow 15 moved
abbrev pub spread_moved : List ℕ
spread_moved = head 100 32 (1 + 2 ^ 16 + 5 * 2 ^ 32) ++ ((2 ^ 11 ∷ 0x1084210842108463 ∷ 0x111111111111111 ∷ 0 ∷ 2 ^ 40 ∷ []) ++ (2 ^ 11 ∷ set (replicate 64 0) 11 2))

pub record Spreads : Type 0 where
  -- spread 1 is the identity; 63 is the largest
  pub slots : slot 6 1 3 ∷ slot 6 5 13 ∷ slot 6 63 1 ∷ slot 6 63 63 ∷ [] ≡ 3 ∷ 1 ∷ 63 ∷ 1 ∷ []
  pub last : told (slot_call 6 63 63) ≡ 0 ∷ 1 ∷ []
  -- even, 2 ^ b, odd above it, and odd in its low 32 bits alone
  pub refused : told (slot_call 6 2 0) ++ (told (slot_call 6 64 0) ++ (told (slot_call 6 65 0) ++ told (slot_call 6 (1 + 2 ^ 32) 0))) ≡ 15 ∷ 0 ∷ 15 ∷ 0 ∷ 15 ∷ 0 ∷ 15 ∷ 0 ∷ []
  -- 3 before 15, 15 before 8, and 8
  pub order : told (slot_call 5 2 64) ++ (told (slot_call 6 2 64) ++ told (slot_call 6 63 64)) ≡ 3 ∷ 0 ∷ 15 ∷ 0 ∷ 8 ∷ 0 ∷ []
  pub raises : map raising (0 ∷ 1 ∷ 63 ∷ 2 ∷ 64 ∷ 65 ∷ (1 + 2 ^ 32) ∷ []) ≡ 0 ∷ 0 ∷ 0 ∷ 15 ∷ 15 ∷ 15 ∷ 15 ∷ []
  -- 5 before 15, 15 before 6, and 6
  pub raise_order : said (raise (ask 3 1 6 100 2 2) (replicate 8 0)) ++ (said (raise (ask 3 1 6 100 1 2) (replicate 8 0)) ++ said (raise (ask 3 1 6 100 1 63) (replicate 8 0)))
      ≡ 5 ∷ 0 ∷ 15 ∷ 0 ∷ 6 ∷ 0 ∷ []
  -- in a header the same fault is 7
  pub reads : map reading (0 ∷ 1 ∷ 63 ∷ 2 ∷ 64 ∷ 65 ∷ []) ≡ 0 ∷ 0 ∷ 0 ∷ 7 ∷ 7 ∷ 7 ∷ []
  -- a wall raised, one that overflows, and one closed: all 74 words, with the spread in word 3
  pub raised : (raise (ask 3 1 6 100 1 5) (replicate 74 0)).words ≡ head 100 0 (1 + 5 * 2 ^ 32) ++ replicate 70 0
  pub sound : (check spread_out).number ∷ said (lookup spread_out 15) ≡ 0 ∷ 0 ∷ 1 ∷ []
  pub moved : increment spread_out 15 ≡ record { number = 0; value = 2; words = spread_moved }
  pub closed : (close spread_moved).words ≡ head 100 0 (1 + 5 * 2 ^ 32) ++ replicate 70 0
