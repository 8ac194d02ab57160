-- The document's edges P1 to P10, together, and those of the busy list. Shape 3, w1 1, b 6, M 100, J 0, spread 0 unless said.
use Rattle.std.specs.Prelude.{◌≡◌, List, [], ◌∷◌, ◌++◌, ℕ, ◌+◌, ◌^◌, ◌/◌, ◌%◌, replicate, get_or, set}
use Rattle.model.specs.Lists.{tabulate}
use Rattle.model.specs.Slots.{slot}
use Rattle.model.specs.Calls.{Outcome, lookup, increment, check, ask, raise}
use Rattle.model.specs.Runs.{run}
use Rattle.model.specs.BusyLists.{Listing, busy}

-- a fresh wall with the limit m and j full-size buckets, in n words
abbrev pub new : ℕ → ℕ → ℕ → List ℕ
new m j n = (raise (ask 3 1 6 m j 0) (replicate n 0)).words

-- flow y, n times
abbrev pub times : ℕ → ℕ → List ℕ
times n y = replicate n y

-- flows 0..14 to 2, flow 15 to 1
abbrev pub sixteen : List ℕ
sixteen = tabulate 15 (λ i. i) ++ tabulate 16 (λ i. i)

-- the words of the one bucket: A1, I1, A2, A3, the packed word
abbrev pub bucket : List ℕ → List ℕ
bucket ws = get_or ws 4 0 ∷ get_or ws 5 0 ∷ get_or ws 6 0 ∷ get_or ws 7 0 ∷ get_or ws 8 0 ∷ []

-- the header's words for the limit m, the total t and the word f of J, U and the spread
abbrev pub head : ℕ → ℕ → ℕ → List ℕ
head m t f = 0x06010300014C5742 ∷ m ∷ t ∷ f ∷ []

-- the bucket's words when flows 0..14 have come to 2 and flow 15 to 1, with the packed word p
abbrev pub filled : ℕ → List ℕ
filled p = 0x1000000000000000 ∷ 0x111111111111111 ∷ 0x111111111111111 ∷ 0 ∷ p ∷ []

-- all 74 words when flow 15 and then flow 0 have moved, at places 60 and 0
abbrev pub two_moved : List ℕ
two_moved = head 100 33 (1 + 2 ^ 16) ++ (filled (2 ^ 40) ++ ((1 + 2 ^ 60) ∷ set (set (replicate 64 0) 60 2) 0 3))

-- the number and the value
abbrev pub said : Outcome → List ℕ
said r = r.number ∷ r.value ∷ []

-- and every word of the list
abbrev pub listed : Listing → List ℕ
listed r = r.number ∷ r.value ∷ r.list

pub record Edges : Type 0 where
  pub p1 : said (raise (ask 3 1 6 100 0 0) (replicate 9 0)) ≡ 0 ∷ 0 ∷ []
  pub p1_word : get_or (new 100 0 9) 0 0 ≡ 0x06010300014C5742
  pub p1_short : said (raise (ask 3 1 6 100 0 0) (replicate 8 0)) ≡ 6 ∷ 0 ∷ []
  pub p1_long : said (raise (ask 3 1 6 100 0 0) (replicate 10 0)) ≡ 6 ∷ 0 ∷ []
  pub p2 : slot 6 0 0 ∷ slot 6 0 1 ∷ slot 6 0 2 ∷ slot 6 0 3 ∷ slot 6 0 63 ∷ [] ≡ 0 ∷ 32 ∷ 16 ∷ 48 ∷ 63 ∷ []
  pub p3 : slot 9 0 1 ∷ slot 9 0 1 / 64 ∷ slot 9 0 1 % 64 ∷ slot 9 0 8 ∷ [] ≡ 256 ∷ 4 ∷ 0 ∷ 32 ∷ []
  pub p4 : bucket (run (new 100 0 9) (times 2 1)).words ≡ 0 ∷ 2 ^ 32 ∷ 1 ∷ 0 ∷ 0 ∷ []
  pub p5 : bucket (run (new 100 0 9) (times 2 1 ++ times 2 2)).words ≡ 0 ∷ (2 ^ 16 + 2 ^ 32) ∷ 0x11 ∷ 0 ∷ 0 ∷ []
  pub p5_more : bucket (run (new 100 0 9) (times 2 1 ++ (times 2 2 ++ times 3 1))).words ≡ 2 ^ 32 ∷ (2 ^ 16 + 2 ^ 32) ∷ 0x21 ∷ 0 ∷ 0 ∷ []
  -- the row before, and the carry into level 3
  pub p6_before : bucket (run (new 100 0 9) (times 31 1)).words ≡ 2 ^ 32 ∷ 2 ^ 32 ∷ 15 ∷ 0 ∷ 0 ∷ []
  pub p6_carried : bucket (increment (run (new 100 0 9) (times 31 1)).words 1).words ≡ 0 ∷ 2 ^ 32 ∷ 0 ∷ 1 ∷ 1 ∷ []
  pub p6 : bucket (run (new 100 0 9) (times 32 1 ++ times 2 2)).words ≡ 0 ∷ (2 ^ 16 + 2 ^ 32) ∷ 1 ∷ 1 ∷ 2 ∷ []
  pub p6_reads : said (lookup (run (new 100 0 9) (times 32 1 ++ times 2 2)).words 1) ++ said (lookup (run (new 100 0 9) (times 32 1 ++ times 2 2)).words 2)
      ≡ 0 ∷ 32 ∷ 0 ∷ 2 ∷ []
  pub p7_total : get_or (run (new 100 0 9) sixteen).words 2 0 ≡ 31
  pub p7_refused : said (increment (run (new 100 0 9) sixteen).words 15) ≡ 12 ∷ 0 ∷ []
  pub p7 : said (increment (run (new 100 1 74) sixteen).words 15) ≡ 0 ∷ 2 ∷ []
  -- all 74 words before the overflow and after it: flow 15 stands at place 60
  pub p7_before : (run (new 100 1 74) sixteen).words ≡ head 100 31 1 ++ (filled 0 ++ replicate 65 0)
  pub p7_after : (run (new 100 1 74) (sixteen ++ (15 ∷ []))).words ≡ head 100 32 (1 + 2 ^ 16) ++ (filled (2 ^ 40) ++ (2 ^ 60 ∷ set (replicate 64 0) 60 2))
  pub p7_used : get_or (run (new 100 1 74) (sixteen ++ (15 ∷ []))).words 3 0 ≡ 1 + 2 ^ 16
  pub p8 : said (lookup (run (new 100 1 74) (sixteen ++ (15 ∷ []))).words 0) ++ said (increment (run (new 100 1 74) (sixteen ++ (15 ∷ []))).words 0)
      ≡ 0 ∷ 2 ∷ 0 ∷ 3 ∷ []
  pub p8_after : (increment (run (new 100 1 74) (sixteen ++ (15 ∷ []))).words 0).words ≡ two_moved
  pub p9 : (run (new 1 0 9) (times 1 1)).number ∷ said (increment (run (new 1 0 9) (times 1 1)).words 1) ≡ 0 ∷ 10 ∷ 0 ∷ []
  pub p10 : said (increment (run (new 31 0 9) sixteen).words 15) ≡ 10 ∷ 0 ∷ []
  pub sound : (check (run (new 100 1 74) (sixteen ++ (15 ∷ []))).words).number ≡ 0
  pub limit : (raise (ask 3 1 6 262143 0 0) (replicate 9 0)).number ∷ (raise (ask 3 1 6 262144 0 0) (replicate 9 0)).number ∷ [] ≡ 0 ∷ 4 ∷ []
  pub full : (raise (ask 3 1 6 100 1 0) (replicate 74 0)).number ∷ (raise (ask 3 1 6 100 2 0) (replicate 139 0)).number ∷ [] ≡ 0 ∷ 5 ∷ []
  pub flow : (increment (new 100 0 9) 63).number ∷ (increment (new 100 0 9) 64).number ∷ [] ≡ 0 ∷ 8 ∷ []
  -- the busy list of the wall after p8: flow 0 alone counts 3; the words that it needs, one fewer, and a floor above it
  pub busy_exact : listed (busy two_moved 3 (7 ∷ 7 ∷ [])) ≡ 0 ∷ 1 ∷ 0 ∷ 3 ∷ []
  pub busy_short : listed (busy two_moved 3 (7 ∷ [])) ≡ 14 ∷ 0 ∷ 7 ∷ []
  pub busy_none : listed (busy two_moved 4 (7 ∷ [])) ≡ 0 ∷ 0 ∷ 7 ∷ []
