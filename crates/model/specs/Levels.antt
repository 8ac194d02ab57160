-- The levels of a bucket: what they hold, how they are read, when they are sound, and when counts crowd them.
use Rattle.std.specs.Prelude.{Bool, true, false, ◌||◌, List, [], ◌∷◌, map, ℕ, zero, suc, ◌+◌, ◌*◌, ◌/◌, ◌%◌, ◌^◌, leb, ltb}
use Rattle.model.specs.Lists.{one_if, by_mark, all, every}
use Rattle.model.specs.Packed.{pack, entry, bit, rank}
use Rattle.model.specs.Shapes.{Row}

-- a level in memory: its entries, packed, and its marks, a bit for each entry
pub record Level : Type 0 where
  pub cells : ℕ
  pub marks : ℕ

abbrev pub level : ℕ → ℕ → Level
level c m = record { cells = c; marks = m }

-- ---- a level of width w over the values vs that reach it, in place order

abbrev pub sign : ℕ → ℕ
sign zero = 0
sign (suc n) = 1

abbrev pub keep : ℕ → List ℕ → List ℕ
keep zero qs = qs
keep (suc q) qs = suc q ∷ qs

abbrev pub nonzero : List ℕ → List ℕ
nonzero [] = []
nonzero (q ∷ qs) = keep q (nonzero qs)

-- what it stores: each value's part
abbrev pub parts : ℕ → List ℕ → List ℕ
parts w vs = map (λ v. v % 2 ^ w) vs

-- what is left of each value above it
abbrev pub uppers : ℕ → List ℕ → List ℕ
uppers w vs = map (λ v. v / 2 ^ w) vs

-- what it marks: the values that go on
abbrev pub marks : ℕ → List ℕ → List ℕ
marks w vs = map sign (uppers w vs)

-- what it hands to the next level, in rank order
abbrev pub onward : ℕ → List ℕ → List ℕ
onward w vs = nonzero (uppers w vs)

-- the levels that hold the values vs
unfoldable pub encode : List Row → List ℕ → List Level
encode [] vs = []
encode (r ∷ rs) vs = level (pack r.width (parts r.width vs)) (pack 1 (marks r.width vs)) ∷ encode rs (onward r.width vs)

-- ---- reading

-- the count at entry a: its part, and where its mark is set the count at its rank in the next level
unfoldable pub read_at : List Row → List Level → ℕ → ℕ
read_at [] ls a = 0
read_at (r ∷ rs) [] a = 0
read_at (r ∷ rs) (l ∷ ls) a = by_mark (bit l.marks a) 0 (read_at rs ls (rank l.marks a)) * 2 ^ r.width + entry r.width l.cells a

-- the counter at entry a of the first level has an entry d levels above it
unfoldable pub uses : List Row → List Level → ℕ → ℕ → Bool
uses rs ls a zero = true
uses [] ls a (suc d) = false
uses (r ∷ rs) [] a (suc d) = false
uses (r ∷ rs) (l ∷ ls) a (suc d) = by_mark (bit l.marks a) false (uses rs ls (rank l.marks a) d)

-- its part there, 0 where it has none
unfoldable pub part_at : List Row → List Level → ℕ → ℕ → ℕ
part_at [] ls a d = 0
part_at (r ∷ rs) [] a d = 0
part_at (r ∷ rs) (l ∷ ls) a zero = entry r.width l.cells a
part_at (r ∷ rs) (l ∷ ls) a (suc d) = by_mark (bit l.marks a) 0 (part_at rs ls (rank l.marks a) d)

-- the bits below the level that is d above the first
abbrev pub start : List Row → ℕ → ℕ
start rs zero = 0
start [] (suc d) = 0
start (r ∷ rs) (suc d) = r.width + start rs d

-- ---- sound

-- n entries of the first level are used: no more than it has, nothing is set above them, and each that does not go on is at least lo,
-- which is 0 at level 1 and 1 at the levels above
unfoldable pub sound_levels : ℕ → List Row → ℕ → List Level → Bool
sound_levels lo [] n [] = leb n 0
sound_levels lo [] n (l ∷ ls) = false
sound_levels lo (r ∷ rs) n [] = false
sound_levels lo (r ∷ rs) n (l ∷ ls) =
    all (leb n r.entries ∷ ltb l.cells (2 ^ (r.width * n)) ∷ ltb l.marks (2 ^ n)
    ∷ every n (λ a. leb lo (entry r.width l.cells a + bit l.marks a))
    ∷ sound_levels 1 rs (rank l.marks n) ls ∷ [])

-- ---- crowded

-- how many of the counts are at least b
unfoldable pub at_least : ℕ → List ℕ → ℕ
at_least b [] = 0
at_least b (v ∷ vs) = one_if (leb b v) + at_least b vs

-- for some level d of these rows more than k_d of the counts are at least 2 ^ L_d; the first of the rows starts at L_d = l
unfoldable pub crowded : ℕ → List Row → List ℕ → Bool
crowded l [] vs = false
crowded l (r ∷ rs) vs = ltb r.entries (at_least (2 ^ l) vs) || crowded (l + r.width) rs vs
