-- The document's own rule of an increment, on the levels of one bucket. It is shown to be the encoding of the counts with one more.
use Rattle.std.specs.Prelude.{Bool, true, false, List, [], ◌∷◌, ℕ, zero, suc, ◌+◌, ◌^◌, ltb}
use Rattle.model.specs.Packed.{entry, bit, rank, replaced, put_in}
use Rattle.model.specs.Shapes.{Row}
use Rattle.model.specs.Levels.{Level, level}

-- no carry; a carry into a level that the counter lacks; a carry into one that it has
abbrev pub by_carry : {A : Type 0} → Bool → ℕ → A → A → A → A
by_carry true m stay new on = stay
by_carry false zero stay new on = new
by_carry false (suc m) stay new on = on

-- a counter comes in at entry a: its part is 1, the entries at and above it move up by one, and their marks likewise, with a 0 put in
unfoldable pub entered : List Row → List Level → ℕ → List Level
entered [] ls a = []
entered (r ∷ rs) [] a = []
entered (r ∷ rs) (l ∷ ls) a = level (put_in r.width l.cells a 1) (put_in 1 l.marks a 0) ∷ ls

-- one is added to the part of entry a; a carry goes on at the rank of a, and where the counter lacks the next level its mark is set
unfoldable pub incremented : List Row → List Level → ℕ → List Level
incremented [] ls a = []
incremented (r ∷ rs) [] a = []
incremented (r ∷ rs) (l ∷ ls) a =
    let w : ℕ = r.width in
    let e : ℕ = entry w l.cells a in
    let k : ℕ = rank l.marks a in
    by_carry (ltb (e + 1) (2 ^ w)) (bit l.marks a)
    (level (replaced w l.cells a (e + 1)) l.marks ∷ ls)
    (level (replaced w l.cells a 0) (replaced 1 l.marks a 1) ∷ entered rs ls k)
    (level (replaced w l.cells a 0) l.marks ∷ incremented rs ls k)

abbrev pub entries_of : List Row → ℕ
entries_of [] = 0
entries_of (r ∷ rs) = r.entries

-- the level that the counter at entry a would come into, if any, has an entry free; n entries of the first level are used
unfoldable pub has_room : List Row → ℕ → List Level → ℕ → Bool
has_room [] n ls a = true
has_room (r ∷ rs) n [] a = true
has_room (r ∷ rs) n (l ∷ ls) a =
    by_carry (ltb (entry r.width l.cells a + 1) (2 ^ r.width)) (bit l.marks a)
    true
    (ltb (rank l.marks n) (entries_of rs))
    (has_room rs (rank l.marks n) ls (rank l.marks a))
