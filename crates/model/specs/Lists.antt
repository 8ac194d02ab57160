-- The tools that the definitions are written with.
use Rattle.std.specs.Prelude.{Bool, true, false, ◌&&◌, List, [], ◌∷◌, ◌++◌, ℕ, zero, suc, ◌+◌, take, drop, length}

-- 1 where the test passes
abbrev pub one_if : Bool → ℕ
one_if false = 0
one_if true = 1

abbrev pub choose : {A : Type 0} → Bool → A → A → A
choose true x y = x
choose false x y = y

-- 0 takes the first, any other number the second
abbrev pub by_mark : {A : Type 0} → ℕ → A → A → A
by_mark zero x y = x
by_mark (suc n) x y = y

-- all of the tests pass
abbrev pub all : List Bool → Bool
all [] = true
all (b ∷ bs) = b && all bs

-- the test passes at each number below n
abbrev pub every : ℕ → (ℕ → Bool) → Bool
every zero p = true
every (suc n) p = p 0 && every n (λ i. p (suc i))

-- the lowest number below n at which the test fails, or n
abbrev pub lowest : ℕ → (ℕ → Bool) → ℕ
lowest zero p = 0
lowest (suc n) p = choose (p 0) (suc (lowest n (λ i. p (suc i)))) 0

abbrev pub sum : List ℕ → ℕ
sum [] = 0
sum (e ∷ es) = e + sum es

-- f 0, f 1 and on, n of them
abbrev pub tabulate : ℕ → (ℕ → ℕ) → List ℕ
tabulate zero f = []
tabulate (suc n) f = f 0 ∷ tabulate n (λ i. f (suc i))

-- k pieces of n words each
abbrev pub pieces : ℕ → ℕ → List ℕ → List (List ℕ)
pieces n zero ws = []
pieces n (suc k) ws = take n ws ∷ pieces n k (drop n ws)

abbrev pub concat : List (List ℕ) → List ℕ
concat [] = []
concat (c ∷ cs) = c ++ concat cs

-- the words ws with those of c in place of as many from offset o on
abbrev pub splice : List ℕ → ℕ → List ℕ → List ℕ
splice ws o c = take o ws ++ (c ++ drop (o + length c) ws)
