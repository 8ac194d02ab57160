-- Lists of numbers: bounds on every element, sums, an element put in, and a list by its rule.
use mathlib.Core.Path.{◌≡◌, refl, sym, ap}
use mathlib.Core.List.{List, [], ◌∷◌, ◌++◌, map}
use Prim.Native.Nat.{ℕ, zero, suc, ◌≤◌, ◌<◌, suc-le-suc}
use native.Mathlib.Nat.{le_of_suc-le-suc, not-suc-le-zero, zero-lt-suc}
use lib.ListN.{length, take, drop, get_or, set}
use Rattle.model.specs.Lists.{tabulate}

-- every element is below b
abbrev pub Below : ℕ → List ℕ → Type 0
Below b [] = Unit {0}
Below b (e ∷ es) = (e < b) × Below b es

-- every element is at least b
abbrev pub Least : ℕ → List ℕ → Type 0
Least b [] = Unit {0}
Least b (u ∷ us) = (b ≤ u) × Least b us

pub least_at : {b : ℕ} (us : List ℕ) (a : ℕ) → Least b us → a < length us → b ≤ get_or us a 0
least_at [] a h l = absurd (not-suc-le-zero l)
least_at (u ∷ us) zero h l = h.0
least_at (u ∷ us) (suc a) h l = least_at us a h.1 (le_of_suc-le-suc l)

pub least_of : (b : ℕ) (us : List ℕ) → ((a : ℕ) → a < length us → b ≤ get_or us a 0) → Least b us
least_of b [] h = tt
least_of b (u ∷ us) h = (h 0 (zero-lt-suc (length us)), least_of b us (λ a l. h (suc a) (suc-le-suc l)))

abbrev pub insert : List ℕ → ℕ → ℕ → List ℕ
insert es zero v = v ∷ es
insert [] (suc a) v = v ∷ []
insert (e ∷ es) (suc a) v = e ∷ insert es a v

pub below_at : {b : ℕ} (es : List ℕ) (a : ℕ) → 0 < b → Below b es → get_or es a 0 < b
below_at [] a p h = p
below_at (e ∷ es) zero p h = h.0
below_at (e ∷ es) (suc a) p h = below_at es a p h.1

pub below-take : (b : ℕ) (es : List ℕ) (a : ℕ) → Below b es → Below b (take a es)
below-take b es zero h = tt
below-take b [] (suc a) h = tt
below-take b (e ∷ es) (suc a) h = (h.0, below-take b es a h.1)

pub insert_split : (es : List ℕ) (a v : ℕ) → a ≤ length es → insert es a v ≡ take a es ++ v ∷ drop a es
insert_split es zero v h = refl
insert_split [] (suc a) v h = absurd (not-suc-le-zero h)
insert_split (e ∷ es) (suc a) v h = rw (insert_split es a v (le_of_suc-le-suc h))

pub length-insert : (es : List ℕ) (a v : ℕ) → length (insert es a v) ≡ suc (length es)
length-insert es zero v = refl
length-insert [] (suc a) v = refl
length-insert (e ∷ es) (suc a) v = ap suc (length-insert es a v)

pub map-set {ℓ} : {A B : Type ℓ} (f : A → B) (l : List A) (i : ℕ) (a : A) → map f (set l i a) ≡ set (map f l) i (f a)
map-set f [] i a = refl
map-set f (x ∷ xs) zero a = refl
map-set {B = B} f (x ∷ xs) (suc i) a = ap (λ (r : List B). f x ∷ r) (map-set f xs i a)

pub map-insert : (f : ℕ → ℕ) (l : List ℕ) (i a : ℕ) → map f (insert l i a) ≡ insert (map f l) i (f a)
map-insert f l zero a = refl
map-insert f [] (suc i) a = refl
map-insert f (x ∷ xs) (suc i) a = ap (λ (r : List ℕ). f x ∷ r) (map-insert f xs i a)

pub get_d_map : (f : ℕ → ℕ) → f 0 ≡ 0 → (l : List ℕ) (a : ℕ) → get_or (map f l) a 0 ≡ f (get_or l a 0)
get_d_map f z [] a = sym z
get_d_map f z (x ∷ xs) zero = refl
get_d_map f z (x ∷ xs) (suc a) = get_d_map f z xs a

pub length_tab : (n : ℕ) (f : ℕ → ℕ) → length (tabulate n f) ≡ n
length_tab zero f = refl
length_tab (suc n) f = ap suc (length_tab n (λ i. f (suc i)))

pub get_or_tab : (n : ℕ) (f : ℕ → ℕ) (i : ℕ) → i < n → get_or (tabulate n f) i 0 ≡ f i
get_or_tab zero f i h = absurd (not-suc-le-zero h)
get_or_tab (suc n) f zero h = refl
get_or_tab (suc n) f (suc i) h = get_or_tab n (λ j. f (suc j)) i (le_of_suc-le-suc h)
