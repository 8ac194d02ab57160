-- Tests in a list, and what holds of each element of a list.
use mathlib.Core.Path.{◌≡◌, refl, sym, ap, ap₂, ◌∙◌, subst}
use mathlib.Core.Bool.{Bool, true, false, ◌&&◌, not}
use mathlib.Core.List.{List, [], ◌∷◌, map}
use Prim.Native.Nat.{ℕ, zero, suc}
use lib.Dec.{T, eqb, eqb→eq, eqb_refl}
use mathlib.Core.Logic.{◌≢◌}
use lib.ListN.{get_or, set}
use Rattle.model.specs.Lists.{all}

abbrev pub AllT : List Bool → Type 0
AllT [] = Unit {0}
AllT (b ∷ bs) = T b × AllT bs

pub all_tests : (bs : List Bool) → T (all bs) → AllT bs
all_tests [] t = tt
all_tests (true ∷ bs) t = (tt, all_tests bs t)
all_tests (false ∷ bs) t = absurd t

pub tests_all : (bs : List Bool) → AllT bs → T (all bs)
tests_all [] t = tt
tests_all (true ∷ bs) t = tests_all bs t.1
tests_all (false ∷ bs) t = t.0

abbrev pub Each : {A : Type 0} → (A → Type 0) → List A → Type 0
Each P [] = Unit {0}
Each P (x ∷ xs) = P x × Each P xs

pub each_set : {A : Type 0} (P : A → Type 0) (xs : List A) (i : ℕ) (x : A) → Each P xs → P x → Each P (set xs i x)
each_set P [] i x h p = tt
each_set P (y ∷ xs) zero x h p = (p, h.1)
each_set P (y ∷ xs) (suc i) x h p = (h.0, each_set P xs i x h.1 p)

pub each_at : {A : Type 0} (P : A → Type 0) (xs : List A) (i : ℕ) (d : A) → Each P xs → P d → P (get_or xs i d)
each_at P [] i d h p = p
each_at P (y ∷ xs) zero d h p = h.0
each_at P (y ∷ xs) (suc i) d h p = each_at P xs i d h.1 p

pub each_map : {A B : Type 0} (P : B → Type 0) (Q : A → Type 0) (f : A → B) → ((x : A) → Q x → P (f x)) → (xs : List A) → Each Q xs → Each P (map f xs)
each_map P Q f g [] h = tt
each_map P Q f g (x ∷ xs) h = (g x h.0, each_map P Q f g xs h.1)

-- f undoes g on each
pub map_back : {A B : Type 0} (P : A → Type 0) (g : A → B) (f : B → A) → ((x : A) → P x → f (g x) ≡ x) → (xs : List A) → Each P xs → map f (map g xs) ≡ xs
map_back P g f e [] h = refl
map_back P g f e (x ∷ xs) h = ap₂ ◌∷◌ (e x h.0) (map_back P g f e xs h.1)

pub by_eq {ℓ} : (k i : ℕ) {P : Type ℓ} → (k ≡ i → P) → (k ≢ i → P) → P
by_eq k i {P} f g = go (eqb k i) refl
  where
    go : (b : Bool) → eqb k i ≡ b → P
    go true e = f (eqb→eq k i (rw e tt))
    go false e = g (λ q. subst T (sym (sym e ∙ ap (λ x. eqb x i) q)) (eqb_refl i))

-- two tests that pass together are equal
pub bool_eq : (a b : Bool) → (T a → T b) → (T b → T a) → a ≡ b
bool_eq true true f g = refl
bool_eq false false f g = refl
bool_eq true false f g = absurd (f tt)
bool_eq false true f g = absurd (g tt)

pub and_tests : (a b : Bool) → T (a && b) → T a × T b
and_tests true b t = (tt, t)
and_tests false b t = absurd t

pub tests_and : (a b : Bool) → T a → T b → T (a && b)
tests_and true b s t = t
tests_and false b s t = s

pub not-not : (b : Bool) → T (not (not b)) → T b
not-not true t = tt
not-not false t = t

pub to_not-not : (b : Bool) → T b → T (not (not b))
to_not-not true t = tt
to_not-not false t = t
