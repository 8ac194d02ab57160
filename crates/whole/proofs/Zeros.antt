-- The words of the full-size buckets from U up are zero exactly where these buckets are empty.
use mathlib.Core.Path.{◌≡◌, refl, sym, ap, ◌∙◌, subst}
use mathlib.Core.Bool.{Bool, true, false}
use mathlib.Core.List.{List, [], ◌∷◌}
use Prim.Native.Nat.{ℕ, zero, suc, ◌+◌, ◌-◌, ◌*◌, ◌≤◌, ◌<◌, suc-le-suc}
use native.Mathlib.Nat.{zero-lt-suc, suc-mul, zero-mul}
use native.Mathlib.Omega.{arith}
use lib.Dec.{T, eqb, leb, eqb→eq, leb→le}
use borrow.Author.Tests.{eq-eqb, le-leb}
use lib.ListN.{length, get_or, take, drop, length-drop, drop_of_length-le}
use lib.Seq.{drop-drop}
use Rattle.model.specs.Lists.{sum, one_if, by_mark, every}
use Rattle.model.specs.Walls.{Full, Header, buckets_in, bucket_length, word_at, read_full, parse, empty_full}
use Rattle.model.specs.Sound.{fulls_zero, is_empty_full}
use Rattle.model.proofs.Tests.{every-at, every_of}
use Rattle.model.proofs.Tools.{bool_eq, and_tests, tests_and}
use Rattle.model.proofs.Headers as model
use Rattle.layout.specs.declared.Wall as layout
use Rattle.layout.specs.Views.{header_of}
use Rattle.header.specs.Headers.{Open}
use Rattle.header.proofs.Places.{full-here, open_header, open_length, open_limits}

-- no word is left
words-none : (ws : List ℕ) (o : ℕ) → length ws ≤ o → true ≡ eqb (sum (drop o ws)) 0
words-none ws o l = sym (eq-eqb (sum (drop o ws)) 0 (ap sum (drop_of_length-le ws l)))

-- ---- in pieces of n words

sum_cut : (n : ℕ) (l : List ℕ) → sum (take n l) + sum (drop n l) ≡ sum l
sum_cut zero l = omega arith
sum_cut (suc n) [] = omega arith
sum_cut (suc n) (x ∷ l) = omega (arith, sum_cut n l)

pieces-zero : (n m : ℕ) (l : List ℕ) → length l ≤ m * n → ((j o : ℕ) → j < m → o ≡ j * n → sum (take n (drop o l)) ≡ 0) → sum l ≡ 0
pieces-zero n zero l h f = omega (arith, ap sum (drop_of_length-le l {i = 0} (omega (arith, zero-mul n))))
pieces-zero n (suc m) l h f =
    let t : sum (drop n l) ≡ 0 = pieces-zero n m (drop n l) (rw length-drop (omega (arith, suc-mul m n)))
    (λ j o k e. ap (λ x. sum (take n x)) (drop-drop o n l) ∙ f (suc j) (n + o) (suc-le-suc k) (omega (arith, suc-mul j n))) in
    omega (arith, sum_cut n l, f 0 0 (zero-lt-suc m) (sym (zero-mul n)))

-- ---- a full-size bucket

full-sum : (c : List ℕ) → word_at c 0 + sum (drop 1 c) ≡ sum c
full-sum [] = refl
full-sum (x ∷ c) = refl

empty-zero : (c : List ℕ) → T (is_empty_full (read_full c)) → sum c ≡ 0
empty-zero c t =
    let a = and_tests (eqb (word_at c 0) 0) (eqb (sum (drop 1 c)) 0) t in
    omega (arith, full-sum c, eqb→eq (word_at c 0) 0 a.0, eqb→eq (sum (drop 1 c)) 0 a.1)

zero-empty : (c : List ℕ) → sum c ≡ 0 → T (is_empty_full (read_full c))
zero-empty c e =
    let a : word_at c 0 ≡ 0 = omega (arith, full-sum c) in
    let b : sum (drop 1 c) ≡ 0 = omega (arith, full-sum c) in
    tests_and (eqb (word_at c 0) 0) (eqb (sum (drop 1 c)) 0) (model.eq-eqb a) (model.eq-eqb b)

-- a test that is only asked from u up
asked : (u q : ℕ) (b : Bool) → u ≤ q → T (by_mark (one_if (leb u q)) true b) → T b
asked u q b h t = subst (λ x. T (by_mark (one_if x) true b)) (le-leb u q h) t

unasked : (u q : ℕ) (b : Bool) → (u ≤ q → T b) → T (by_mark (one_if (leb u q)) true b)
unasked u q b f = go (leb u q) (λ t. f (leb→le u q t))
  where
    go : (x : Bool) → (T x → T b) → T (by_mark (one_if x) true b)
    go true f = f tt
    go false f = tt

module _ (ws : List ℕ) (v : layout.Wall) (o : Open ws v) where
  abbrev start : ℕ → ℕ
  start q = 4 + (buckets_in (header_of v) * bucket_length (header_of v) + q * 65)

  abbrev full : ℕ → Full
  full q = get_or (parse ws).fulls q empty_full

  -- where the search of the words begins
  pub start-within : start v.used ≤ length ws
  start-within = omega (arith, open_length ws v o, (open_limits ws v o).spare_full)

  zero-all : ((q : ℕ) → q < v.full → v.used ≤ q → T (is_empty_full (full q))) → sum (drop (start v.used) ws) ≡ 0
  zero-all f =
      pieces-zero 65 (v.full - v.used) (drop (start v.used) ws) (rw length-drop (omega (arith, open_length ws v o, (open_limits ws v o).spare_full)))
      (λ j k l e.
      let q : ℕ = v.used + j in
      let m : q < v.full = omega arith in
      let s : start v.used + k ≡ start q = omega arith in
      ap (λ x. sum (take 65 x)) (drop-drop k (start v.used) ws ∙ ap (λ n. drop n ws) s) ∙ empty-zero (take 65 (drop (start q) ws)) (subst (λ (g : Full). T (is_empty_full g)) (sym (full-here ws v o q m)) (f q m (omega arith))))

  all-zero : sum (drop (start v.used) ws) ≡ 0 → (q : ℕ) → q < v.full → v.used ≤ q → T (is_empty_full (full q))
  all-zero e q m h =
      let k : ℕ = (q - v.used) * 65 in
      let d : List ℕ = drop (start v.used) ws in
      let s : start v.used + k ≡ start q = omega arith in
      let z : sum (take 65 (drop k d)) ≡ 0 = omega (arith, sum_cut k d, sum_cut 65 (drop k d)) in
      subst (λ (g : Full). T (is_empty_full g)) (full-here ws v o q m)
      (zero-empty (take 65 (drop (start q) ws)) (ap (λ x. sum (take 65 x)) (sym (drop-drop k (start v.used) ws ∙ ap (λ n. drop n ws) s)) ∙ z))

  pub zero-words : eqb (sum (drop (start v.used) ws)) 0 ≡ fulls_zero (parse ws)
  zero-words =
      let x : ℕ = sum (drop (start v.used) ws) in
      let ej : v.full ≡ (parse ws).header.full = ap (λ (h : Header). h.full) (open_header ws v o) in
      let eu : v.used ≡ (parse ws).header.used = ap (λ (h : Header). h.used) (open_header ws v o) in
      let p : ℕ → Bool = λ q. by_mark (one_if (leb (parse ws).header.used q)) true (is_empty_full (full q)) in
      bool_eq (eqb x 0) (every (parse ws).header.full p)
      (λ t. every_of (parse ws).header.full p (λ q l. unasked (parse ws).header.used q (is_empty_full (full q)) (λ h. all-zero (eqb→eq x 0 t) q (omega arith) (omega arith))))
      (λ t. model.eq-eqb (zero-all (λ q l h. asked (parse ws).header.used q (is_empty_full (full q)) (omega arith) (every-at (parse ws).header.full p t q (omega arith)))))

  -- U is J
  pub zero-none : v.used ≡ v.full → true ≡ fulls_zero (parse ws)
  zero-none e = words-none ws (start v.used) (omega (arith, open_length ws v o)) ∙ zero-words
