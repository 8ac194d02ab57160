-- The busy list as the second pass comes to it: what the flows before y give, and one flow more.
use mathlib.Core.Path.{◌≡◌, refl, sym, ap, ap₂, ◌∙◌, subst}
use mathlib.Core.Bool.{Bool, true, false}
use mathlib.Core.List.{List, [], ◌∷◌, ◌++◌, append-nil}
use Prim.Native.Nat.{ℕ, zero, suc, ◌+◌, ◌*◌, ◌-◌, ◌/◌, ◌%◌, ◌≤◌, ◌<◌}
use native.Mathlib.Nat.{zero-add, add-zero, suc-add, add-suc}
use native.Mathlib.Decide.{dec_lt}
use native.Mathlib.Omega.{arith}
use lib.Dec.{leb, le→leb}
use lib.Arith.{lt→nleb}
use lib.ListN.{length, get_or, drop, set, length-set, length-append}
use Rattle.model.specs.Lists.{choose, one_if}
use Rattle.model.specs.Walls.{parse}
use Rattle.model.specs.Sound.{counts_at}
use Rattle.model.specs.BusyLists.{busy_from, entries, written}
use Rattle.model.proofs.Tools.{by_eq}
use Rattle.model.proofs.Crowding.{T_true, T_false}

-- 1 where the count at this slot is at least the floor
abbrev pub reaches : List ℕ → ℕ → ℕ → ℕ
reaches ws floor s = one_if (leb floor (get_or (counts_at (parse ws) (s / 64)) (s % 64) 0))

module _ (c : ℕ → ℕ) (floor : ℕ) where
  last_of : (y n : ℕ) → busy_from c floor y (suc n) ≡ busy_from c floor y n ++ choose (leb floor (c (y + n))) ((y + n) ∷ []) []
  last_of y zero = ap (λ z. choose (leb floor (c z)) (z ∷ []) []) (sym (add-zero y))
  last_of y (suc n) = go (leb floor (c y)) (choose (leb floor (c (y + suc n))) ((y + suc n) ∷ []) []) (last_of (suc y) n ∙ ap (λ z. busy_from c floor (suc y) n ++ choose (leb floor (c z)) (z ∷ []) []) (suc-add y n ∙ sym (add-suc y n)))
    where
      go : (b : Bool) (t : List ℕ) → busy_from c floor (suc y) (suc n) ≡ busy_from c floor (suc y) n ++ t
          → choose b (y ∷ busy_from c floor (suc y) (suc n)) (busy_from c floor (suc y) (suc n)) ≡ choose b (y ∷ busy_from c floor (suc y) n) (busy_from c floor (suc y) n) ++ t
      go true t e = ap (λ (l : List ℕ). y ∷ l) e
      go false t e = e

  -- of the first n flows
  abbrev pub busy_to : ℕ → List ℕ
  busy_to n = busy_from c floor 0 n

  one_more : (y : ℕ) → busy_to (y + 1) ≡ busy_to y ++ choose (leb floor (c y)) (y ∷ []) []
  one_more y = let e : y + 1 ≡ suc y = omega arith in ap busy_to e ∙ last_of 0 y ∙ ap (λ z. busy_to y ++ choose (leb floor (c z)) (z ∷ []) []) (zero-add y)

  with_flow : (y : ℕ) → floor ≤ c y → busy_to (y + 1) ≡ busy_to y ++ y ∷ []
  with_flow y h = one_more y ∙ ap (λ b. busy_to y ++ choose b (y ∷ []) []) (sym (T_true (leb floor (c y)) (le→leb floor (c y) h)))

  without : (y : ℕ) → c y < floor → busy_to (y + 1) ≡ busy_to y
  without y h = one_more y ∙ ap (λ b. busy_to y ++ choose b (y ∷ []) []) (sym (T_false (leb floor (c y)) (lt→nleb floor (c y) h))) ∙ append-nil (busy_to y)

  longer : (y : ℕ) → floor ≤ c y → length (busy_to (y + 1)) ≡ length (busy_to y) + 1
  longer y h = ap length (with_flow y h) ∙ length-append (busy_to y) (y ∷ [])

  as_long : (y : ℕ) → c y < floor → length (busy_to (y + 1)) ≡ length (busy_to y)
  as_long y h = ap length (without y h)

  by_count : (y : ℕ) {P : Type 0} → (c y < floor → P) → (floor ≤ c y → P) → P
  by_count y {P} a b = go (dec_lt (c y) floor)
    where
      go : Dec (c y < floor) → P
      go (yes h) = a h
      go (no h) = b (omega arith)

  -- no flow takes an entry away
  grows : (y : ℕ) → length (busy_to y) ≤ length (busy_to (y + 1))
  grows y = by_count y (λ h. omega (arith, as_long y h)) (λ h. omega (arith, longer y h))

  never_shorter : (y d : ℕ) → length (busy_to y) ≤ length (busy_to (y + d))
  never_shorter y zero = omega (arith, ap (λ n. length (busy_to n)) (add-zero y))
  never_shorter y (suc d) = let e : y + suc d ≡ y + d + 1 = omega arith in subst (λ m. length (busy_to y) ≤ length (busy_to m)) (sym e) (omega (arith, never_shorter y d, grows (y + d)))

  -- while fewer are listed than of all n flows, there is a next flow; it has room where all have
  pub next-flow : (y n : ℕ) → y ≤ n → length (busy_to y) < length (busy_to n) → y < n
  next-flow y n l h = by_eq y n (λ e. absurd (omega (arith, ap (λ m. length (busy_to m)) e))) (λ z. omega arith)

  pub room : (y n : ℕ) (list : List ℕ) → y < n → 2 * length (busy_to n) ≤ length list → floor ≤ c y → 2 * length (busy_to y) + 2 ≤ length list
  room y n list l m h =
      let d : y + 1 + (n - (y + 1)) ≡ n = omega arith in
      omega (arith, m, longer y h, never_shorter (y + 1) (n - (y + 1)), ap (λ k. length (busy_to k)) d)

  -- where as many are listed as of all n flows, the rest are not to be
  none_after : (y d : ℕ) → length (busy_to (y + d)) ≤ length (busy_to y) → busy_to y ≡ busy_to (y + d)
  none_after y zero h = ap busy_to (sym (add-zero y))
  none_after y (suc d) h =
      let e : y + d + 1 ≡ y + suc d = omega arith in
      let r = none_after y d (omega (arith, h, grows (y + d), ap (λ m. length (busy_to m)) e)) in
      by_count (y + d) (λ k. r ∙ sym (without (y + d) k) ∙ ap busy_to e) (λ k. absurd (omega (arith, h, longer (y + d) k, never_shorter y d, ap (λ m. length (busy_to m)) e)))

  pub all_listed : (y n : ℕ) → y ≤ n → length (busy_to n) ≤ length (busy_to y) → busy_to y ≡ busy_to n
  all_listed y n l h = let e : y + (n - y) ≡ n = omega arith in none_after y (n - y) (subst (λ m. length (busy_to m) ≤ length (busy_to y)) (sym e) h) ∙ ap busy_to e

-- ---- the words

module _ (c : ℕ → ℕ) where
  -- one entry more, as the second pass writes it
  written_more : (ys list : List ℕ) (y : ℕ) → 2 * length ys + 2 ≤ length list
      → set (set (written c ys list) (2 * length ys) y) (2 * length ys + 1) (c y) ≡ written c (ys ++ y ∷ []) list
  written_more [] list y h = go list h
    where
      go : (l : List ℕ) → 2 ≤ length l → set (set l 0 y) 1 (c y) ≡ y ∷ c y ∷ drop 2 l
      go [] h = absurd (omega arith)
      go (a ∷ []) h = absurd (omega arith)
      go (a ∷ (b ∷ l)) h = refl
  written_more (x ∷ ys) [] y h = absurd (omega arith)
  written_more (x ∷ ys) (a ∷ []) y h = absurd (omega arith)
  written_more (x ∷ ys) (a ∷ (b ∷ list)) y h =
      go (2 * length ys) (2 * suc (length ys)) (double (length ys)) (2 * length (ys ++ y ∷ [])) (2 * suc (length (ys ++ y ∷ []))) (double (length (ys ++ y ∷ [])))
      (written_more ys list y (omega arith))
    where
      double : (n : ℕ) → 2 * suc n ≡ suc (suc (2 * n))
      double n = omega arith

      go : (j k : ℕ) → k ≡ suc (suc j) → (m n : ℕ) → n ≡ suc (suc m) → set (set (entries c ys ++ drop j list) j y) (j + 1) (c y) ≡ entries c (ys ++ y ∷ []) ++ drop m list
          → set (set (x ∷ c x ∷ (entries c ys ++ drop k (a ∷ (b ∷ list)))) k y) (k + 1) (c y) ≡ x ∷ c x ∷ (entries c (ys ++ y ∷ []) ++ drop n (a ∷ (b ∷ list)))
      go j k p m n q e =
          ap (λ i. set (set (x ∷ c x ∷ (entries c ys ++ drop i (a ∷ (b ∷ list)))) i y) (i + 1) (c y)) p
          ∙ ap (λ i. set (x ∷ c x ∷ (set (entries c ys ++ drop j list) j y)) i (c y)) (suc-add (suc j) 1 ∙ ap suc (suc-add j 1))
          ∙ ap (λ (l : List ℕ). x ∷ c x ∷ l) e ∙ ap (λ i. x ∷ c x ∷ (entries c (ys ++ y ∷ []) ++ drop i (a ∷ (b ∷ list)))) (sym q)

-- ---- a turn of the second pass

-- what it has written of the flows before y
pub record Upto (c : ℕ → ℕ) (floor : ℕ) (list : List ℕ) (y at : ℕ) (us : List ℕ) : Type 0 where
  pub ends : at ≡ 2 * length (busy_to c floor y)
  pub words : us ≡ written c (busy_to c floor y) list
  pub long : length us ≡ length list

pub none_yet : (c : ℕ → ℕ) (floor : ℕ) (list : List ℕ) → Upto c floor list 0 0 list
none_yet c floor list = record { ends = refl; words = refl; long = refl }

module _ {c : ℕ → ℕ} {floor y at : ℕ} {list us : List ℕ} (u : Upto c floor list y at us) where
  pub passed-over : c y < floor → Upto c floor list (y + 1) at us
  passed-over h = record {
    ends = omega (arith, u.ends, as_long c floor y h);
    words = u.words ∙ ap (λ zs. written c zs list) (sym (without c floor y h));
    long = u.long;
  }

  -- m is the count of flow y
  pub entered : {m : ℕ} → m ≡ c y → (n : ℕ) → y < n → 2 * length (busy_to c floor n) ≤ length list → floor ≤ m
      → Upto c floor list (y + 1) (at + 2) (set (set us at y) (at + 1) m)
  entered {m} e n l fits h =
      let k : floor ≤ c y = omega (arith, e, h) in
      record {
        ends = omega (arith, u.ends, longer c floor y k);
        words =
            ap (λ m. set (set us at y) (at + 1) m) e ∙ ap₂ (λ (zs : List ℕ) j. set (set zs j y) (j + 1) (c y)) u.words u.ends
            ∙ written_more c (busy_to c floor y) list y (room c floor y n list l fits k) ∙ ap (λ zs. written c zs list) (sym (with_flow c floor y k));
        long = length-set (set us at y) (at + 1) m ∙ length-set us at y ∙ u.long;
      }
