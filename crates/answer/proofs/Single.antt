-- Two answers, with the words left, that meet one contract are equal: a contract leaves no choice.
use mathlib.Core.Path.{◌≡◌, refl, sym, ap, ◌∙◌}
use mathlib.Core.List.{List, [], ◌∷◌}
use Prim.Native.Nat.{ℕ, zero, suc, ◌-◌}
use lib.Dec.{eqb}
use lib.ListN.{get_or}
use Rattle.std.specs.Prelude.{Result, Ok, Err, ⊤}
use Rattle.model.specs.Lists.{choose}
use Rattle.model.specs.Calls.{Reply, Outcome}
use Rattle.model.specs.BusyLists.{Listing}
use Rattle.answer.specs.declared.Answer.{Answer}
use Rattle.answer.specs.declared.Refusal.{Refusal}
use Rattle.answer.specs.declared.Refusal.TheVariants.{BadShape, BadWidth, BadBits, BadLimit, BadFull, BadLength, BadHeader, NoFlow, Unsound, AtLimit, NoFull, UnsoundWall, ListShort, BadSpread}
use Rattle.answer.specs.declared.Fault.{Fault}
use Rattle.answer.specs.declared.Fault.TheVariants as fault
use Rattle.answer.specs.Answers.{reply_of, outcome_of, listing_of, answer_of, checked_of}

pub one_reply : (call : Reply) (r s : Answer) → reply_of r ≡ call → reply_of s ≡ call → r ≡ s
one_reply call r s e f = ap (λ (x : Reply). record { number = x.number; value = x.value }) (e ∙ sym f)

pub one_outcome : (call : Outcome) (r s : Answer) (ws us : List ℕ) → outcome_of r ws ≡ call → outcome_of s us ≡ call → (r ≡ s) × (ws ≡ us)
one_outcome call r s ws us e f =
    (ap (λ (x : Outcome). record { number = x.number; value = x.value }) (e ∙ sym f), ap (λ (x : Outcome). x.words) (e ∙ sym f))

pub one_listing : (call : Listing) (r s : Answer) (ws us list rest : List ℕ) → listing_of r ws list ≡ call → listing_of s us rest ≡ call → (r ≡ s) × (ws ≡ us) × (list ≡ rest)
one_listing call r s ws us list rest e f =
    (ap (λ (x : Listing). record { number = x.number; value = x.value }) (e ∙ sym f), ap (λ (x : Listing). x.words) (e ∙ sym f), ap (λ (x : Listing). x.list) (e ∙ sym f))

-- ---- and each answer is that of one result

abbrev refusal_at : ℕ → Refusal
refusal_at n =
    get_or (BadShape ∷ BadWidth ∷ BadBits ∷ BadLimit ∷ BadFull ∷ BadLength ∷ BadHeader ∷ NoFlow ∷ Unsound ∷ AtLimit ∷ AtLimit ∷ NoFull ∷ UnsoundWall ∷ ListShort ∷ BadSpread ∷ []) (n - 1) BadShape

abbrev call_of : ℕ → ℕ → Result ℕ Refusal
call_of zero v = Ok v
call_of (suc n) v = Err (refusal_at (suc n))

called : (r : Result ℕ Refusal) → call_of (answer_of r).number (answer_of r).value ≡ r
called (Ok v) = refl
called (Err BadShape) = refl
called (Err BadWidth) = refl
called (Err BadBits) = refl
called (Err BadLimit) = refl
called (Err BadFull) = refl
called (Err BadLength) = refl
called (Err BadHeader) = refl
called (Err NoFlow) = refl
called (Err Unsound) = refl
called (Err AtLimit) = refl
called (Err NoFull) = refl
called (Err UnsoundWall) = refl
called (Err ListShort) = refl
called (Err BadSpread) = refl

pub one_result : (r s : Result ℕ Refusal) → answer_of r ≡ answer_of s → r ≡ s
one_result r s e = sym (called r) ∙ ap (λ (a : Answer). call_of a.number a.value) e ∙ called s

abbrev check_of : ℕ → ℕ → Result ⊤ Fault
check_of n v = choose (eqb n 0) (Ok tt) (choose (eqb n 7) (Err fault.BadHeader) (choose (eqb n 9) (Err (fault.Unsound v)) (Err fault.UnsoundWall)))

checked : (r : Result ⊤ Fault) → check_of (checked_of r).number (checked_of r).value ≡ r
checked (Ok u) = refl
checked (Err fault.BadHeader) = refl
checked (Err (fault.Unsound b)) = refl
checked (Err fault.UnsoundWall) = refl

pub one_check : (r s : Result ⊤ Fault) → checked_of r ≡ checked_of s → r ≡ s
one_check r s e = sym (checked r) ∙ ap (λ (a : Answer). check_of a.number a.value) e ∙ checked s

-- ---- so two results that meet one contract of a call are equal, as two answers are

pub same_reply : (call : Reply) (r s : Result ℕ Refusal) → reply_of (answer_of r) ≡ call → reply_of (answer_of s) ≡ call → r ≡ s
same_reply call r s e f = one_result r s (one_reply call (answer_of r) (answer_of s) e f)

pub same_outcome : (call : Outcome) (r s : Result ℕ Refusal) (ws us : List ℕ) → outcome_of (answer_of r) ws ≡ call → outcome_of (answer_of s) us ≡ call → (r ≡ s) × (ws ≡ us)
same_outcome call r s ws us e f = let o = one_outcome call (answer_of r) (answer_of s) ws us e f in (one_result r s o.0, o.1)

pub same_listing : (call : Listing) (r s : Result ℕ Refusal) (ws us list rest : List ℕ) → listing_of (answer_of r) ws list ≡ call → listing_of (answer_of s) us rest ≡ call → (r ≡ s) × (ws ≡ us) × (list ≡ rest)
same_listing call r s ws us list rest e f = let o = one_listing call (answer_of r) (answer_of s) ws us list rest e f in (one_result r s o.0, o.1, o.2)

pub same_check : (call : Outcome) (r s : Result ⊤ Fault) (ws us : List ℕ) → outcome_of (checked_of r) ws ≡ call → outcome_of (checked_of s) us ≡ call → (r ≡ s) × (ws ≡ us)
same_check call r s ws us e f = let o = one_outcome call (checked_of r) (checked_of s) ws us e f in (one_check r s o.0, o.1)
