-- Reads one after another into a buffer.
use borrow.Rule.Slice.PartMut.{put_mid, post_of}
use native.Mathlib.Decide.{dec_le}
use Rattle.std.proofs.Common.{◌≡◌, List, ◌++◌, ℕ, ◌+◌, ◌-◌, ◌≤◌, length, take, take_at, sym, subst, Option, None, Some, IfSome, take_all, ap, ap₂, ◌∙◌, arith, le_refl, length-take-le, drop_at, take-add}
use Rattle.std.proofs.lemmas.List.{take-append-le}
use Rattle.std.proofs.lemmas.Slice.{take-put_mid_below}
use Rattle.std.specs.Prelude.{Result, Ok, Err, IfOk, IsErrAnd}
use Rattle.std.specs.Result.{MatchResult}
use Rattle.std.specs.Io.KnownBytes.{Appends}
use Rattle.lines.proofs.Turns.{too_long}
use Rattle.count.specs.Program.{raised, program}

-- k bytes, and then n more
pub both : (k n : ℕ) (xs ys : List ℕ) → k ≤ length xs → n ≤ length ys → take k xs ++ take n ys ≡ take (k + n) (put_mid k (length xs - k) xs ys)
both k n xs ys h l =
    let m : ℕ = length xs - k in
    sym (
    take-add k n (put_mid k m xs ys)
    ∙ ap₂ (λ x y. x ++ y)
    (take-put_mid_below k m xs ys k (le_refl k) h)
    (ap (take n) (drop_at (take k xs) (ys ++ post_of k m xs) k (length-take-le k xs h)) ∙ take-append-le n ys (post_of k m xs) l)
    )

-- a byte more than the longest input tells what is written for the whole input
pub whole : (input : List ℕ) → program (take 65537 input) ≡ program input
unfolding program
whole input = by (dec_le (length input) 65537)
  where
    by : Dec (length input ≤ 65537) → program (take 65537 input) ≡ program input
    by (yes h) = ap program (take_all 65537 input h)
    by (no h) = too_long (take 65537 input) raised (rw (length-take-le 65537 input (omega arith)) (omega arith)) ∙ sym (too_long input raised (omega arith))

-- what stands at the front of the buffer and is written is what the whole input asks for
pub told : (known before after : Option (List ℕ)) (s out rest : List ℕ) (r : ℕ) → IfSome known (λ input. s ≡ take 65537 input) → r ≡ length (program s) → out ≡ program s ++ rest → Appends before after (take r out) → IfSome known (λ input. Appends before after (program input))
told None before after s out rest r e n o a = tt
told (Some input) before after s out rest r e n o a =
    subst (Appends before after)
    (ap (take r) o ∙ take_at (program s) rest r (sym n) ∙ ap program e ∙ whole input) a

-- what holds of a value that is there holds after `map_err` too
pub mapped : {T D E : Type 0} (r : Result T E) (q : Result T D) (Q : E → D → Type 0) (P : T → Type 0) → MatchResult r (λ x. q ≡ Ok x) (λ e. IsErrAnd q (Q e)) → IfOk r P → IfOk q P
mapped (Ok x) q Q P e p = rw e p
mapped (Err d) (Ok y) Q P e p = absurd e
mapped (Err d) (Err b) Q P e p = tt
