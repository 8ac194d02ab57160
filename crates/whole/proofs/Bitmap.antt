-- A bit of a bitmap is set: a word of it is a word of moved flags.
use mathlib.Core.Logic.{◌≢◌}
use mathlib.Core.Path.{◌≡◌, refl, sym, ap, ◌∙◌, subst}
use mathlib.Core.List.{List}
use Prim.Native.Nat.{ℕ, ◌/◌, ◌%◌, ◌^◌, ◌<◌}
use native.Mathlib.Nat.{div-add-mod', mod-lt}
use native.Mathlib.Omega.{arith}
use lib.Dec.{lit<}
use lib.ListN.{length, get_or, set, replicate, length-set}
use lib.Seq.{get_or-set_same, get_or-set_other}
use Rattle.model.specs.Packed.{bit, replaced}
use Rattle.model.specs.Walls.{Full}
use Rattle.model.specs.Calls.{move_in}
use Rattle.model.proofs.Tools.{by_eq}
use Rattle.model.proofs.Buckets.{moved_here, moved_other}
use Rattle.moves.proofs.Fulls.{moved-words}
use Rattle.packed.proofs.Words.{replaced_lt}
use Rattle.whole.specs.Check.{Bitmap, Noted}

module _ (x a : ℕ) (l : a < 64) (h : x < 2 ^ 64) where
  abbrev flags : Full
  flags = record { moved = x; counts = replicate 64 0 }

  set-flags : replaced 1 x a 1 ≡ (move_in flags a 0).moved
  set-flags = ap (λ ws. get_or ws 0 0) (moved-words flags a 0 l h)

  bit-here : bit (replaced 1 x a 1) a ≡ 1
  bit-here = ap (λ m. bit m a) set-flags ∙ moved_here flags a 0 l refl

  bit-other : (b : ℕ) → b < 64 → b ≢ a → bit (replaced 1 x a 1) b ≡ bit x b
  bit-other b m z = ap (λ y. bit y b) set-flags ∙ moved_other flags a 0 l refl b m z

pub noted : (seen : List ℕ) (n : ℕ) → Bitmap seen → n < 4096 → Noted seen (set seen (n / 64) (replaced 1 (get_or seen (n / 64) 0) (n % 64) 1)) n
noted seen n s b =
    let x : ℕ = get_or seen (n / 64) 0 in
    let y : ℕ = replaced 1 x (n % 64) 1 in
    let k : n % 64 < 64 = mod-lt n (lit< tt) in
    let h : x < 2 ^ 64 = s.words (n / 64) in
    let l : n / 64 < length seen = omega (arith, s.long) in
    record {
      bitmap = record {
        long = length-set seen (n / 64) y ∙ s.long;
        words = λ i. by_eq i (n / 64)
            (λ e. subst (λ i. get_or (set seen (n / 64) y) i 0 < 2 ^ 64) (sym e) (subst (λ w. w < 2 ^ 64) (sym (get_or-set_same seen (n / 64) y 0 l)) (replaced_lt 64 1 x (n % 64) 1 h (omega arith) (lit< tt))))
            (λ f. subst (λ w. w < 2 ^ 64) (sym (get_or-set_other seen (n / 64) i y 0 f)) (s.words i));
      };
      here = ap (λ w. bit w (n % 64)) (get_or-set_same seen (n / 64) y 0 l) ∙ bit-here x (n % 64) k h;
      other = λ q z. by_eq (q / 64) (n / 64)
          (λ e.
          ap (λ i. bit (get_or (set seen (n / 64) y) i 0) (q % 64)) e ∙ ap (λ w. bit w (q % 64)) (get_or-set_same seen (n / 64) y 0 l)
          ∙ bit-other x (n % 64) k h (q % 64) (mod-lt q (lit< tt)) (λ r. z (omega (arith, div-add-mod' q 64, div-add-mod' n 64)))
          ∙ ap (λ i. bit (get_or seen i 0) (q % 64)) (sym e))
          (λ f. ap (λ w. bit w (q % 64)) (get_or-set_other seen (n / 64) (q / 64) y 0 f));
    }
