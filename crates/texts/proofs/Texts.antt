-- Texts written one after another, where there is room for all of them.
use Rattle.std.proofs.Common.{◌≡◌, List, ◌++◌, ℕ, length, ap₂, ◌∙◌, arith, length-append}
use Rattle.model.specs.Lists.{splice}
use Rattle.model.proofs.Splices.{splice_on, length-splice}
use Rattle.texts.specs.Writing.{Room, Wrote, Fits, Added}
use Rattle.texts.specs.declared.Page.{Page}

pub same_length : {o s p : List ℕ} {at n : ℕ} → Room o at s → Wrote o at s p n → length p ≡ length o
same_length {o} {s} {at = at} h w = rw w.bytes (length-splice o at s h)

module _ (p : Page) (s t : List ℕ) (h : Fits p (s ++ t)) where
  pub fits-first : Fits p s
  fits-first = omega (arith, simp length-append at h)

  pub fits-next : {q : Page} → Added p s q → Fits q t
  fits-next a = omega (arith, simp length-append at h, a.wrote.ends, same_length fits-first a.wrote)

  pub and_then : {q r : Page} → Added p s q → Added q t r → Added p (s ++ t) r
  and_then a b = record {
    same = b.same ∙ a.same;
    wrote = record {
      bytes = b.wrote.bytes ∙ ap₂ (λ x k. splice x k t) a.wrote.bytes a.wrote.ends ∙ splice_on p.bytes.now p.len (omega arith) s t;
      ends = rw (length-append s t) (omega (arith, a.wrote.ends, b.wrote.ends));
    };
  }

module _ (p : Page) (s t u : List ℕ) (h : Fits p (s ++ (t ++ u))) where
  pub fits_second : {q : Page} → Added p s q → Fits q t
  fits_second {q} a = fits-first q t u (fits-next p s (t ++ u) h a)

  pub fits_third : {q r : Page} → Added p s q → Added q t r → Fits r u
  fits_third {q} a b = fits-next q t u (fits-next p s (t ++ u) h a) b

  pub all_three : {q r v : Page} → Added p s q → Added q t r → Added r u v → Added p (s ++ (t ++ u)) v
  all_three {q} a b c = and_then p s (t ++ u) h a (and_then q t u (fits-next p s (t ++ u) h a) b c)
