-- What is said of a header whose shape, width and bits are known, by what the code found: limit, full and valid are its tests of the header of v.
use mathlib.Core.Path.{◌≡◌, sym, ap, ◌∙◌, subst}
use mathlib.Core.Bool.{Bool, true, false, not}
use mathlib.Core.List.{List}
use Prim.Native.Nat.{ℕ, ◌^◌, ◌≤◌, ◌<◌}
use lib.Dec.{T}
use lib.ListN.{length}
use Rattle.std.proofs.lemmas.Bool.{not_from_false, not_from_true}
use Rattle.model.specs.Slots.{valid_spread}
use Rattle.model.specs.Walls.{wall_size, limit_fits, full_fits, fresh}
use Rattle.model.proofs.Slots.{spread-fits}
use Rattle.model.proofs.Headers.{eq-eqb}
use Rattle.model.proofs.Steps.{eqb-false}
use Rattle.layout.specs.declared.Wall.{Wall}
use Rattle.layout.specs.Views.{header_of}
use Rattle.layout.proofs.Tests.{passed, failed}
use Rattle.header.specs.Headers.{Known}
use Rattle.fresh.specs.Raise.{raise_sized}
use Rattle.fresh.proofs.Starting.{full_most, sized_0, sized_15, sized_4, sized_5, sized_6}

module _ (v : Wall) (ws : List ℕ) (limit : Bool) (fits : limit ≡ limit_fits (header_of v)) where
  pub refused_4 : limit ≡ false → record { number = 4; value = 0; words = ws } ≡ raise_sized (header_of v) ws
  refused_4 t = sized_4 (header_of v) ws (failed limit (limit_fits (header_of v)) fits (not_from_false limit t))

  module _ (a : limit ≡ true) (full : Bool) (holds : full ≡ full_fits (header_of v)) where
    limited : T (limit_fits (header_of v))
    limited = passed limit (limit_fits (header_of v)) fits (not_from_true limit a)

    pub refused_5 : full ≡ false → record { number = 5; value = 0; words = ws } ≡ raise_sized (header_of v) ws
    refused_5 t = sized_5 (header_of v) ws limited (failed full (full_fits (header_of v)) holds (not_from_false full t))

    module _ (b : full ≡ true) where
      filled : T (full_fits (header_of v))
      filled = passed full (full_fits (header_of v)) holds (not_from_true full b)

      pub full-few : v.full ≤ 4096
      full-few = full_most (header_of v) filled

      module _ (valid : Bool) (spreads : valid ≡ valid_spread v.bits v.spread) where
        pub refused_15 : valid ≡ false → record { number = 15; value = 0; words = ws } ≡ raise_sized (header_of v) ws
        refused_15 t = sized_15 (header_of v) ws limited filled (failed valid (valid_spread v.bits v.spread) spreads (not_from_false valid t))

        module _ (s : valid ≡ true) where
          spread : T (valid_spread v.bits v.spread)
          spread = passed valid (valid_spread v.bits v.spread) spreads (not_from_true valid s)

          pub spread-small : Known v → v.spread < 2 ^ 32
          spread-small k = spread-fits v.bits v.spread k.bits_high spread

          module _ (n : ℕ) (size : n ≡ wall_size (header_of v)) where
            pub refused_6 : (length ws ≡ n → ⊥) → record { number = 6; value = 0; words = ws } ≡ raise_sized (header_of v) ws
            refused_6 t =
                sized_6 (header_of v) ws limited filled spread
                (subst (λ (x : Bool). T (not x)) (sym (eqb-false (length ws) (wall_size (header_of v)) (λ e. t (e ∙ sym size)))) tt)

            module _ (exact : length ws ≡ n) where
              pub long : length ws ≡ wall_size (header_of v)
              long = exact ∙ size

              pub done : (us : List ℕ) → us ≡ fresh (header_of v) → record { number = 0; value = 0; words = us } ≡ raise_sized (header_of v) ws
              done us w =
                  ap (λ (l : List ℕ). record { number = 0; value = 0; words = l }) w
                  ∙ sized_0 (header_of v) ws limited filled spread (eq-eqb long)
