use borrow.Author.Rules.{rules}
use mathlib.Core.Path.{◌≡◌, ◌∙◌}
use mathlib.Core.Bool.{Bool, true, false}
use mathlib.Core.List.{List}
use Prim.Native.Nat.{ℕ, ◌≤◌, ◌<◌}
use lib.Dec.{T}
use Rattle.model.specs.Shapes.{known_shape, width_asked}
use Rattle.model.specs.Slots.{known_bits}
use Rattle.model.specs.Calls.{Outcome, ask, raise}
use Rattle.layout.proofs.Tests.{passed, failed}
use Rattle.layout.specs.Views.{header_of}
use Rattle.header.specs.Headers.{Known}
use Rattle.fresh.specs.Raise.{raise_sized}
use Rattle.fresh.proofs.Starting.{known_at, at-asked, raise_1, raise_2, raise_3, raise-rest, wall_at}
use Rattle.std.proofs.lemmas.Bool.{not_from_false, not_from_true}
use Rattle.fresh.proofs.raise.Goals as goal

-- known is what the code found of the shape s, and fits of the bits b
module _ (ws : List ℕ) (s w b l f m : ℕ) (known : Bool) (shapes : known ≡ known_shape s) where
  refused_1 : known ≡ false → record { number = 1; value = 0; words = ws } ≡ raise (ask s w b l f m) ws
  refused_1 z = raise_1 (ask s w b l f m) ws (failed known (known_shape s) shapes (not_from_false known z))

  module _ (k : known ≡ true) where
    shape : T (known_shape s)
    shape = passed known (known_shape s) shapes (not_from_true known k)

    refused_2 : 16 < w → record { number = 2; value = 0; words = ws } ≡ raise (ask s w b l f m) ws
    refused_2 z = raise_2 (ask s w b l f m) ws shape z

    module _ (narrow : w ≤ 16) (fits : Bool) (bits : fits ≡ known_bits b) where
      refused_3 : fits ≡ false → record { number = 3; value = 0; words = ws } ≡ raise (ask s w b l f m) ws
      refused_3 z = raise_3 (ask s w b l f m) ws shape narrow (failed fits (known_bits b) bits (not_from_false fits z))

      -- u is the width as it is used
      module _ (t : fits ≡ true) (u : ℕ) (wide : u ≡ width_asked w) where
        header : Known (wall_at (ask s w b l f m) u)
        header = known_at (wall_at (ask s w b l f m) u) w shape narrow wide (passed fits (known_bits b) bits (not_from_true fits t))

        sized : (o : Outcome) → o ≡ raise_sized (header_of (wall_at (ask s w b l f m) u)) ws → o ≡ raise (ask s w b l f m) ws
        sized o e =
            e ∙ at-asked (λ h. raise_sized h ws) (ask s w b l f m) u wide
            ∙ raise-rest (ask s w b l f m) ws shape narrow (passed fits (known_bits b) bits (not_from_true fits t))

pub returns-then-not-known_shape : goal.returns-then-not-known_shape
returns-then-not-known_shape c = search (rules, refused_1)

pub returns-then-width-gt-MAX_WIDTH : goal.returns-then-width-gt-MAX_WIDTH
returns-then-width-gt-MAX_WIDTH c = search (rules, refused_2)

pub returns-then-not-known_bits : goal.returns-then-not-known_bits
returns-then-not-known_bits c = search (rules, refused_3)

pub raise_sized-requires : goal.raise_sized-requires
raise_sized-requires c = search (rules, header)

pub returns : goal.returns
returns c = search (rules, sized)
