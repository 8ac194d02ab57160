-- The slot call, case by case.
use mathlib.Core.Path.{◌≡◌, sym, ◌∙◌}
use mathlib.Core.Bool.{Bool, true, false, not}
use Prim.Native.Nat.{ℕ, ◌^◌, ◌≤◌, ◌<◌}
use lib.Dec.{leb, ltb, leb→le}
use borrow.Author.Tests.{ltb-true, ltb-false, le-leb, lt-leb, not-true, not-false}
use Rattle.model.specs.Slots.{slot, known_bits, valid_spread}
use Rattle.model.specs.Calls.{slot_call}
use Rattle.model.proofs.Tools.{and_tests}
use Rattle.model.proofs.Slots.{spread_lt}
use Rattle.layout.proofs.Tests.{passed}

-- known, valid and within are what the code found of b, m and y, and r is what it answers
module _ (b m y : ℕ) (known valid within : Bool) (says : known ≡ known_bits b) (holds : valid ≡ valid_spread b m) (tells : within ≡ ltb y (2 ^ b)) where
  pub refused_3 : not known ≡ true → record { number = 3; value = 0 } ≡ slot_call b m y
  unfolding slot_call
  refused_3 t = rw (sym says ∙ not-true known t)

  module _ (k : not known ≡ false) where
    pub most : b ≤ 22
    most = leb→le b 22 (and_tests (leb 6 b) (leb b 22) (passed known (known_bits b) says k)).1

    pub refused_15 : not valid ≡ true → record { number = 15; value = 0 } ≡ slot_call b m y
    unfolding slot_call
    refused_15 t = rw (sym says ∙ not-false known k, sym holds ∙ not-true valid t)

    module _ (s : not valid ≡ false) where
      pub spread-below : m < 2 ^ b
      spread-below = spread_lt b m (passed valid (valid_spread b m) holds s)

      pub refused_8 : not within ≡ true → record { number = 8; value = 0 } ≡ slot_call b m y
      unfolding slot_call
      refused_8 t = rw (sym says ∙ not-false known k, sym holds ∙ not-false valid s, le-leb (2 ^ b) y (ltb-false y (2 ^ b) (sym tells ∙ not-true within t)))

      module _ (l : not within ≡ false) where
        pub flow-below : y < 2 ^ b
        flow-below = ltb-true y (2 ^ b) (sym tells ∙ not-false within l)

        pub done : record { number = 0; value = slot b m y } ≡ slot_call b m y
        unfolding slot_call
        done = rw (sym says ∙ not-false known k, sym holds ∙ not-false valid s, lt-leb (2 ^ b) y flow-below)
