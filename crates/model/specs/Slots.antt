-- Where a flow stands.
use Rattle.std.specs.Prelude.{Bool, true, ◌&&◌, reverse, ℕ, ◌*◌, ◌%◌, ◌^◌, leb, ltb, eqb}
use Rattle.model.specs.Lists.{by_mark}
use Rattle.model.specs.Packed.{pack, unpack}

-- y with its b bits in reverse order
abbrev pub reversed : ℕ → ℕ → ℕ
reversed b y = pack 1 (reverse (unpack 1 b y))

-- the slot of flow y of 2 ^ b: spread 0 reverses its bits, any other multiplies by it
abbrev pub slot : ℕ → ℕ → ℕ → ℕ
slot b m y = by_mark m (reversed b y) (y * m % 2 ^ b)

abbrev pub known_bits : ℕ → Bool
known_bits b = leb 6 b && leb b 22

-- a spread is 0, or odd and below 2 ^ b
abbrev pub valid_spread : ℕ → ℕ → Bool
valid_spread b m = by_mark m true (eqb (m % 2) 1 && ltb m (2 ^ b))
