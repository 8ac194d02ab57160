-- A wall's header as the code opens it.
use Rattle.std.specs.Prelude.{◌≡◌, List, ℕ, ◌/◌, ◌%◌, ◌^◌, ◌≤◌, T, length, Option, Some, None}
use Rattle.model.specs.Lists.{choose}
use Rattle.model.specs.Walls.{head_field, letters, version, word_at, good}
use Rattle.layout.specs.declared.Wall.{Wall}

-- the fields of the first four words
abbrev pub fields_of : List ℕ → Wall
fields_of ws = record {
  shape = head_field ws 2;
  width = head_field ws 3;
  bits = head_field ws 4;
  limit = word_at ws 1;
  total = word_at ws 2;
  full = word_at ws 3 % 2 ^ 16;
  used = word_at ws 3 / 2 ^ 16 % 2 ^ 16;
  spread = word_at ws 3 / 2 ^ 16 / 2 ^ 16;
}

-- shape, width and bits are within their limits
pub record Known (v : Wall) : Type 0 where
  pub shape_low : 3 ≤ v.shape
  pub shape_high : v.shape ≤ 5
  pub width_low : 1 ≤ v.width
  pub width_high : v.width ≤ 16
  pub bits_low : 6 ≤ v.bits
  pub bits_high : v.bits ≤ 22

-- the letters and the version of words that are long enough
pub record Marked (ws : List ℕ) : Type 0 where
  pub long : 4 ≤ length ws
  pub letters : head_field ws 0 ≡ letters
  pub version : head_field ws 1 ≡ version

-- the header of words that number 7 does not meet
abbrev pub opened_of : List ℕ → Option Wall
opened_of ws = choose (good ws) (Some (fields_of ws)) None

-- v is the header of these words, and good
pub record Open (ws : List ℕ) (v : Wall) : Type 0 where
  pub fields : v ≡ fields_of ws
  pub good : T (good ws)
