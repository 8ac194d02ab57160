-- Text written into a buffer: what the contracts say.
use Rattle.std.specs.Prelude.{◌≡◌, List, ℕ, ◌+◌, ◌≤◌, length}
use Rattle.model.specs.Lists.{splice}
use Rattle.texts.specs.declared.Page.{Page}

-- there is room for the text at a place
abbrev pub Room : List ℕ → ℕ → List ℕ → Type 0
Room out at text = at + length text ≤ length out

-- the text stands at a place of the buffer, which is else as before, and the next place comes after it
pub record Wrote (before : List ℕ) (at : ℕ) (text after : List ℕ) (next : ℕ) : Type 0 where
  pub bytes : after ≡ splice before at text
  pub ends : next ≡ at + length text

-- there is room for the text on the page
abbrev pub Fits : Page → List ℕ → Type 0
Fits page text = Room page.bytes.now page.len text

-- the text comes after what stood on the page, which is the same buffer
pub record Added (before : Page) (text : List ℕ) (after : Page) : Type 0 where
  pub same : after.bytes.ghost_name ≡ before.bytes.ghost_name
  pub wrote : Wrote before.bytes.now before.len text after.bytes.now after.len
