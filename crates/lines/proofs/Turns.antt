-- The input answered line by line: what is said so far, and what a line adds.
use mathlib.Core.Path.{◌≡◌, refl, sym, ap, ◌∙◌}
use mathlib.Core.Bool.{Bool, true, false}
use mathlib.Core.List.{List, [], ◌∷◌, ◌++◌, append_assoc}
use Prim.Native.Nat.{ℕ, ◌+◌, ◌≤◌, ◌<◌}
use native.Mathlib.Nat.{zero-add}
use borrow.Author.Tests.{lt-ltb, le-ltb}
use lib.ListN.{length, drop}
use Rattle.model.specs.Lists.{choose}
use Rattle.model.specs.Walls.{read_header}
use Rattle.model.specs.Calls.{increment}
use Rattle.answer.specs.declared.Answer.{Answer}
use Rattle.answer.specs.Answers.{outcome_of}
use Rattle.texts.specs.Texts.{answer_line, total_line, bad_line}
use Rattle.std.specs.Prelude.{Some, None}
use Rattle.texts.specs.declared.Page.{Page}
use Rattle.texts.specs.Writing.{Wrote, Fits, Added}
use Rattle.texts.proofs.Texts.{fits-first, fits-next, and_then}
use Rattle.lines.specs.Transcript.{lines_of, is_flow, value_of, flow_of, answers, words_of, bad_input, transcript, words_after}

-- a flow, or none
none : (b : Bool) (v : ℕ) → None ≡ choose b (Some v) None → b ≡ false
none false v e = refl
none true v e = cc

some : (b : Bool) (v y : ℕ) → Some y ≡ choose b (Some v) None → (b ≡ true) × (v ≡ y)
some true v y e = (refl, cc)
some false v y e = cc

-- ---- the loop

-- the lines before ls are answered: what is said stands on the page, and the rest is what is left
pub record Done (ls₀ : List (List ℕ)) (ws₀ : List ℕ) (page₀ : Page) (ls : List (List ℕ)) (ws : List ℕ) (page : Page) (line : ℕ) : Type 0 where
  pub said : List ℕ
  pub added : Added page₀ said page
  pub text : answers 1 ls₀ ws₀ ≡ said ++ answers line ls ws
  pub words : words_of ls₀ ws₀ ≡ words_of ls ws

module _ {ls₀ : List (List ℕ)} {ws₀ : List ℕ} {page₀ : Page} {ls : List (List ℕ)} {ws : List ℕ} {page : Page} {line : ℕ} (d : Done ls₀ ws₀ page₀ ls ws page line) (room : Fits page₀ (answers 1 ls₀ ws₀)) where
  left : Fits page (answers line ls ws)
  left = fits-next page₀ d.said (answers line ls ws) (rw d.text at room) d.added

  -- the last text, and all is said
  last : (t : List ℕ) → answers line ls ws ≡ t → {p : Page} → Added page t p → Added page₀ (answers 1 ls₀ ws₀) p
  last t e a = rw (d.text, e) (and_then page₀ d.said t (rw (d.text, e) at room) d.added a)

  -- ---- after the last line

  module _ (e : ls ≡ []) where
    ended : answers line ls ws ≡ total_line (read_header ws).total (read_header ws).used
    unfolding answers
    ended = rw e

    pub total-room : Fits page (total_line (read_header ws).total (read_header ws).used)
    total-room = rw ended at left

    pub total-done : {p : Page} → Added page (total_line (read_header ws).total (read_header ws).used) p → Added page₀ (answers 1 ls₀ ws₀) p
    total-done a = last (total_line (read_header ws).total (read_header ws).used) ended a

    pub total-words : ws ≡ words_of ls₀ ws₀
    unfolding words_of
    total-words = sym (d.words ∙ rw e)

  -- ---- a line

  module _ {l : List ℕ} {more : List (List ℕ)} (e : ls ≡ l ∷ more) where
    module _ (f : None ≡ flow_of l) where
      bad : answers line ls ws ≡ bad_line line
      unfolding answers
      bad = rw (e, none (is_flow l) (value_of l) f)

      pub bad_room : Fits page (bad_line line)
      bad_room = rw bad at left

      pub bad_done : {p : Page} → Added page (bad_line line) p → Added page₀ (answers 1 ls₀ ws₀) p
      bad_done a = last (bad_line line) bad a

      pub bad_words : ws ≡ words_of ls₀ ws₀
      unfolding words_of
      bad_words = sym (d.words ∙ rw (e, none (is_flow l) (value_of l) f))

    module _ {y : ℕ} (a : Answer) (vs : List ℕ) (f : Some y ≡ flow_of l) (g : outcome_of a vs ≡ increment ws y) where
      flow : answers line ls ws ≡ answer_line y a.number a.value ++ answers (line + 1) more vs
      unfolding answers
      flow = let k = some (is_flow l) (value_of l) y f in rw (e, k.0, k.1, ← g)

      flow-words : words_of ls ws ≡ words_of more vs
      unfolding words_of
      flow-words = let k = some (is_flow l) (value_of l) y f in rw (e, k.0, k.1, ← g)

      pub flow-room : Fits page (answer_line y a.number a.value)
      flow-room = fits-first page (answer_line y a.number a.value) (answers (line + 1) more vs) (rw flow at left)

      said-next : answers 1 ls₀ ws₀ ≡ (d.said ++ answer_line y a.number a.value) ++ answers (line + 1) more vs
      said-next = d.text ∙ rw (flow, append_assoc)

      pub flow-done : {p : Page} → Added page (answer_line y a.number a.value) p → Done ls₀ ws₀ page₀ more vs p (line + 1)
      flow-done w = record {
        said = d.said ++ answer_line y a.number a.value;
        added = and_then page₀ d.said (answer_line y a.number a.value) (fits-first page₀ (d.said ++ answer_line y a.number a.value) (answers (line + 1) more vs) (rw said-next at room)) d.added w;
        text = said-next;
        words = d.words ∙ flow-words;
      }

-- ---- the whole

pub too_long : (input ws : List ℕ) → 65536 < length input → transcript input ws ≡ bad_input
unfolding transcript
too_long input ws h = rw (lt-ltb 65536 (length input) h)

pub words_stay : (input ws : List ℕ) → 65536 < length input → words_after input ws ≡ ws
unfolding words_after
words_stay input ws h = rw (lt-ltb 65536 (length input) h)

pub by_lines : (input ws : List ℕ) → length input ≤ 65536 → transcript input ws ≡ answers 1 (lines_of input) ws
unfolding transcript
by_lines input ws h = rw (le-ltb 65536 (length input) h)

pub words-by_lines : (input ws : List ℕ) → length input ≤ 65536 → words_after input ws ≡ words_of (lines_of input) ws
unfolding words_after
words-by_lines input ws h = rw (le-ltb 65536 (length input) h)

-- a text at the front of a buffer
pub front : {o b t p : List ℕ} {at r : ℕ} → o ≡ b → at ≡ 0 → Wrote o at t p r → (r ≡ length t) × (p ≡ t ++ drop r b)
front {b = b} {t = t} e z w =
    let n = rw (z, zero-add) at w.ends in
    (n, rw (e, z, zero-add) at w.bytes ∙ ap (λ n. t ++ drop n b) (sym n))
