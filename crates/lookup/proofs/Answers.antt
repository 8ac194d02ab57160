-- The answers of lookup.
use mathlib.Core.Path.{◌≡◌, sym, ap, ◌∙◌}
use mathlib.Core.List.{List, [], ◌++◌}
use Prim.Native.Nat.{ℕ, ◌<◌}
use Rattle.model.specs.Walls.{parse}
use Rattle.model.specs.Sound.{count}
use Rattle.model.specs.Calls.{Clear, first_met, bucket_refusals, lookup}
use Rattle.model.proofs.Refusals.{first_clear, answer_done, refused_as}

pub lookup_refuses : (ws : List ℕ) (y n : ℕ) → 0 < n → first_met (bucket_refusals ws y ++ []) ≡ n → record { number = n; value = 0; words = ws } ≡ lookup ws y
unfolding lookup
lookup_refuses ws y = refused_as (bucket_refusals ws y) (count (parse ws) y) ws ws

pub lookup-done : (ws : List ℕ) (y c : ℕ) → Clear (bucket_refusals ws y) → c ≡ count (parse ws) y → record { number = 0; value = c; words = ws } ≡ lookup ws y
unfolding lookup
lookup-done ws y c t e =
    ap (λ c. record { number = 0; value = c; words = ws }) e
    ∙ sym (answer_done (count (parse ws) y) ws ws (first_met (bucket_refusals ws y)) (first_clear (bucket_refusals ws y) t))
