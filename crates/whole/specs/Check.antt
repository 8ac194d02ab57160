-- What the check of a whole wall has found when it passed its first i buckets.
use Rattle.std.specs.Prelude.{◌≢◌, ◌≡◌, not, List, ℕ, ◌+◌, ◌/◌, ◌%◌, ◌^◌, ◌≤◌, ◌<◌, T, get_or, length, Option, Some, None, Result, Ok, Err}
use Rattle.model.specs.Lists.{lowest, sum, tabulate}
use Rattle.model.specs.Packed.{bit}
use Rattle.model.specs.Levels.{sign}
use Rattle.model.specs.Walls.{Wall, buckets_in}
use Rattle.model.specs.Sound.{bucket_at, counts_at, holds_number, sound_at, sound_buckets}
use Rattle.whole.specs.declared.Tally.{Tally}

-- ---- a bit for each number

abbrev pub seen_at : List ℕ → ℕ → ℕ
seen_at seen q = bit (get_or seen (q / 64) 0) (q % 64)

pub record Bitmap (seen : List ℕ) : Type 0 where
  pub long : length seen ≡ 64
  pub words : (i : ℕ) → get_or seen i 0 < 2 ^ 64

-- the bit of n is set, and the others stay
pub record Noted (before after : List ℕ) (n : ℕ) : Type 0 where
  pub bitmap : Bitmap after
  pub here : seen_at after n ≡ 1
  pub other : (q : ℕ) → q ≢ n → seen_at after q ≡ seen_at before q

-- ---- the first i buckets

-- how many of them hold the number q; of all buckets this is the model's holders
unfoldable pub holders_to : Wall → ℕ → ℕ → ℕ
holders_to v i q = sum (tabulate i (λ k. holds_number q (bucket_at v k)))

-- the bits say which numbers they hold
pub record Seen (v : Wall) (i : ℕ) (seen : List ℕ) : Type 0 where
  pub bitmap : Bitmap seen
  pub bits : (q : ℕ) → q < v.header.used → seen_at seen q ≡ sign (holders_to v i q)

pub record Passed (v : Wall) (i : ℕ) (t : Tally) : Type 0 where
  pub sound : (k : ℕ) → k < i → T (sound_at v k)
  pub counts : t.sum ≡ sum (tabulate i (λ k. sum (counts_at v k)))
  pub flags : t.flagged ≡ sum (tabulate v.header.used (holders_to v i))
  -- each number held has one first holder; the others came again
  pub firsts : t.again + sum (tabulate v.header.used (λ q. sign (holders_to v i q))) ≡ t.flagged
  pub few : t.flagged ≤ i

-- bucket i after them
abbrev pub Weighed : Wall → ℕ → List ℕ → Option Tally → Type 0
Weighed v i seen (Some t) = Passed v (i + 1) t × Seen v (i + 1) seen
Weighed v i seen None = T (not (sound_at v i))

-- all buckets, or the lowest unsound one
abbrev pub Counted : Wall → Result Tally ℕ → Type 0
Counted v (Ok t) = Passed v (buckets_in v.header) t
Counted v (Err i) = T (not (sound_buckets v)) × (i ≡ lowest (buckets_in v.header) (sound_at v))
