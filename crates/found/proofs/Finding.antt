-- A flow's place in a wall whose header is good.
use mathlib.Core.Path.{◌≡◌, sym, ap, ap₂, ◌∙◌, subst}
use mathlib.Core.List.{List}
use Prim.Native.Nat.{ℕ, ◌/◌, ◌%◌, ◌^◌, ◌≤◌, ◌<◌}
use lib.ListN.{get_or}
use Rattle.model.specs.Slots.{slot}
use Rattle.model.specs.Walls.{Header, flows, buckets_in, bucket_of, place_of, parse}
use Rattle.model.specs.Sound.{counts_at, count}
use Rattle.model.proofs.Headers.{bucket_lt}
use Rattle.model.proofs.Slots.{spread_lt}
use Rattle.layout.specs.declared.Wall.{Wall}
use Rattle.layout.specs.Views.{header_of}
use Rattle.header.specs.Headers.{Open}
use Rattle.header.proofs.Places.{open_known, open_limits, open_header}

module _ (ws : List ℕ) (v : Wall) (o : Open ws v) where
  pub flows_of : flows (parse ws).header ≡ 2 ^ v.bits
  flows_of = ap flows (sym (open_header ws v o))

  -- what the slot rule asks
  pub slot_asks : (y : ℕ) → y < flows (parse ws).header → (v.bits ≤ 22) × (v.spread < 2 ^ v.bits) × (y < 2 ^ v.bits)
  slot_asks y h = ((open_known ws v o).bits_high, spread_lt v.bits v.spread (open_limits ws v o).spread-valid, subst (λ n. y < n) flows_of h)

  pub bucket-of : (y s : ℕ) → s ≡ slot v.bits v.spread y → s / 64 ≡ bucket_of (parse ws).header y
  bucket-of y s e = ap (λ s. s / 64) e ∙ ap (λ (h : Header). bucket_of h y) (open_header ws v o)

  pub place-of : (y s : ℕ) → s ≡ slot v.bits v.spread y → s % 64 ≡ place_of (parse ws).header y
  place-of y s e = ap (λ s. s % 64) e ∙ ap (λ (h : Header). place_of h y) (open_header ws v o)

  pub bucket_in : (y s : ℕ) → s ≡ slot v.bits v.spread y → s / 64 < buckets_in (header_of v)
  bucket_in y s e = subst (λ n. n / 64 < buckets_in (header_of v)) (sym e) (bucket_lt (header_of v) y (open_known ws v o).bits_low)

pub count_of : (ws : List ℕ) (y i a : ℕ) → i ≡ bucket_of (parse ws).header y → a ≡ place_of (parse ws).header y → get_or (counts_at (parse ws) i) a 0 ≡ count (parse ws) y
unfolding count
count_of ws y i a p q = ap₂ (λ i a. get_or (counts_at (parse ws) i) a 0) p q
