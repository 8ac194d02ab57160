-- An answer that was said, beside the words that the call leaves.
use mathlib.Core.Path.{◌≡◌, ap}
use mathlib.Core.List.{List}
use Prim.Native.Nat.{ℕ}
use Rattle.model.specs.Calls.{Reply}
use Rattle.answer.specs.declared.Answer.{Answer}
use Rattle.answer.specs.Answers.{reply_of, outcome_of, listing_of}

pub said : (r : Answer) (n v : ℕ) (ws : List ℕ) → reply_of r ≡ record { number = n; value = v } → outcome_of r ws ≡ record { number = n; value = v; words = ws }
said r n v ws e = ap (λ (r : Reply). record { number = r.number; value = r.value; words = ws }) e

pub said-list : (r : Answer) (n v : ℕ) (ws list : List ℕ) → reply_of r ≡ record { number = n; value = v } → listing_of r ws list ≡ record { number = n; value = v; words = ws; list = list }
said-list r n v ws list e = ap (λ (r : Reply). record { number = r.number; value = r.value; words = ws; list = list }) e
