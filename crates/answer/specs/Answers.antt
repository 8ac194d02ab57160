-- The answer of the code as the model's reply, and with the words that a call leaves as its outcome.
use Rattle.std.specs.Prelude.{List, ℕ, Result, Ok, Err, ⊤}
use Rattle.model.specs.Calls.{Reply, Outcome}
use Rattle.model.specs.BusyLists.{Listing}
use Rattle.answer.specs.declared.Answer.{Answer}
use Rattle.answer.specs.declared.Refusal.{Refusal}
use Rattle.answer.specs.declared.Refusal.TheVariants.{BadShape, BadWidth, BadBits, BadLimit, BadFull, BadLength, BadHeader, NoFlow, Unsound, AtLimit, NoFull, UnsoundWall, ListShort, BadSpread}
use Rattle.answer.specs.declared.Fault.{Fault}
use Rattle.answer.specs.declared.Fault.TheVariants as fault

abbrev pub reply_of : Answer → Reply
reply_of a = record { number = a.number; value = a.value }

abbrev pub outcome_of : Answer → List ℕ → Outcome
outcome_of a ws = record { number = a.number; value = a.value; words = ws }

-- with the words of a wall and of a list that were lent
abbrev pub listing_of : Answer → List ℕ → List ℕ → Listing
listing_of a ws list = record { number = a.number; value = a.value; words = ws; list = list }

-- ---- a call of the code as its answer

abbrev pub number_of : Refusal → ℕ
number_of BadShape = 1
number_of BadWidth = 2
number_of BadBits = 3
number_of BadLimit = 4
number_of BadFull = 5
number_of BadLength = 6
number_of BadHeader = 7
number_of NoFlow = 8
number_of Unsound = 9
number_of AtLimit = 10
number_of NoFull = 12
number_of UnsoundWall = 13
number_of ListShort = 14
number_of BadSpread = 15

-- the value when done; a refusal gives its number and 0
abbrev pub answer_of : Result ℕ Refusal → Answer
answer_of (Ok v) = record { number = 0; value = v }
answer_of (Err r) = record { number = number_of r; value = 0 }

-- what the check finds as the refusal of a call that makes it first: without the bucket
abbrev pub refusal_of : Fault → Refusal
refusal_of fault.BadHeader = BadHeader
refusal_of (fault.Unsound b) = Unsound
refusal_of fault.UnsoundWall = UnsoundWall

-- the check's own answer: 9 comes with the bucket, any other number with 0
abbrev pub checked_of : Result ⊤ Fault → Answer
checked_of (Ok _) = record { number = 0; value = 0 }
checked_of (Err fault.BadHeader) = record { number = 7; value = 0 }
checked_of (Err (fault.Unsound b)) = record { number = 9; value = b }
checked_of (Err fault.UnsoundWall) = record { number = 13; value = 0 }
