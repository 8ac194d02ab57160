-- What a failure says of what was written.
use Rattle.std.specs.Prelude.{⊤}
use Rattle.count.specs.declared.Failure.{Failure}
use Rattle.count.specs.declared.Failure.TheVariants.{Read, Write}

-- P holds where it was a read that failed
abbrev pub IfUnread : Failure → Type 0 → Type 0
IfUnread (Read e) P = P
IfUnread (Write e) P = ⊤
