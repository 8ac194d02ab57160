use borrow.Author.Rules.{rules}
use mathlib.Core.Path.{sym, subst}
use Prim.Native.Nat.{ℕ, ◌/◌}
use lib.ListN.{set}
use Rattle.whole.specs.Check.{Noted}
use Rattle.whole.proofs.Bitmap.{noted}
use Rattle.whole.proofs.mark.Goals as goal

pub returns : goal.returns
returns c =
    let a = c.args in (
      search rules,
      search rules,
      subst (λ (y : ℕ). Noted a.seen.now (set a.seen.now (a.number / 64) y) a.number) (sym c.set_mark.ensures) (noted a.seen.now a.number c.requires.1 c.requires.0),
    )
