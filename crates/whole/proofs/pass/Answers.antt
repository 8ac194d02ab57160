use borrow.Author.Rules.{rules}
use native.Mathlib.Omega.{arith}
use mathlib.Core.Path.{◌≡◌, ap, ◌∙◌, subst}
use mathlib.Core.Bool.{not}
use mathlib.Core.List.{List}
use Prim.Native.Nat.{ℕ, ◌<◌}
use lib.Dec.{T}
use Rattle.std.specs.Prelude.{Option, Some, None, Result, Err, ok_or}
use Rattle.std.proofs.lemmas.Result.{err_from_is_err_and}
use Rattle.model.specs.Walls.{Wall, buckets_in, parse}
use Rattle.model.specs.Sound.{sound_at}
use Rattle.layout.specs.Views.{header_of}
use Rattle.whole.specs.declared.Tally.{Tally}
use Rattle.whole.specs.Check.{Counted, Passed, Weighed}
use Rattle.header.specs.declared.Opened.{Opened}
use Rattle.header.proofs.Places.{opened, open_header, open_known}
use Rattle.whole.proofs.Tallying.{passed_none, seen_none}
use Rattle.whole.proofs.Checking.{lowest_is, not-every}
use Rattle.whole.proofs.pass.Goals as goal

-- n is the number of all buckets
all-n : (o : Opened) {n : ℕ} → n ≡ buckets_in (header_of o.header) → n ≡ buckets_in (parse o.words.now).header
all-n o e = e ∙ ap buckets_in (open_header _ _ (opened o))

-- the pass ends at bucket j, where r is what was found of bucket i
ends : (v : Wall) (i j : ℕ) (seen : List ℕ) (r : Option Tally) → Weighed v i seen r → ◌≡◌ {A = Result Tally ℕ} (Err j) (ok_or r i) → (j ≡ i) × T (not (sound_at v i))
ends v i j seen None w e = (cc, w)
ends v i j seen (Some t) w e = let z : ◌≡◌ {A = ℕ} 0 1 = cc in absurd (omega arith)

lowest_found : (o : Opened) (n i : ℕ) (t : Tally) → n ≡ buckets_in (header_of o.header) → i < n → Passed (parse o.words.now) i t → T (not (sound_at (parse o.words.now) i)) → Counted (parse o.words.now) (Err i)
lowest_found o n i t e l p z =
    let w = parse o.words.now in
    let h = subst (λ n. i < n) (all-n o e) l in
    (not-every (buckets_in w.header) (sound_at w) i h z, lowest_is (buckets_in w.header) (sound_at w) i h p.sound z)

pub buckets-n-requires : goal.buckets-n-requires
buckets-n-requires c = open_known _ _ (opened c.args.wall.now)

pub loop-i-init : goal.loop-i-init
loop-i-init c = (search rules, passed_none _, seen_none _)

pub weigh-requires : goal.weigh-requires
weigh-requires c = search rules

pub returns-in_err-t : goal.returns-in_err-t
returns-in_err-t c =
    let p = err_from_is_err_and c.from_residual.result c.from_residual.ensures.1 in
    let e = ends _ c.loop-i.i c.in_err-t.field-0.0 c.weigh.new.seen c.weigh.result c.weigh.ensures c.in_err-t.ensures.value in
    rw (p.1, p.2, e.0) (lowest_found c.args.wall.now _ c.loop-i.i c.loop-i.t c.buckets-n.ensures.0 c.loop-i-test.true c.loop-i.invariant.1 e.1)

pub returns : goal.returns
returns c =
    let e : c.loop-i.i ≡ c.buckets-n.result = omega (arith, c.loop-i-test.false, c.loop-i.invariant.0) in
    subst (λ n. Passed (parse c.args.wall.now.words.now) n c.loop-i.t) (e ∙ all-n c.args.wall.now c.buckets-n.ensures.0) c.loop-i.invariant.1
