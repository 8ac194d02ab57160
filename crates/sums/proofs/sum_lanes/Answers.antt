use mathlib.Core.Path.{◌≡◌, refl, ◌∙◌}
use Prim.Native.Nat.{◌+◌, ◌*◌}
use native.Mathlib.Omega.{arith}
use lib.ListN.{drop}
use Rattle.model.specs.Packed.{pack}
use Rattle.sums.proofs.Lanes.{mask_div}
use Rattle.sums.proofs.Chunks.{Added, added_none, added_one, added_lt, added_all, chunk_le, chunk-fits, chunk_some, sixty_four}
use Rattle.sums.proofs.Sums.{first-sum}
use Rattle.sums.proofs.sum_lanes.Goals as goal

pub loop-g-init : goal.loop-g-init
loop-g-init c = added_none c.args.w c.args.n (pack 64 (drop c.args.at c.args.words.now))

pub entry_at-requires : goal.entry_at-requires
entry_at-requires c =
    let a = c.args in
    let e = chunk-fits a.w a.n a.chunks c.loop-g.g ((a.w + a.w) * a.n) a.at _ refl c.requires.0 c.loop-g-test.true c.requires.7 c.requires.8 in
    (e.0, e.1, chunk_some a.w a.n ((a.w + a.w) * a.n) refl c.requires.6 c.requires.1, c.requires.5)

pub paired-acc-requires : goal.paired-acc-requires
paired-acc-requires c =
    let a = c.args in
    (omega (arith, c.requires.7), chunk_le a.w a.n c.loop-g.g (pack 64 (drop a.at a.words.now)) ((a.w + a.w) * a.n) _ c.entry_at.result refl (mask_div a.w a.n c.pow2.result c.pow2-2.result c.pow2.ensures.0 c.pow2-2.ensures.0) c.entry_at.ensures)

next : (c : goal.After-paired-acc) → let l = c.loop-g in let a = c.args in
    Added a.w a.n (l.g + 1) (pack 64 (drop a.at a.words.now)) (l.acc + c.paired-acc.result)
next c =
    let l = c.loop-g in
    let a = c.args in
    added_one a.w a.n l.g (pack 64 (drop a.at a.words.now)) ((a.w + a.w) * a.n) _ c.entry_at.result refl (mask_div a.w a.n c.pow2.result c.pow2-2.result c.pow2.ensures.0 c.pow2-2.ensures.0) c.entry_at.ensures
    l.acc c.paired-acc.result c.paired-acc.ensures l.invariant

pub overflow_add-acc : goal.overflow_add-acc
overflow_add-acc c =
    let a = c.args in
    let l = c.loop-g in
    omega (arith, added_lt a.w a.n a.chunks (pack 64 (drop a.at a.words.now)) (l.acc + c.paired-acc.result) c.requires.4 (l.g + 1) (omega arith) c.requires.5 (next c))

pub loop-g-preserved : goal.loop-g-preserved
loop-g-preserved c = next c

pub returns : goal.returns
returns c =
    let a = c.args in
    let l = c.loop-g in
    let e : l.g ≡ a.chunks = omega arith in
    c.sum_word.ensures ∙ added_all a.w a.n a.chunks (pack 64 (drop a.at a.words.now)) l.acc c.requires.4 l.g e c.requires.0 l.invariant 64 (sixty_four a.n a.chunks l.g c.requires.0 e)
    ∙ first-sum a.w a.words.now a.at (λ i. (c.type_inv.words i).fits) 64 refl
