use native.Mathlib.Nat.{mod-lt}
use native.Mathlib.Omega.{arith}
use mathlib.Core.Path.{◌∙◌, subst}
use Prim.Native.Nat.{◌/◌, ◌%◌, ◌<◌}
use lib.Dec.{lit<}
use Rattle.model.specs.Walls.{buckets_in}
use Rattle.model.proofs.SoundWalls.{each_sound}
use Rattle.header.proofs.Places.{opened, open_header}
use Rattle.found.proofs.Finding.{slot_asks, bucket-of, place-of, bucket_in, count_of}
use Rattle.counts.proofs.count_of.Goals as goal

pub slot_of-s-requires : goal.slot_of-s-requires
slot_of-s-requires c =
    let w = c.args.checked.now.wall in
    let q = slot_asks w.words.now w.header (opened w) c.args.flow c.requires in
    (q.0, omega (arith, q.1), q.2)

pub count-requires : goal.count-requires
count-requires c =
    let w = c.args.checked.now.wall in
    let ws = w.words.now in
    let s = c.slot_of-s.result in
    let h = bucket_in ws w.header (opened w) c.args.flow s c.slot_of-s.ensures.0 in
    (h, each_sound ws c.args.checked.now.sound (s / 64) (subst (λ z. s / 64 < buckets_in z) (open_header ws w.header (opened w)) h), mod-lt s (lit< tt))

pub returns : goal.returns
returns c =
    let w = c.args.checked.now.wall in
    let ws = w.words.now in
    let y = c.args.flow in
    let s = c.slot_of-s in
    c.count.ensures ∙ count_of ws y (s.result / 64) (s.result % 64) (bucket-of ws w.header (opened w) y s.result s.ensures.0) (place-of ws w.header (opened w) y s.result s.ensures.0)
