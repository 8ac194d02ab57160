use lib.Seq.{get_or-set_other}
use Rattle.cells.proofs.Crossing.{put_one, put_two}
use lib.Pow.{shr_lt}
use lib.ListN.{length}
use native.Mathlib.Omega.{arith}
use native.Mathlib.Nat.{mul-le-mul, mul-suc}
use Prim.Native.Nat.{ℕ, ◌+◌, ◌-◌, ◌*◌, ◌/◌, ◌%◌, ◌≤◌, ◌<◌}
use mathlib.Core.Path.{◌≡◌, refl}
use borrow.Author.Rules.{rules}
use Rattle.bucket.proofs.Bucket.put.Goals as goal

inside : (w a : ℕ) → a < 64 → w ≤ 16 → w * a + w ≤ 1024
inside w a h k = omega (arith, mul-suc w a, mul-le-mul k h)

pub returns-then-off-width-le64 : goal.returns-then-off-width-le64
returns-then-off-width-le64 c =
    let a = c.args in
    let s = a.width * a.place in
    let h = inside a.width a.place c.requires.0 c.requires.2 in
    let sixteen : length a.self.first ≡ 16 = search rules in
    record {
      first = put_one 64 a.self.first a.width a.place (s / 64) (s % 64) (λ i. search rules) (omega arith) (omega arith)
          a.part c.put_field.result c.if-off-width-le64.true (omega arith) c.put_field.ensures;
      marks = refl;
      upper = refl;
    }

pub put_field-requires-3 : goal.put_field-requires-3
put_field-requires-3 c =
    let a = c.args in
    let m = 64 - a.width * a.place % 64 in
    let e : a.width ≡ a.width - m + m = omega arith in
    (omega arith, omega arith, omega arith, shr_lt (a.width - m) m (rw e at c.requires.3))

pub returns : goal.returns
returns c =
    let a = c.args in
    let s = a.width * a.place in
    let m = 64 - s % 64 in
    let h = inside a.width a.place c.requires.0 c.requires.2 in
    let sixteen : length a.self.first ≡ 16 = search rules in
    record {
      first = put_two 64 a.self.first a.width a.place (s / 64) (s % 64) (λ i. search rules) (omega arith) (omega arith)
          m (a.width - m) (omega arith) (omega arith) (omega arith) a.part c.put_field-2.result c.put_field-3.result (omega arith)
          (rw c.pow2.ensures.0 at c.put_field-2.ensures)
          (rw (get_or-set_other a.self.first (s / 64) (s / 64 + 1) c.put_field-2.result 0 (λ e. omega arith)) at c.put_field-3.ensures);
      marks = refl;
      upper = refl;
    }
