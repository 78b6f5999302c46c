-- Where none is dead, or all are, the first reading stands. Assumes nothing.
use Rattle.std.proofs.Common.{◌≡◌, arith}
use Rattle.window.proofs.PixelLaws.{place-small}
use Rattle.pixels.proofs.WholeLaws.{whole-pixels, none_left}
use Rattle.pixels.proofs.read.Goals as goal

pub overflow_add-q : goal.overflow_add-q
overflow_add-q c = omega (arith, place-small c.requires.0 (c.requires.1.inside _ c.loop-k-test.true))

pub returns-then-total : goal.returns-then-total
returns-then-total c =
    let done : c.loop-k.k ≡ c.args.line.count = omega arith in
    (c.requires.1.few, whole-pixels c.requires.0 c.requires.1 (rw done at c.loop-k.invariant) c.if-total.true)

pub returns-then-total-line : goal.returns-then-total-line
returns-then-total-line c =
    let done : c.loop-k.k ≡ c.args.line.count = omega arith in
    (omega arith, none_left (rw done at c.loop-k.invariant) c.if-total-line.true)
