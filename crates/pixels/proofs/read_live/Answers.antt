-- Assumes nothing.
use Rattle.std.proofs.Common.{◌≡◌, arith}
use Rattle.window.proofs.PixelLaws.{place-small}
use Rattle.pixels.proofs.Laws.{read_none, dead-next, live-next, line-pixels}
use Rattle.pixels.proofs.read_live.Goals as goal
use Rattle.pixels.proofs.read_live.Goals.{then-value, else-value}

pub loop-k-init : goal.loop-k-init
loop-k-init c = read_none _ _ _ _ _ c.requires.2

pub overflow_add-q : goal.overflow_add-q
overflow_add-q c = omega (arith, place-small c.requires.0 (c.requires.1.inside _ c.loop-k-test.true))

pub loop-k-preserved : goal.loop-k-preserved
loop-k-preserved c =
    let v = c.loop-k.invariant in
    elim c.if-value.branch [
      | then-value w ↦ rw w.live-is (live-next c.requires.0 c.requires.1 c.loop-k-test.true v c.value_in-value.ensures c.guide_at-guide.ensures w.if-value.true)
      | else-value w ↦ rw w.live-is (dead-next c.requires.0 c.requires.1 c.loop-k-test.true v c.value_in-value.ensures c.guide_at-guide.ensures w.if-value.false)
    ]

pub returns : goal.returns
returns c =
    let done : c.loop-k.k ≡ c.args.line.count = omega arith in
    (omega (arith, c.loop-k.invariant.few, c.requires.1.few), line-pixels c.requires.1 (rw done at c.loop-k.invariant))
