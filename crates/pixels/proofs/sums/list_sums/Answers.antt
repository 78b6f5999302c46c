-- Assumes nothing.
use Rattle.pixels.proofs.SumLaws.{sums_none, sums_next}
use Rattle.pixels.proofs.sums.list_sums.Goals as goal

pub loop-pixel-init : goal.loop-pixel-init
loop-pixel-init c = sums_none _

pub loop-pixel-preserved : goal.loop-pixel-preserved
loop-pixel-preserved c = sums_next c.requires c.loop-pixel-test.true _ _ c.loop-pixel.invariant
