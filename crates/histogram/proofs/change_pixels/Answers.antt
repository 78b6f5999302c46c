-- Assumes nothing.
use Rattle.pixels.proofs.AdditiveLaws.{naturals, passed_none}
use Rattle.histogram.specs.Places.{share_at}
use Rattle.histogram.proofs.PixelLaws.{turn-asks, turn-next}
use Rattle.histogram.proofs.change_pixels.Goals as goal

pub loop-pixel-init : goal.loop-pixel-init
loop-pixel-init c = passed_none naturals (share_at c.args.l) _ _ _

pub change_pixel-requires-clause-fits : goal.change_pixel-requires-clause-fits
change_pixel-requires-clause-fits c =
    let a = turn-asks c.requires.l_bound.2 c.requires.room_for c.loop-pixel-test.true c.loop-pixel.histogram c.loop-pixel.invariant in
    rw c.level.ensures (a.1, a.2)

pub loop-pixel-preserved : goal.loop-pixel-preserved
loop-pixel-preserved c =
    turn-next c.requires.l_bound.2 c.requires.room_for c.loop-pixel-test.true c.loop-pixel.histogram c.loop-pixel.invariant
    (rw c.level.ensures at c.change_pixel.ensures)
