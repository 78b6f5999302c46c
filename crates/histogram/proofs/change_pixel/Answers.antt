-- The level's count, then its guide sum. Assumes nothing.
use Rattle.histogram.proofs.Laws.{pixel-changed}
use Rattle.histogram.proofs.change_pixel.Goals as goal

pub returns : goal.returns
returns c =
    rw (c.change-2.ensures, c.change.ensures)
    (pixel-changed c.args.enters c.args.l c.args.level.0 c.args.guide.0 c.args.histogram.now c.requires.level_lt_l.0 c.requires.level_lt_l.2)
