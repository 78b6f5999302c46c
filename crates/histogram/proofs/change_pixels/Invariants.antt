-- After so many turns the first pixels have entered or left. Assumes nothing.
use Rattle.std.proofs.Common.{◌+◌}
use Rattle.pixels.specs.Additive.{changed, PassedTo}
use Rattle.histogram.specs.Places.{share_at, number_at}
use Rattle.histogram.proofs.change_pixels.Given as goal

abbrev pub invariant-loop-pixel : goal.invariant-loop-pixel
invariant-loop-pixel l =
    PassedTo ◌+◌ 0 (share_at l.l) changed l.enters l.pixels l.pixel-index (number_at l.l l.initial.histogram) (number_at l.l l.histogram)
