-- Assumes nothing.
use Rattle.pixels.specs.Sums.{ListSums}
use Rattle.pixels.proofs.sums.list_sums.Given as goal

abbrev pub invariant-loop-pixel : goal.invariant-loop-pixel
invariant-loop-pixel l = ListSums l.pixels l.pixel-index (record { count = l.pixel-index; sum = l.sum; squares = l.squares })
