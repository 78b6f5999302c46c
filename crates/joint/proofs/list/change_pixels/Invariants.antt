-- After so many turns the list's first pixels have entered or left, the box too. Assumes nothing.
use Rattle.joint.specs.List.{Countable, CountsPassed, BoxPassed}
use Rattle.joint.proofs.list.change_pixels.Given as goal

abbrev pub invariant-loop-pixel : goal.invariant-loop-pixel
invariant-loop-pixel l = record {
  counts : (a : Countable l.enters l.m l.pixels l.initial.counts l.initial.words) →
      CountsPassed l.enters a.levels l.m l.pixels l.pixel-index l.initial.counts l.initial.words l.counts l.words;
  box : BoxPassed l.enters l.cut.0 l.pixels l.pixel-index l.initial.balance_box l.balance_box;
}
