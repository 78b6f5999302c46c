-- After k turns the histogram has k columns. Assumes nothing.
use Rattle.std.proofs.Common.{[]}
use Rattle.histogram.specs.Histogram.{HistogramFilled}
use Rattle.histogram.proofs.start.Given as goal

abbrev pub invariant-loop-k : goal.invariant-loop-k
invariant-loop-k l = HistogramFilled l.file [] l.plan l.x l.t l.k l.histogram
