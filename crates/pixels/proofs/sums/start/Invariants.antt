-- After k turns the three are those of k columns. Assumes nothing.
use Rattle.std.proofs.Common.{[]}
use Rattle.pixels.specs.Sums.{ColumnSums}
use Rattle.pixels.proofs.sums.start.Given as goal

abbrev pub invariant-loop-k : goal.invariant-loop-k
invariant-loop-k l = ColumnSums l.file [] l.plan l.x l.t l.k (record { count = l.count; sum = l.sum; squares = l.squares })
