-- After k turns the list has the line's first k pixels. Assumes nothing.
use Rattle.std.proofs.Common.{[]}
use Rattle.pixels.proofs.WholeLaws.{CopiedTo}
use Rattle.pixels.proofs.read.Given as goal

abbrev pub invariant-loop-k : goal.invariant-loop-k
invariant-loop-k l = CopiedTo l.file [] l.line l.k l.total l.pixels
