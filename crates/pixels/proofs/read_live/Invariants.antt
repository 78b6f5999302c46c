-- After k turns the list has the live ones of the line's first k pixels. Assumes nothing.
use Rattle.pixels.proofs.Laws.{ReadTo}
use Rattle.pixels.proofs.read_live.Given as goal

abbrev pub invariant-loop-k : goal.invariant-loop-k
invariant-loop-k l = ReadTo l.file l.plane l.plan l.line l.k l.live l.pixels
