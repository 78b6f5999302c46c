-- After k turns the stores and the box have k columns. Assumes nothing.
use Rattle.joint.specs.Window.{Filled}
use Rattle.joint.proofs.start.fill.Given as goal

abbrev pub invariant-loop-k : goal.invariant-loop-k
invariant-loop-k l = Filled l.file l.plane l.plan l.x l.t l.cut.0 l.k l.initial.counts l.initial.words l.counts l.words l.balance_box
