-- The filter so far: i moves are made.
use Rattle.visit.specs.Visit.{state_of}
use Rattle.ways.specs.Visit.{stores}
use Rattle.ice_filter.proofs.FilterLoop.{Sweeping}
use Rattle.ice_filter.proofs.sweep.Given as goal

abbrev pub invariant-loop-i : goal.invariant-loop-i
invariant-loop-i l =
    Sweeping l.way l.file l.plane (state_of l.way l.initial.visit) (stores l.initial.counts l.initial.words l.initial.numbers) l.initial.output
    (stores l.counts l.words l.numbers) l.output l.histogram l.balance_box l.visit l.i
