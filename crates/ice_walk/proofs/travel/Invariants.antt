-- The walk so far: i bytes of the list are done.
use Rattle.visit.specs.Visit.{state_of}
use Rattle.ways.specs.Visit.{stores}
use Rattle.ice_walk.proofs.WalkLoop.{Walking}
use Rattle.ice_walk.proofs.travel.Given as goal

abbrev pub invariant-loop-i : goal.invariant-loop-i
invariant-loop-i l =
    Walking l.way l.file l.moves (state_of l.way l.initial.visit) (stores l.initial.counts l.initial.words l.initial.numbers) l.initial.answers
    (stores l.counts l.words l.numbers) l.answers l.histogram l.balance_box l.visit l.i
