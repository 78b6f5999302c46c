-- The walk so far: i moves are done.
use mathlib.Core.List.{[]}
use Rattle.spec.specs.declared.Way.TheVariants.{Joint}
use Rattle.visit.specs.Visit.{state_of}
use Rattle.ways.specs.Visit.{stores}
use Rattle.ice_walk.proofs.WalkLoop.{Walking}
use Rattle.ice_prefix.proofs.Moves.{moves_to}
use Rattle.ice_prefix.proofs.begin.Given as goal

abbrev pub invariant-loop-i : goal.invariant-loop-i
invariant-loop-i l =
    Walking Joint l.file (moves_to l.file l.n) (state_of Joint l.initial.visit) (stores l.initial.counts l.initial.words []) l.initial.answers
    (stores l.counts l.words []) l.answers l.histogram l.balance_box l.visit l.i
