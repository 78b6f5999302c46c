-- `ice_walk::travel` meets its contract: the loop's laws, turn by turn. Assumes nothing.
use Prim.Native.Nat.{◌+◌}
use mathlib.Core.Path.{◌≡◌, refl}
use native.Mathlib.Omega.{arith}
use lib.ListN.{length, length-set}
use Rattle.visit.specs.Visit.{state_of}
use Rattle.ice_step.proofs.Laws.{histogram-blank, held_first, handed_back, finished, within_of}
use Rattle.ice_walk.proofs.WalkLoop.{walking_start, walking-more, walking-end}
use Rattle.ice_walk.proofs.travel.Goals as goal

pub enter-visit-requires-clause-balance_box_value : goal.enter-visit-requires-clause-balance_box_value
enter-visit-requires-clause-balance_box_value c = (refl, histogram-blank c.requires.planned.0)

pub loop-i-init : goal.loop-i-init
loop-i-init c =
    let v = c.enter-visit in
    let at = c.requires.column_lt_width in
    walking_start _ c.args.file.now _ _ c.args.answers.now _ _ _ (omega arith) v.ensures.here
    (held_first _ c.requires.planned.0 _ _ v.result at.0 at.1 v.ensures.state) _ c.from.ensures

pub step-then-requires-clause-within : goal.step-then-requires-clause-within
step-then-requires-clause-within c =
    let w = c.loop-i.invariant.going in within_of _ c.requires.planned.0 _ _ w.held (omega (arith, w.most, c.requires.moves_len_bound))

pub loop-i-preserved : goal.loop-i-preserved
loop-i-preserved c =
    walking-more _ _ _ _ _ _ _ _ _ _ _ c.loop-i.i c.loop-i.invariant (omega arith) (simp length-set (omega arith)) _ _ _ _ c.step-then.ensures _
    c.from-in-loop-i.ensures

pub finish-requires-clause-planned : goal.finish-requires-clause-planned
finish-requires-clause-planned c =
    let w = c.loop-i.invariant.going in
    (c.requires.planned.0, within_of _ c.requires.planned.0 _ _ w.held (omega (arith, w.most, c.requires.moves_len_bound)))

pub returns-clause-finished : goal.returns-clause-finished
returns-clause-finished c =
    let v = c.enter-visit.ensures in
    let q =
    walking-end _ c.args.file.now c.args.moves.now _ _ _ _ _ c.args.answers.now _ _ _ _ _ c.loop-i.visit c.loop-i.i c.loop-i.invariant (omega arith)
    v.state v.kept _ refl in
    finished c.loop-i.visit _ refl refl q.0
    (handed_back c.args.way c.requires.planned.0 c.requires.planned.1 (state_of c.args.way c.loop-i.visit)
    c.loop-i.invariant.going.visited.here.balance-box c.finish.ensures)

pub returns-clause-answers_after : goal.returns-clause-answers_after
returns-clause-answers_after c =
    let v = c.enter-visit.ensures in
    (walking-end _ c.args.file.now c.args.moves.now _ _ _ _ _ c.args.answers.now _ _ _ _ _ c.loop-i.visit c.loop-i.i c.loop-i.invariant (omega arith)
    v.state v.kept _ refl).1
