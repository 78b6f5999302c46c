-- `begin` meets its contract: the loop's laws, turn by turn. Assumes nothing.
use mathlib.Core.Path.{refl}
use native.Mathlib.Omega.{arith}
use lib.ListN.{length-set}
use Rattle.spec.specs.declared.Way.TheVariants.{Joint}
use Rattle.ice_step.proofs.Laws.{histogram-blank, held_first, within_of}
use Rattle.ice_filter.proofs.FilterLoop.{first-in}
use Rattle.ice_walk.proofs.WalkLoop.{walking_start, walking-more, walking-end}
use Rattle.ice_prefix.proofs.Moves.{none_back, few-pixels, moves_long, stepped, begun}
use Rattle.ice_prefix.proofs.begin.Goals as goal

pub enter-visit-requires-clause-balance_box_value : goal.enter-visit-requires-clause-balance_box_value
enter-visit-requires-clause-balance_box_value c = (refl, histogram-blank c.requires.planned)

pub loop-i-init : goal.loop-i-init
loop-i-init c =
    let v = c.enter-visit in
    let at = first-in Joint c.requires.planned in
    walking_start _ c.args.file.now _ _ c.args.answers.now _ _ _ (omega arith) (none_back v.ensures).here
    (held_first _ c.requires.planned _ _ v.result at.0 at.1 v.ensures.state) _ c.from.ensures

pub turn_at-requires : goal.turn_at-requires
turn_at-requires c =
    let r = c.requires.le_n in ((first-in Joint c.requires.planned).0, omega (arith, few-pixels c.requires.planned c.args.n r.0 r.1))

pub step-then-requires-clause-within : goal.step-then-requires-clause-within
step-then-requires-clause-within c =
    let r = c.requires.le_n in
    within_of _ c.requires.planned _ _ c.loop-i.invariant.going.held (omega (arith, few-pixels c.requires.planned c.args.n r.0 r.1))

pub loop-i-preserved : goal.loop-i-preserved
loop-i-preserved c =
    let k = c.requires.planned in
    let r = c.requires.le_n in
    walking-more _ _ _ _ _ _ _ _ _ _ _ c.loop-i.i c.loop-i.invariant (omega (arith, moves_long k c.args.n r.0 r.1))
    (simp length-set (omega (arith, moves_long k c.args.n r.0 r.1))) _ _ _ _
    (none_back (stepped k c.args.n r.0 r.1 c.loop-i.i _ (omega arith) c.turn_at.ensures c.loop-i.visit _ _ _ _ _ c.step-then.ensures)) _
    c.from-in-loop-i.ensures

pub returns : goal.returns
returns c =
    let k = c.requires.planned in
    let r = c.requires.le_n in
    let v = c.enter-visit.ensures in
    let q =
    walking-end _ c.args.file.now _ 0 0 _ _ _ c.args.answers.now _ _ _ _ _ c.loop-i.visit c.loop-i.i c.loop-i.invariant
    (omega (arith, moves_long k c.args.n r.0 r.1)) v.state (none_back v).kept _ refl in
    begun k c.args.n r.0 r.1 _ _ _ _ c.loop-i.visit _ _ q.0 q.1
