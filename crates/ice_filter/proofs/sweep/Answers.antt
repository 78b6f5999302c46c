-- `ice_filter::sweep` meets its contract: the loop's laws, turn by turn. Assumes nothing.
use Prim.Native.Nat.{ℕ, ◌+◌, ◌*◌, ◌<◌}
use mathlib.Core.Path.{◌≡◌, refl, ◌∙◌}
use native.Mathlib.Omega.{arith}
use lib.ListN.{length, length-set}
use Rattle.visit.specs.Visit.{state_of}
use Rattle.spec.proofs.Plans.{with-own, plane-small}
use Rattle.ice_step.proofs.Laws.{histogram-blank, handed_back, finished, within_of}
use Rattle.ice_filter.proofs.FilterLoop.{first-in, some, sweeping-start, sweeping-low, sweeping-place, sweeping-more, sweeping-end}
use Rattle.ice_filter.proofs.sweep.Goals as goal

pub enter-visit-requires-clause-column_lt_width : goal.enter-visit-requires-clause-column_lt_width
enter-visit-requires-clause-column_lt_width c = first-in c.args.way c.requires.pictured.0

pub enter-visit-requires-clause-balance_box_value : goal.enter-visit-requires-clause-balance_box_value
enter-visit-requires-clause-balance_box_value c = (refl, histogram-blank c.requires.pictured.0)

pub bounds-output-0 : goal.bounds-output-0
bounds-output-0 c = omega (arith, c.requires.height_in_bounds, some c.args.way c.requires.pictured.0)

pub overflow_sub-i-end : goal.overflow_sub-i-end
overflow_sub-i-end c = omega (arith, some c.args.way c.requires.pictured.0)

pub loop-i-init : goal.loop-i-init
loop-i-init c =
    let v = c.enter-visit in
    sweeping-start _ c.requires.pictured.0 _ c.args.output.now _ _ v.result c.requires.height_in_bounds v.ensures.state v.ensures.here _ c.from.ensures

pub step-visit-requires-clause-within : goal.step-visit-requires-clause-within
step-visit-requires-clause-within c =
    let i = c.loop-i.invariant in
    within_of _ c.requires.pictured.0 _ _ i.going.held (omega (arith, sweeping-low _ c.requires.pictured.0 _ _ _ _ _ _ _ _ _ i))

-- the place of the answer is in the picture
pub overflow_mul-output : goal.overflow_mul-output
overflow_mul-output c =
    let low =
    sweeping-place _ c.requires.pictured.0 _ _ _ _ _ _ _ _ _ c.loop-i.invariant (omega arith) _ c.turn_at.ensures _ _ _ _ c.step-visit.ensures in
    omega (arith, low, plane-small c.requires.pictured.0)

pub overflow_add-output : goal.overflow_add-output
overflow_add-output c =
    let low =
    sweeping-place _ c.requires.pictured.0 _ _ _ _ _ _ _ _ _ c.loop-i.invariant (omega arith) _ c.turn_at.ensures _ _ _ _ c.step-visit.ensures in
    omega (arith, low, plane-small c.requires.pictured.0)

pub offset_bounds-output-visit : goal.offset_bounds-output-visit
offset_bounds-output-visit c =
    let low =
    sweeping-place _ c.requires.pictured.0 _ _ _ _ _ _ _ _ _ c.loop-i.invariant (omega arith) _ c.turn_at.ensures _ _ _ _ c.step-visit.ensures in
    omega (arith, low, plane-small c.requires.pictured.0)

pub bounds-output-visit : goal.bounds-output-visit
bounds-output-visit c =
    let low =
    sweeping-place _ c.requires.pictured.0 _ _ _ _ _ _ _ _ _ c.loop-i.invariant (omega arith) _ c.turn_at.ensures _ _ _ _ c.step-visit.ensures in
    omega (arith, low, c.requires.height_in_bounds, c.loop-i.invariant.rest.long, length-set {A = ℕ})

-- the place is the goal's own, so that a wrong place is refused by its numbers alone
pub loop-i-preserved : goal.loop-i-preserved
loop-i-preserved c =
    sweeping-more _ c.requires.pictured.0 _ _ _ _ _ _ _ _ _ c.loop-i.invariant (omega arith) _ c.turn_at.ensures _ _ _ _ c.step-visit.ensures
    (simp length-set c.requires.height_in_bounds) _ c.from-in-loop-i.ensures _ (omega arith)

pub finish-requires-clause-planned : goal.finish-requires-clause-planned
finish-requires-clause-planned c =
    let i = c.loop-i.invariant in (
      with-own c.requires.pictured.0,
      within_of _ c.requires.pictured.0 _ _ i.going.held (omega (arith, sweeping-low _ c.requires.pictured.0 _ _ _ _ _ _ _ _ _ i)),
    )

pub returns-clause-finished : goal.returns-clause-finished
returns-clause-finished c =
    let v = c.enter-visit.ensures in
    let q =
    sweeping-end _ c.requires.pictured.0 _ _ _ _ _ _ _ c.loop-i.visit c.loop-i.i c.loop-i.invariant _ c.args.output.now (omega arith)
    (simp length-set c.requires.height_in_bounds) v.state v.kept _ refl in
    finished c.loop-i.visit _ refl refl q.0
    (handed_back c.args.way c.requires.pictured.0 c.requires.pictured.1 (state_of c.args.way c.loop-i.visit)
    c.loop-i.invariant.going.visited.here.balance-box c.finish.ensures)

pub returns-clause-output_after : goal.returns-clause-output_after
returns-clause-output_after c =
    let v = c.enter-visit.ensures in
    (sweeping-end _ c.requires.pictured.0 _ _ _ _ _ _ _ c.loop-i.visit c.loop-i.i c.loop-i.invariant _ c.args.output.now (omega arith)
    (simp length-set c.requires.height_in_bounds) v.state v.kept _ refl).1
