-- `chain_search::climb::climb` meets its contract.
-- Assumes nothing.
use Rattle.std.proofs.Common.{arith, sym}
use Rattle.chain_search.proofs.ClimbLaws.{bounds, node-start, node-next, node-less, node-last, node-here}
use Rattle.chain_search.proofs.climb.climb.Goals as goal
use Rattle.chain_search.proofs.climb.climb.Goals.{else-loop-at-test, then-loop-at-test+then-reached}

pub loop-at-init : goal.loop-at-init
loop-at-init c = λ l h a. node-start c.requires.coefficients_small.1 c.place-at.ensures

pub offset_bounds-nodes-at : goal.offset_bounds-nodes-at
offset_bounds-nodes-at c = omega (arith, bounds c.loop-at.invariant c.requires.by_index)

pub bounds-nodes-at : goal.bounds-nodes-at
bounds-nodes-at c = omega (arith, bounds c.loop-at.invariant c.requires.by_index)

pub overflow_sub-count : goal.overflow_sub-count
overflow_sub-count c = omega (arith, bounds c.loop-at.invariant c.requires.by_index)

pub overflow_add-count : goal.overflow_add-count
overflow_add-count c = omega (arith, bounds c.loop-at.invariant c.requires.by_index)

pub overflow_sub-sum : goal.overflow_sub-sum
overflow_sub-sum c = omega (arith, bounds c.loop-at.invariant c.requires.by_index)

pub overflow_add-sum : goal.overflow_add-sum
overflow_add-sum c = omega (arith, bounds c.loop-at.invariant c.requires.by_index)

pub reached-requires-clause-count_bound : goal.reached-requires-clause-count_bound
reached-requires-clause-count_bound c = let b = bounds c.loop-at.invariant c.requires.by_index in (b.few, b.light)

pub loop-at-smaller : goal.loop-at-smaller
loop-at-smaller c =
    let r = c.requires.by_index in
    node-less (c.loop-at.invariant r.0 r.1 r.2) (sym c.reached.ensures) c.if-reached.false c.place-at-in-loop-at.ensures 1024 r.1

pub loop-at-preserved : goal.loop-at-preserved
loop-at-preserved c = λ l h a.
    node-next (c.loop-at.invariant l h a) (sym c.reached.ensures) c.if-reached.false c.place-at-in-loop-at.ensures

pub overflow_sub-result : goal.overflow_sub-result
overflow_sub-result c = omega (arith, bounds c.loop-at.invariant c.requires.by_index)

pub offset_bounds-nodes-at-2 : goal.offset_bounds-nodes-at-2
offset_bounds-nodes-at-2 c = omega (arith, bounds c.loop-at.invariant c.requires.by_index)

pub bounds-nodes-at-2 : goal.bounds-nodes-at-2
bounds-nodes-at-2 c = omega (arith, bounds c.loop-at.invariant c.requires.by_index)

pub overflow_cast-result : goal.overflow_cast-result
overflow_cast-result c = omega (arith, bounds c.loop-at.invariant c.requires.by_index)

pub returns : goal.returns
returns c = λ l h a.
    elim c.loop-at-test.branch [
      | else-loop-at-test w ↦ node-last (c.loop-at.invariant l h a) w.loop-at-test.false
      | then-loop-at-test+then-reached w ↦ node-here (c.loop-at.invariant l h a) (sym w.reached.ensures) w.if-reached.true
    ]
