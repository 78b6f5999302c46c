-- `chain_visit::slide` meets its contract: the lines are read, sums and list moved, then the window answers. Assumes nothing.
use Rattle.std.proofs.Common.{arith}
use Rattle.window.proofs.PixelLaws.{plan-limits}
use Rattle.pixels.proofs.Laws.{step_in}
use Rattle.pixels.proofs.SumLaws.{below-most, movable, sums_moved}
use Rattle.chain.proofs.MoveLaws.{slides, slid-stored}
use Rattle.chain_visit.proofs.VisitLaws.{chain-visited}
use Rattle.chain_visit.proofs.slide.Goals as goal

pub step_to-step-requires-clause-plan_limits : goal.step_to-step-requires-clause-plan_limits
step_to-step-requires-clause-plan_limits c = plan-limits c.requires.planned.0

pub read-n-requires : goal.read-n-requires
read-n-requires c =
    let pl = c.requires.planned.0 in
    (pl, (step_in pl c.requires.within.1 c.step_to-step.ensures).entering, omega arith)

pub read-k-requires : goal.read-k-requires
read-k-requires c =
    let pl = c.requires.planned.0 in
    (pl, (step_in pl c.requires.within.1 c.step_to-step.ensures).leaving, omega arith)

pub moved-sums-requires-clause-pixels_below : goal.moved-sums-requires-clause-pixels_below
moved-sums-requires-clause-pixels_below c =
    let pl = c.requires.planned.0 in
    (below-most pl c.read-n.ensures.1.below, below-most pl c.read-k.ensures.1.below)

pub moved-sums-requires-clause-movable_by_lists : goal.moved-sums-requires-clause-movable_by_lists
moved-sums-requires-clause-movable_by_lists c =
    movable c.requires.planned.0 c.requires.within.1 c.step_to-step.ensures c.read-n.ensures.1 c.read-k.ensures.1 c.requires.chain_at.sums

pub slide-free-requires : goal.slide-free-requires
slide-free-requires c =
    slides c.requires.planned.0 c.requires.within.1 c.step_to-step.ensures c.read-n.ensures.1 c.read-k.ensures.1 c.requires.chain_at.listed

pub answer_at-requires-clause-sums_at : goal.answer_at-requires-clause-sums_at
answer_at-requires-clause-sums_at c =
    let pl = c.requires.planned.0 in
    let adj = c.requires.within.1 in (
      sums_moved pl adj c.step_to-step.ensures c.read-n.ensures.1 c.read-k.ensures.1 c.requires.chain_at.sums c.moved-sums.ensures,
      (slid-stored pl adj c.step_to-step.ensures c.read-n.ensures.1 c.read-k.ensures.1 c.requires.chain_at.listed c.slide-free.auto.nodes
          c.slide-free.ensures).listed,
    )

pub returns : goal.returns
returns c =
    let pl = c.requires.planned.0 in
    let adj = c.requires.within.1 in
    let e = c.answer_at.ensures in
    chain-visited _ _ _ _ _ _ _ _ _ _ _ e.0 (e.1, e.2)
    (sums_moved pl adj c.step_to-step.ensures c.read-n.ensures.1 c.read-k.ensures.1 c.requires.chain_at.sums c.moved-sums.ensures)
    (slid-stored pl adj c.step_to-step.ensures c.read-n.ensures.1 c.read-k.ensures.1 c.requires.chain_at.listed c.slide-free.auto.nodes
    c.slide-free.ensures)
