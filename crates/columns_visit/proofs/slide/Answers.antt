-- `columns_visit::slide` meets its contract: the lines are read, sums and store moved; where there is a reading, the tally if it is needed, and the
-- window answers.
-- Assumes nothing.
use Rattle.std.proofs.Common.{arith}
use Rattle.spec.specs.declared.Way.TheVariants.{Columns}
use Rattle.spec.specs.Frame.{frame_of}
use Rattle.window.proofs.FormLaws.{both-in}
use Rattle.window.proofs.PixelLaws.{guides-range, plan-limits}
use Rattle.pixels.proofs.Laws.{step_in}
use Rattle.pixels.proofs.SumLaws.{below-most, movable, sums_moved}
use Rattle.levels.proofs.AnswerLaws.{answerable, from_cut, answered-at}
use Rattle.levels.proofs.ListTallyLaws.{carriable, carried-below}
use Rattle.columns_visit.proofs.VisitLaws.{as-made, made-self, store-places, window-cells, visited, unread-visited, some_read}
use Rattle.columns_visit.proofs.slide.Goals as goal

pub step_to-step-requires-clause-plan_limits : goal.step_to-step-requires-clause-plan_limits
step_to-step-requires-clause-plan_limits c = plan-limits c.requires.planned.0

pub read-n-requires : goal.read-n-requires
read-n-requires c =
    let pl = c.requires.planned.0 in
    (pl, (step_in pl c.requires.within.1 c.step_to-step.ensures).entering, omega arith)

pub read-k-requires : goal.read-k-requires
read-k-requires c =
    let pl = c.requires.planned.0 in
    (pl, (step_in pl c.requires.within.1 c.step_to-step.ensures).leaving, omega arith)

pub moved-present-requires-clause-pixels_below : goal.moved-present-requires-clause-pixels_below
moved-present-requires-clause-pixels_below c =
    let pl = c.requires.planned.0 in
    (below-most pl c.read-n.ensures.1.below, below-most pl c.read-k.ensures.1.below)

pub moved-present-requires-clause-movable_by_lists : goal.moved-present-requires-clause-movable_by_lists
moved-present-requires-clause-movable_by_lists c =
    movable c.requires.planned.0 c.requires.within.1 c.step_to-step.ensures c.read-n.ensures.1 c.read-k.ensures.1 c.requires.columns_at.sums

pub slide-requires-clause-blocks_value : goal.slide-requires-clause-blocks_value
slide-requires-clause-blocks_value c =
    as-made (frame_of c.args.file.now) c.args.from.column c.args.from.row _ _ c.requires.columns_at.store

pub returns-then-present-eq0 : goal.returns-then-present-eq0
returns-then-present-eq0 c =
    let r = c.requires in
    unread-visited (frame_of c.args.file.now) c.args.column c.args.row _ _ _ _ _ _ _ c.unread.ensures
    (sums_moved r.planned.0 r.within.1 c.step_to-step.ensures c.read-n.ensures.1 c.read-k.ensures.1 r.columns_at.sums c.moved-present.ensures)
    (omega arith) c.slide.ensures

pub of_window-coefficients-requires-clause-s_lt_width : goal.of_window-coefficients-requires-clause-s_lt_width
of_window-coefficients-requires-clause-s_lt_width c =
    let r = c.requires in
    let i = both-in r.within.1 in (
      i.2,
      i.3,
      sums_moved r.planned.0 r.within.1 c.step_to-step.ensures c.read-n.ensures.1 c.read-k.ensures.1 r.columns_at.sums c.moved-present.ensures,
    )

pub monotone-monotone-requires-clause-le_guides : goal.monotone-monotone-requires-clause-le_guides
monotone-monotone-requires-clause-le_guides c = guides-range c.requires.planned.0

pub carried_where-tally-requires-clause-pixels_below : goal.carried_where-tally-requires-clause-pixels_below
carried_where-tally-requires-clause-pixels_below c =
    let pl = c.requires.planned.0 in
    (below-most pl c.read-n.ensures.1.below, below-most pl c.read-k.ensures.1.below)

pub carried_where-tally-requires-clause-carriable : goal.carried_where-tally-requires-clause-carriable
carried_where-tally-requires-clause-carriable c =
    let r = c.requires in
    rw c.from-end.ensures
    (carriable r.planned.0 r.within.1 c.step_to-step.ensures c.read-n.ensures.1 c.read-k.ensures.1 r.columns_at.below)

pub answer_from-found-requires-clause-width_bound : goal.answer_from-found-requires-clause-width_bound
answer_from-found-requires-clause-width_bound c =
    store-places c.requires.planned.0 c.args.column c.args.row _ (made-self (frame_of c.args.file.now) c.args.column c.args.row _ _ c.slide.ensures)

pub answer_from-found-requires-clause-answerable : goal.answer_from-found-requires-clause-answerable
answer_from-found-requires-clause-answerable c =
    let r = c.requires in
    let pl = r.planned in
    let i = both-in r.within.1 in
    let k = c.of_window-coefficients.ensures in
    let cells = window-cells pl.0 c.args.column c.args.row _ (made-self (frame_of c.args.file.now) c.args.column c.args.row _ _ c.slide.ensures) in
    let carried = rw c.from-end.ensures at c.carried_where-tally.ensures in (
      answerable pl.0 pl.1 i.2 i.3 k cells c.monotone-monotone.ensures (omega (arith, r.within.0.shifts)),
      from_cut pl.0 pl.1 i.2 i.3 k cells c.monotone-monotone.ensures r.within.0.cut
          (λ e. carried-below pl.0 r.within.1 c.step_to-step.ensures c.read-n.ensures.1 c.read-k.ensures.1 r.columns_at.below (carried e)),
    )

pub returns : goal.returns
returns c =
    let r = c.requires in
    let pl = r.planned in
    let i = both-in r.within.1 in
    let p = frame_of c.args.file.now in
    let cells = window-cells pl.0 c.args.column c.args.row _ (made-self p c.args.column c.args.row _ _ c.slide.ensures) in
    let sums = sums_moved pl.0 r.within.1 c.step_to-step.ensures c.read-n.ensures.1 c.read-k.ensures.1 r.columns_at.sums c.moved-present.ensures in
    let reads = some_read p c.args.column c.args.row c.moved-present.result sums (omega arith) in
    let e = c.answer_from-found.ensures in
    visited p c.args.column c.args.row _ _ _ _ _ _ _ c.answered.ensures sums
    (answered-at pl.0 pl.1 i.2 i.3 c.of_window-coefficients.ensures cells c.monotone-monotone.ensures Columns reads e.0 e.1) c.slide.ensures
