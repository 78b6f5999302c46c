-- The coefficients, the tally where it is needed, the answer from the histogram, then the box moved. Assumes nothing.
use Rattle.std.proofs.Common.{sym, arith, rules, ◌∙◌}
use Rattle.std.proofs.Math.Seq.{length-take-le}
use Rattle.window.proofs.PixelLaws.{guides-range, levels_high}
use Rattle.spec.specs.declared.Way.TheVariants.{Joint}
use Rattle.spec.specs.Frame.{frame_of}
use Rattle.levels.proofs.AnswerLaws.{answerable, from_cut, answered-at}
use Rattle.joint_search.proofs.WindowLaws.{searchable, box_of_lem, box-at}
use Rattle.visit.proofs.Laws.{state-is}
use Rattle.joint_guided.proofs.GuidedLaws.{numbers_long, profiled-parts, answer-low, has-reading, visited-unread}
use Rattle.joint_guided.proofs.arrive.Goals as goal

pub returns-then-a-eq0 : goal.returns-then-a-eq0
returns-then-a-eq0 c =
    rw c.unread.ensures
    (visited-unread (frame_of c.args.file.now) c.args.s c.args.t c.requires.sums_at.0 c.if-a-eq0.true c.requires.counted.2
    c.args.cut c.args.shifts c.requires.cut_lt_levels.2)

pub monotone-monotone-requires-clause-le_guides : goal.monotone-monotone-requires-clause-le_guides
monotone-monotone-requires-clause-le_guides c = guides-range c.requires.counted.0.pictured

pub slice_bounds-answer-end : goal.slice_bounds-answer-end
slice_bounds-answer-end c =
    sym (length-take-le c.args.plan.levels c.args.histogram.now (omega (arith, numbers_long c.requires.counted.0.pictured c.requires.counted.2)))

pub overflow_mul-plan : goal.overflow_mul-plan
overflow_mul-plan c = omega (arith, levels_high c.requires.counted.0.pictured)

pub offset_bounds-histogram-plan : goal.offset_bounds-histogram-plan
offset_bounds-histogram-plan c = omega (arith, levels_high c.requires.counted.0.pictured)

pub slice_bounds-answer-end-2 : goal.slice_bounds-answer-end-2
slice_bounds-answer-end-2 c =
    let h = numbers_long c.requires.counted.0.pictured c.requires.counted.2 in
    search rules

pub answer-found-requires : goal.answer-found-requires
answer-found-requires c =
    let k = c.requires.counted.0 in
    let g = c.requires.cut_lt_levels in
    let cells = profiled-parts k.pictured c.requires.counted.2 in (
      answerable k.pictured c.requires.counted.1 k.column k.row c.of_window-coefficients.ensures cells c.monotone-monotone.ensures g.1,
      from_cut k.pictured c.requires.counted.1 k.column k.row c.of_window-coefficients.ensures cells c.monotone-monotone.ensures g.0
          (λ e. c.requires.sums_at.1.carried _ (c.carried_where-below.ensures e)),
    )

pub move_to-requires-clause-searchable : goal.move_to-requires-clause-searchable
move_to-requires-clause-searchable c = searchable c.requires.counted.0

pub move_to-requires-clause-from_lt_levels : goal.move_to-requires-clause-from_lt_levels
move_to-requires-clause-from_lt_levels c =
    let k = c.requires.counted.0 in
    let g = c.requires.cut_lt_levels in
    let read = has-reading (frame_of c.args.file.now) c.args.s c.args.t c.requires.sums_at.0 c.if-a-eq0.false in
    let says = answered-at k.pictured c.requires.counted.1 k.column k.row c.of_window-coefficients.ensures
    (profiled-parts k.pictured c.requires.counted.2) c.monotone-monotone.ensures Joint read c.answer-found.ensures.0 c.answer-found.ensures.1 in
    (g.0, omega (arith, g.0, answer-low k.pictured k.column k.row read says), g.2 ∙ box_of_lem k c.args.cut.0 g.0)

pub returns : goal.returns
returns c =
    let k = c.requires.counted.0 in
    let read = has-reading (frame_of c.args.file.now) c.args.s c.args.t c.requires.sums_at.0 c.if-a-eq0.false in
    let says = answered-at k.pictured c.requires.counted.1 k.column k.row c.of_window-coefficients.ensures
    (profiled-parts k.pictured c.requires.counted.2) c.monotone-monotone.ensures Joint read c.answer-found.ensures.0 c.answer-found.ensures.1 in
    let f = c.answer-found.result in
    rw c.answered.ensures
    (record {
      state =
          state-is Joint (frame_of c.args.file.now) c.args.s c.args.t c.args.cut.0 c.args.shifts f.level f.shifts f.level
          (record { sums = c.args.a; below = f.tally; free = record { head = 0; count = 0 } }) says.cut says.shifts says.answer;
      box = box-at k c.move_to.ensures (omega arith) (answer-low k.pictured k.column k.row read says);
      guided = record { sums = c.requires.sums_at.0; below = says.below; histogram = c.requires.counted.2 };
    })
