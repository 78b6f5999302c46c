-- The coefficients, then the answer from the histogram. Assumes nothing.
use Rattle.std.proofs.Common.{sym, arith, rules}
use Rattle.std.proofs.Math.Seq.{length-take-le}
use Rattle.spec.specs.declared.Way.TheVariants.{Coarse}
use Rattle.spec.specs.Frame.{frame_of}
use Rattle.window.proofs.PixelLaws.{guides-range, levels_high}
use Rattle.levels.proofs.AnswerLaws.{answerable, answered-at}
use Rattle.visit.proofs.Laws.{state-is}
use Rattle.joint_guided.proofs.GuidedLaws.{numbers_long, profiled-parts, has-reading, blocks-unread}
use Rattle.joint_guided.proofs.arrive_by_blocks.Goals as goal

pub returns-then-a-eq0 : goal.returns-then-a-eq0
returns-then-a-eq0 c =
    rw c.unread.ensures
    (blocks-unread (frame_of c.args.file.now) c.args.s c.args.t c.requires.sums_at.0 c.if-a-eq0.true c.requires.sums_at.1 c.args.cut c.args.shifts)

pub monotone-monotone-requires-clause-le_guides : goal.monotone-monotone-requires-clause-le_guides
monotone-monotone-requires-clause-le_guides c = guides-range c.requires.planned.0

pub slice_bounds-answer-end : goal.slice_bounds-answer-end
slice_bounds-answer-end c =
    sym (length-take-le c.args.plan.levels c.args.histogram.now (omega (arith, numbers_long c.requires.planned.0 c.requires.sums_at.1)))

pub overflow_mul-plan : goal.overflow_mul-plan
overflow_mul-plan c = omega (arith, levels_high c.requires.planned.0)

pub offset_bounds-histogram-plan : goal.offset_bounds-histogram-plan
offset_bounds-histogram-plan c = omega (arith, levels_high c.requires.planned.0)

pub slice_bounds-answer-end-2 : goal.slice_bounds-answer-end-2
slice_bounds-answer-end-2 c =
    let h = numbers_long c.requires.planned.0 c.requires.sums_at.1 in
    search rules

pub answer-found-requires : goal.answer-found-requires
answer-found-requires c =
    let p = c.requires.planned in
    answerable p.0 p.1 p.2 p.3 c.of_window-coefficients.ensures (profiled-parts p.0 c.requires.sums_at.1)
    c.monotone-monotone.ensures c.requires.sums_at.2

pub returns : goal.returns
returns c =
    let p = c.requires.planned in
    let f = c.answer-found.result in
    let says = answered-at p.0 p.1 p.2 p.3 c.of_window-coefficients.ensures (profiled-parts p.0 c.requires.sums_at.1) c.monotone-monotone.ensures Coarse
    (has-reading (frame_of c.args.file.now) c.args.s c.args.t c.requires.sums_at.0 c.if-a-eq0.false)
    c.answer-found.ensures.0 c.answer-found.ensures.1 in
    rw c.answered.ensures
    (record {
      state =
          state-is Coarse (frame_of c.args.file.now) c.args.s c.args.t c.args.cut.0 c.args.shifts f.level f.shifts f.level
          (record { sums = c.args.a; below = f.tally; free = record { head = 0; count = 0 } }) says.cut says.shifts says.answer;
      guided = record { sums = c.requires.sums_at.0; below = says.below; histogram = c.requires.sums_at.1 };
    })
