-- Assumes nothing.
use Rattle.std.proofs.Common.{◌≡◌, ◌∙◌, arith}
use Rattle.window.proofs.PixelLaws.{plan-limits}
use Rattle.window.proofs.LineLaws.{column-in}
use Rattle.pixels.proofs.Laws.{column-wide, column-few}
use Rattle.histogram.proofs.PixelLaws.{filled-start, fill-asks, filled_next, filled-end}
use Rattle.histogram.proofs.start.Goals as goal

pub span_of-k-end-requires : goal.span_of-k-end-requires
span_of-k-end-requires c = let l = plan-limits c.requires.planned.0 in (c.requires.planned.1, l.width, l.radius)

pub loop-k-init : goal.loop-k-init
loop-k-init c = filled-start c.requires.planned.0 _ c.args.t c.requires.blank

pub overflow_add-x : goal.overflow_add-x
overflow_add-x c =
    omega (arith, column-wide c.args.plan c.args.s c.span_of-k-end.ensures c.loop-k-test.true c.saturating_sub-x.ensures, (plan-limits c.requires.planned.0).width)

pub column_line-line-requires-clause-plan_limits : goal.column_line-line-requires-clause-plan_limits
column_line-line-requires-clause-plan_limits c = plan-limits c.requires.planned.0

pub column_line-line-requires-clause-x_bound : goal.column_line-line-requires-clause-x_bound
column_line-line-requires-clause-x_bound c = (
  omega (arith, column-wide c.args.plan c.args.s c.span_of-k-end.ensures c.loop-k-test.true c.saturating_sub-x.ensures, (plan-limits c.requires.planned.0).width),
  c.requires.planned.2,
)

pub read-m-requires : goal.read-m-requires
read-m-requires c = (
  c.requires.planned.0,
  rw c.column_line-line.ensures (column-in (plan-limits c.requires.planned.0) _ c.args.t
      (column-wide c.args.plan c.args.s c.span_of-k-end.ensures c.loop-k-test.true c.saturating_sub-x.ensures)),
  omega arith,
)

pub change_pixels-requires : goal.change_pixels-requires
change_pixels-requires c =
    let a = fill-asks c.requires.planned.0 c.loop-k.invariant c.column_line-line.ensures c.read-m.ensures.1
    (column-few c.args.plan c.args.s c.span_of-k-end.ensures c.loop-k-test.true (plan-limits c.requires.planned.0)) in
    record { l_bound = a.0; room_for = a.1 }

pub loop-k-preserved : goal.loop-k-preserved
loop-k-preserved c =
    filled_next c.requires.planned.0 c.loop-k.invariant c.column_line-line.ensures c.read-m.ensures.1 c.change_pixels.auto.histogram c.change_pixels.ensures

pub returns : goal.returns
returns c =
    let done : c.loop-k.k ≡ c.span_of-k-end.result = omega arith in
    filled-end c.requires.planned.0 c.saturating_sub-x.ensures (done ∙ c.span_of-k-end.ensures) c.loop-k.invariant
