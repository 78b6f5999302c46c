-- Assumes nothing.
use Rattle.std.proofs.Common.{◌≡◌, ◌∙◌, arith}
use Rattle.window.proofs.PixelLaws.{plan-limits}
use Rattle.window.proofs.LineLaws.{column-in}
use Rattle.pixels.proofs.Laws.{column-wide, column-few}
use Rattle.pixels.proofs.SumLaws.{below-most, columns-start, columns-next, columns-end}
use Rattle.pixels.proofs.sums.start.Goals as goal

pub span_of-n-requires : goal.span_of-n-requires
span_of-n-requires c = let l = plan-limits c.requires.planned in (c.requires.s_lt_width.0, l.width, l.radius)

pub loop-k-init : goal.loop-k-init
loop-k-init c = columns-start _ _ _ _ _

pub overflow_add-x : goal.overflow_add-x
overflow_add-x c = omega (arith, column-wide c.args.plan c.args.s c.span_of-n.ensures c.loop-k-test.true c.saturating_sub-x.ensures, (plan-limits c.requires.planned).width)

pub column_line-line-requires-clause-plan_limits : goal.column_line-line-requires-clause-plan_limits
column_line-line-requires-clause-plan_limits c = plan-limits c.requires.planned

pub column_line-line-requires-clause-x_bound : goal.column_line-line-requires-clause-x_bound
column_line-line-requires-clause-x_bound c = (omega (arith, column-wide c.args.plan c.args.s c.span_of-n.ensures c.loop-k-test.true c.saturating_sub-x.ensures, (plan-limits c.requires.planned).width), c.requires.s_lt_width.1)

pub read-m-requires : goal.read-m-requires
read-m-requires c =
    (c.requires.planned, rw c.column_line-line.ensures (column-in (plan-limits c.requires.planned) _ c.args.t (column-wide c.args.plan c.args.s c.span_of-n.ensures c.loop-k-test.true c.saturating_sub-x.ensures)), omega arith)

pub list_sums-a-requires : goal.list_sums-a-requires
list_sums-a-requires c = below-most c.requires.planned c.read-m.ensures.1.below

pub overflow_add-count : goal.overflow_add-count
overflow_add-count c = omega (arith, column-few c.args.plan c.args.s c.span_of-n.ensures c.loop-k-test.true (plan-limits c.requires.planned), c.loop-k.invariant.count_high, c.list_sums-a.ensures.count_high, c.read-m.ensures.1.below.few)

pub overflow_add-sum : goal.overflow_add-sum
overflow_add-sum c = omega (arith, column-few c.args.plan c.args.s c.span_of-n.ensures c.loop-k-test.true (plan-limits c.requires.planned), c.loop-k.invariant.sum_high, c.list_sums-a.ensures.sum_high, c.read-m.ensures.1.below.few)

pub overflow_add-squares : goal.overflow_add-squares
overflow_add-squares c =
    omega (arith, column-few c.args.plan c.args.s c.span_of-n.ensures c.loop-k-test.true (plan-limits c.requires.planned), c.loop-k.invariant.squares_high, c.list_sums-a.ensures.squares_high, c.read-m.ensures.1.below.few)

pub loop-k-preserved : goal.loop-k-preserved
loop-k-preserved c = columns-next c.loop-k.invariant c.column_line-line.ensures c.read-m.ensures.1 c.list_sums-a.ensures

pub returns : goal.returns
returns c =
    let done : c.loop-k.k ≡ c.span_of-n.result = omega arith in
    columns-end c.requires.planned c.args.s c.saturating_sub-x.ensures (done ∙ c.span_of-n.ensures) c.loop-k.invariant
