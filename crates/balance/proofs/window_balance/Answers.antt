-- The sum with a column's more.
use Rattle.std.proofs.Common.{arith, ◌≡◌, ◌∙◌, [], sym, pos, ◌+ℤ◌}
use Rattle.std.proofs.lemmas.Int.{ints}
use Rattle.window.proofs.PixelLaws.{plan-limits}
use Rattle.pixels.proofs.AdditiveLaws.{columns-none}
use Rattle.balance.proofs.BalanceLaws.{list-small, pixels-weighed, column-next, column-in-picture, column-in-planes, few-columns, columns-by}
use Rattle.balance.proofs.window_balance.Goals as goal

pub span_of-n-requires : goal.span_of-n-requires
span_of-n-requires c = let l = plan-limits c.requires.planned in (c.requires.column, l.width, l.radius)

pub loop-k-init : goal.loop-k-init
loop-k-init c = (sym (columns-none ◌+ℤ◌ (pos 0) _ [] _ _ _ _), omega arith)

pub overflow_add-x : goal.overflow_add-x
overflow_add-x c = omega (arith, column-in-picture c.requires c.saturating_sub-x.ensures c.span_of-n.ensures c.loop-k-test.true)

pub column_line-line-requires-clause-plan_limits : goal.column_line-line-requires-clause-plan_limits
column_line-line-requires-clause-plan_limits c = plan-limits c.requires.planned

pub column_line-line-requires-clause-x_bound : goal.column_line-line-requires-clause-x_bound
column_line-line-requires-clause-x_bound c = column-in-picture c.requires c.saturating_sub-x.ensures c.span_of-n.ensures c.loop-k-test.true

pub read-m-requires : goal.read-m-requires
read-m-requires c = (
  c.requires.planned,
  column-in-planes c.requires c.saturating_sub-x.ensures c.span_of-n.ensures c.loop-k-test.true c.column_line-line.ensures,
  omega arith,
)

pub line_balance-sum-requires : goal.line_balance-sum-requires
line_balance-sum-requires c = pixels-weighed c.requires c.read-m.ensures.1

pub overflow_add-sum : goal.overflow_add-sum
overflow_add-sum c =
    let few = few-columns c.requires c.saturating_sub-x.ensures c.span_of-n.ensures c.loop-k-test.true in
    let small = list-small (pixels-weighed c.requires c.read-m.ensures.1) c.args.top.0 in
    omega (arith, ints)

pub loop-k-preserved : goal.loop-k-preserved
loop-k-preserved c =
    let few = few-columns c.requires c.saturating_sub-x.ensures c.span_of-n.ensures c.loop-k-test.true in
    let small = list-small (pixels-weighed c.requires c.read-m.ensures.1) c.args.top.0 in
    let next = column-next c.requires c.read-m.ensures.1 c.args.top.0 c.saturating_sub-x.result c.loop-k.k c.column_line-line.ensures in
    (omega (arith, ints), omega (arith, ints))

pub returns : goal.returns
returns c =
    let done : c.loop-k.k ≡ c.span_of-n.result = omega arith in
    c.loop-k.invariant.0 ∙ columns-by c.requires c.args.top.0 c.saturating_sub-x.ensures (done ∙ c.span_of-n.ensures)
