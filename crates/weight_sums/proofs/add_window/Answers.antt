-- The column's weights are in the sums and in the total.
use Rattle.std.proofs.Common.{arith, ◌≡◌, ◌∙◌, ◌^◌, [], sym, pos, ◌+ℤ◌}
use Rattle.std.proofs.lemmas.Int.{ints}
use Rattle.window.proofs.PixelLaws.{plan-limits}
use Rattle.pixels.proofs.AdditiveLaws.{columns-none}
use Rattle.balance.proofs.BalanceLaws.{list-small, pixels-weighed, column-next, column-in-picture, column-in-planes, few-columns, columns-by}
use Rattle.weight_sums.proofs.SumLaws.{columns-start, list-asks, columns-next, columns-all}
use Rattle.weight_sums.proofs.add_window.Goals as goal

pub span_of-n-requires : goal.span_of-n-requires
span_of-n-requires c = let l = plan-limits c.requires.weighed.0.planned in (c.requires.weighed.0.column, l.width, l.radius)

pub loop-k-init : goal.loop-k-init
loop-k-init c = (columns-start _ _ _ _ _ _ c.requires.zeros.0, sym (columns-none ◌+ℤ◌ (pos 0) _ [] _ _ _ _), omega arith)

pub overflow_add-x : goal.overflow_add-x
overflow_add-x c =
    omega (arith, column-in-picture c.requires.weighed.0 c.saturating_sub-x.ensures c.span_of-n.ensures c.loop-k-test.true)

pub column_line-line-requires-clause-plan_limits : goal.column_line-line-requires-clause-plan_limits
column_line-line-requires-clause-plan_limits c = plan-limits c.requires.weighed.0.planned

pub column_line-line-requires-clause-x_bound : goal.column_line-line-requires-clause-x_bound
column_line-line-requires-clause-x_bound c =
    column-in-picture c.requires.weighed.0 c.saturating_sub-x.ensures c.span_of-n.ensures c.loop-k-test.true

pub read-m-requires : goal.read-m-requires
read-m-requires c = (
  c.requires.weighed.0.planned,
  column-in-planes c.requires.weighed.0 c.saturating_sub-x.ensures c.span_of-n.ensures c.loop-k-test.true c.column_line-line.ensures,
  omega arith,
)

pub add_pixels-total-requires : goal.add_pixels-total-requires
add_pixels-total-requires c =
    let few = few-columns c.requires.weighed.0 c.saturating_sub-x.ensures c.span_of-n.ensures c.loop-k-test.true in
    let asked = list-asks (2 ^ c.args.bits) c.requires.weighed.0 c.requires.weighed.1 c.read-m.ensures.1 c.loop-k.invariant.0 c.requires.zeros.1 few in
    (asked.0, asked.1, c.requires.zeros.2)

pub overflow_add-total : goal.overflow_add-total
overflow_add-total c =
    let few = few-columns c.requires.weighed.0 c.saturating_sub-x.ensures c.span_of-n.ensures c.loop-k-test.true in
    let small = list-small (pixels-weighed c.requires.weighed.0 c.read-m.ensures.1) 65535 in
    omega (arith, ints, c.add_pixels-total.ensures.1)

pub loop-k-preserved : goal.loop-k-preserved
loop-k-preserved c =
    let few = few-columns c.requires.weighed.0 c.saturating_sub-x.ensures c.span_of-n.ensures c.loop-k-test.true in
    let small = list-small (pixels-weighed c.requires.weighed.0 c.read-m.ensures.1) 65535 in
    let next = column-next c.requires.weighed.0 c.read-m.ensures.1 65535 c.saturating_sub-x.result c.loop-k.k c.column_line-line.ensures in (
      columns-next (2 ^ c.args.bits) c.requires.weighed.0 c.requires.weighed.1 c.read-m.ensures.1 c.loop-k.invariant.0 c.column_line-line.ensures
          c.add_pixels-total.ensures.0,
      omega (arith, ints, c.add_pixels-total.ensures.1),
      omega (arith, ints, c.add_pixels-total.ensures.1),
    )

pub returns : goal.returns
returns c =
    let done : c.loop-k.k ≡ c.span_of-n.result = omega arith in
    let all = done ∙ c.span_of-n.ensures in (
      columns-all (2 ^ c.args.bits) c.requires.weighed.0 c.requires.weighed.1 c.saturating_sub-x.ensures all c.loop-k.invariant.0,
      c.loop-k.invariant.1 ∙ columns-by c.requires.weighed.0 65535 c.saturating_sub-x.ensures all,
    )
