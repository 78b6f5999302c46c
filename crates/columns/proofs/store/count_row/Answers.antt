-- `columns::store::count_row` meets its contract. Assumes nothing.
use Rattle.std.proofs.Common.{arith}
use Rattle.spec.specs.Window.{span}
use Rattle.window.proofs.PixelLaws.{plan-limits}
use Rattle.columns.proofs.BlockLaws.{row_first, row-second, row_put}
use Rattle.columns.proofs.store.count_row.Goals as goal

pub span_of-columns-requires : goal.span_of-columns-requires
span_of-columns-requires c = let z = plan-limits c.requires.planned in (c.requires.s_lt_width.0, z.width, z.radius)

pub overflow_mul-w : goal.overflow_mul-w
overflow_mul-w c = omega (arith, (plan-limits c.requires.planned).width)

pub overflow_mul-w-2 : goal.overflow_mul-w-2
overflow_mul-w-2 c = omega (arith, (plan-limits c.requires.planned).width)

pub overflow_add-w : goal.overflow_add-w
overflow_add-w c = omega (arith, (plan-limits c.requires.planned).width)

pub count_strip-requires-clause-able : goal.count_strip-requires-clause-able
count_strip-requires-clause-able c =
    row_first c.requires.planned c.args.add c.args.s _ _ c.args.y c.saturating_sub-left.ensures c.span_of-columns.ensures c.requires.able

pub count_strip-requires-2-clause-y_lt_height : goal.count_strip-requires-2-clause-y_lt_height
unfolding span
count_strip-requires-2-clause-y_lt_height c =
    let k = c.requires.s_lt_width in
    (k.1, omega (arith, c.saturating_sub-left.ensures, c.span_of-columns.ensures), omega (arith, c.count_strip.ensures.len))

pub count_strip-requires-2-clause-able : goal.count_strip-requires-2-clause-able
count_strip-requires-2-clause-able c =
    row-second c.requires.planned c.args.add c.args.s _ _ c.args.y c.saturating_sub-left.ensures c.span_of-columns.ensures c.requires.able c.count_strip.ensures

pub returns : goal.returns
returns c =
    row_put c.requires.planned c.args.add c.args.s _ _ c.args.y c.saturating_sub-left.ensures c.span_of-columns.ensures c.count_strip.ensures
    c.count_strip-2.ensures
