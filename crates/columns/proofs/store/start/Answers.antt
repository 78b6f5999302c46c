-- `columns::store::start` meets its contract. Assumes nothing.
use Rattle.std.proofs.Common.{arith, rules, sym, length-take-le}
use Rattle.window.proofs.PixelLaws.{plan-limits, levels_high}
use Rattle.std.proofs.lemmas.Grind.{common_steps}
use Rattle.spec.specs.Window.{span}
use Rattle.columns.proofs.BlockLaws.{cleared, pile-start, pile-next, pile-able, pile-end}
use Rattle.columns.proofs.StoreLaws.{start-able, start-done}
use Rattle.columns.proofs.MoveLaws.{size_in_lem, size_small}
use Rattle.columns.proofs.store.start.Goals as goal

pub overflow_mul-n : goal.overflow_mul-n
overflow_mul-n c = omega (arith, size_small c.requires.planned)

pub overflow_mul-n-2 : goal.overflow_mul-n-2
overflow_mul-n-2 c = omega (arith, size_small c.requires.planned)

pub overflow_mul-n-3 : goal.overflow_mul-n-3
overflow_mul-n-3 c = omega (arith, levels_high c.requires.planned)

pub overflow_add-n : goal.overflow_add-n
overflow_add-n c = omega (arith, size_small c.requires.planned, levels_high c.requires.planned)

pub slice_bounds-fill-end : goal.slice_bounds-fill-end
slice_bounds-fill-end c = size_in_lem c.requires.planned c.requires.s_lt_width.2

pub slice_bounds-fill-end-2 : goal.slice_bounds-fill-end-2
slice_bounds-fill-end-2 c =
    let h = size_in_lem c.requires.planned c.requires.s_lt_width.2 in
    sym (length-take-le _ _ h)

pub span_of-rows-requires : goal.span_of-rows-requires
span_of-rows-requires c = let z = plan-limits c.requires.planned in (c.requires.s_lt_width.1, z.height, z.radius)

pub loop-y-init : goal.loop-y-init
loop-y-init c = pile-start _ _ _ _ _ _

pub overflow_add-y-end : goal.overflow_add-y-end
unfolding span
overflow_add-y-end c = omega (arith, c.saturating_sub-top.ensures, c.span_of-rows.ensures, (plan-limits c.requires.planned).height)

pub count_row-requires-clause-s_lt_width : goal.count_row-requires-clause-s_lt_width
unfolding span
count_row-requires-clause-s_lt_width c =
    let r = c.requires.s_lt_width in
    let h = size_in_lem c.requires.planned r.2 in (
      r.0,
      omega (arith, c.saturating_sub-top.ensures, c.span_of-rows.ensures),
      grind (arith, common_steps, h),
    )

pub count_row-requires-clause-able : goal.count_row-requires-clause-able
count_row-requires-clause-able c =
    let h = size_in_lem c.requires.planned c.requires.s_lt_width.2 in
    pile-able c.loop-y.invariant (omega arith)
    (start-able c.requires.planned c.args.s c.args.t c.saturating_sub-top.ensures c.span_of-rows.ensures c.args.blocks.now _
    (cleared _ _ _ h (c.fill.ensures.after (λ y e. e))) (λ j. search rules))

pub returns : goal.returns
returns c =
    let h = size_in_lem c.requires.planned c.requires.s_lt_width.2 in
    start-done c.requires.planned c.args.s c.args.t c.saturating_sub-top.ensures c.span_of-rows.ensures c.args.blocks.now _
    (cleared _ _ _ h (c.fill.ensures.after (λ y e. e))) _ c.requires.s_lt_width.2 (pile-end c.loop-y.invariant (omega arith))

pub loop-y-preserved : goal.loop-y-preserved
loop-y-preserved c = pile-next c.loop-y.invariant c.count_row.ensures
