-- `columns::store::count_strip` meets its contract. Assumes nothing.
use Rattle.std.proofs.Common.{arith}
use Rattle.window.proofs.PixelLaws.{plan-limits}
use Rattle.columns.proofs.BlockLaws.{pile-start, pile-next, pile-able, pile-end, strip-able, strip-put}
use Rattle.columns.proofs.store.count_strip.Goals as goal

pub overflow_mul-step : goal.overflow_mul-step
overflow_mul-step c = omega (arith, c.requires.by_index c.loop-x.x (omega arith), (plan-limits c.requires.planned).width)

pub overflow_add-a : goal.overflow_add-a
overflow_add-a c = omega (arith, c.requires.by_index c.loop-x.x (omega arith), (plan-limits c.requires.planned).width)

pub overflow_add-b : goal.overflow_add-b
overflow_add-b c = omega (arith, c.requires.by_index c.loop-x.x (omega arith), (plan-limits c.requires.planned).width)

pub loop-x-init : goal.loop-x-init
loop-x-init c = pile-start _ _ _ _ _ _

pub count_pixel-requires-clause-able : goal.count_pixel-requires-clause-able
count_pixel-requires-clause-able c = pile-able c.loop-x.invariant (omega arith) (strip-able _ _ _ _ _ _ _ _ c.requires.able)

pub loop-x-preserved : goal.loop-x-preserved
loop-x-preserved c = pile-next c.loop-x.invariant c.count_pixel.ensures

pub returns : goal.returns
returns c = strip-put _ _ _ _ _ _ _ _ (pile-end c.loop-x.invariant (omega arith))
