-- `joint_box::sum_cells` meets its contract. Assumes nothing.
use Rattle.std.proofs.Common.{sym, ◌<◌, pos, arith}
use Rattle.std.proofs.lemmas.List.{length-take, get_or-take}
use Rattle.joint_box.proofs.BoxLaws.{part_none, cell-fits, cell-more}
use Rattle.joint_box.proofs.sum_cells.Goals as goal

pub loop-cell-init : goal.loop-cell-init
loop-cell-init c = sym (part_none _ _ _)

pub overflow_add-sum : goal.overflow_add-sum
overflow_add-sum c =
    let low : c.loop-cell.cell-index < c.args.m = omega (arith, length-take c.args.m c.args.balance_box.now, c.loop-cell-test.true) in
    cell-fits c.requires.1 _ (omega (arith, low, c.requires.0)) c.loop-cell.invariant (get_or-take c.args.m c.args.balance_box.now _ (pos 0) low)

pub loop-cell-preserved : goal.loop-cell-preserved
loop-cell-preserved c =
    let low : c.loop-cell.cell-index < c.args.m = omega (arith, length-take c.args.m c.args.balance_box.now, c.loop-cell-test.true) in
    cell-more c.requires.1 _ (omega (arith, low, c.requires.0)) c.loop-cell.invariant (get_or-take c.args.m c.args.balance_box.now _ (pos 0) low)
