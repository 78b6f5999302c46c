-- `joint_box::sum_cells`: the sum of the cells so far. Assumes nothing.
use Rattle.std.proofs.Common.{◌≡◌}
use Rattle.joint_box.specs.Products.{box_sum}
use Rattle.joint_box.proofs.sum_cells.Given as goal

abbrev pub invariant-loop-cell : goal.invariant-loop-cell
invariant-loop-cell l = l.sum ≡ box_sum l.balance_box l.cell-index
