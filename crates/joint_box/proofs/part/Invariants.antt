-- `joint_box::part`: the products of the cells so far. Assumes nothing.
use Rattle.std.proofs.Common.{◌≡◌, length}
use Rattle.joint_box.specs.Products.{centred_part}
use Rattle.joint_box.proofs.part.Given as goal

abbrev pub invariant-loop-cell : goal.invariant-loop-cell
invariant-loop-cell l = l.sum ≡ centred_part l.balance_box l.row l.from (length l.yielded)
