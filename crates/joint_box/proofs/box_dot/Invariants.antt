-- `joint_box::box_dot`: the products of the parts so far. Assumes nothing.
use Rattle.std.proofs.Common.{◌≡◌, ◌*◌}
use Rattle.joint_box.specs.Products.{centred_part}
use Rattle.joint_box.proofs.box_dot.Given as goal

abbrev pub invariant-loop-p : goal.invariant-loop-p
invariant-loop-p l = l.dot ≡ centred_part l.balance_box l.row 0 (l.p * 32)
