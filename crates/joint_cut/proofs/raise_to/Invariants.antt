-- The box is that of the cut point below level i.
use Rattle.std.proofs.Common.{◌≡◌, ◌+◌, ◌-◌, ◌≤◌}
use Rattle.joint_search.specs.Search.{box_in}
use Rattle.joint_cut.proofs.raise_to.Given as goal

abbrev pub invariant-loop-i : goal.invariant-loop-i
invariant-loop-i l = record { upto : l.i ≤ l.i-end + 1; box : l.balance_box ≡ box_in l.sizes l.counts (l.i - 1) }
