-- The box is that of the cut point i.
use Rattle.std.proofs.Common.{◌≡◌, ◌+◌, ◌≤◌}
use Rattle.joint_search.specs.Search.{box_in}
use Rattle.joint_cut.proofs.lower_to.Given as goal

abbrev pub invariant-loop-i : goal.invariant-loop-i
invariant-loop-i l = record { from : l.i-start ≤ l.i + 1; box : l.balance_box ≡ box_in l.sizes l.counts l.i }
