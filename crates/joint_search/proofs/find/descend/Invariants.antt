-- Down to level i no balance is negative, and the box is that of i.
use Rattle.std.proofs.Common.{◌≡◌, ◌≤◌, pos, ◌≤ℤ◌}
use Rattle.joint_search.specs.Search.{balance_in, box_in}
use Rattle.joint_search.proofs.find.descend.Given as goal

abbrev pub invariant-loop-i : goal.invariant-loop-i
invariant-loop-i g l = record {
  upto : l.i ≤ l.initial.i;
  balance : l.b ≡ balance_in l.sizes l.counts l.row l.i;
  enough : pos 0 ≤ℤ balance_in l.sizes l.counts l.row l.i;
  box : l.balance_box ≡ box_in l.sizes l.counts l.i;
}

abbrev pub decreases-loop-i : goal.decreases-loop-i
decreases-loop-i g l = l.i
