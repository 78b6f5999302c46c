-- Every level from the first up to i has failed, and the box is that of i.
use Rattle.std.proofs.Common.{◌≡◌, ℕ, ◌-◌, ◌<◌, ◌≤◌, pos, ◌<ℤ◌}
use Rattle.joint_search.specs.Search.{balance_in, box_in}
use Rattle.joint_search.proofs.find.climb.Given as goal

abbrev pub invariant-loop-b : goal.invariant-loop-b
invariant-loop-b g l = record {
  from : l.initial.i ≤ l.i;
  inside : l.i < l.sizes.levels;
  balance : l.b ≡ balance_in l.sizes l.counts l.row l.i;
  before : (j : ℕ) → l.initial.i ≤ j → j < l.i → balance_in l.sizes l.counts l.row j <ℤ pos 0;
  box : l.balance_box ≡ box_in l.sizes l.counts l.i;
}

abbrev pub decreases-loop-b : goal.decreases-loop-b
decreases-loop-b g l = l.sizes.levels - l.i
