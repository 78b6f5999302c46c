-- The sum is that of the guides below the place of the scan.
use Rattle.std.proofs.Common.{◌≡◌, ℕ, ◌≤◌, min}
use Rattle.joint_cells.specs.Scan.{place_of, left, bit_of, words_of, cell_dot}
use Rattle.joint_cells.proofs.level.level_weight.Given as goal

abbrev pub invariant-loop-g : goal.invariant-loop-g
invariant-loop-g l = record {
  can : (goal.iterator-loop-g).can_next l.g-iterator;
  ends : (goal.iterator-loop-g).is_finite l.g-iterator;
  along : (g : ℕ) → place_of l.g-iterator ≤ g → left l.g-iterator g ≡ bit_of (words_of l.m l.fn.level.0 l.words) g;
  sum : l.dot ≡ cell_dot l.m l.fn.level.0 l.counts l.row (min (place_of l.g-iterator) l.m);
}
