-- Of the guides below the place of the scan the sum is made, and their cells are moved.
use Rattle.std.proofs.Common.{◌≡◌, ℕ, ◌≤◌, min, pos}
use Rattle.joint_cells.specs.Scan.{place_of, left, bit_of, words_of, cell_dot}
use Rattle.joint_cells.specs.Box.{CountsAdded}
use Rattle.joint_cells.proofs.raise.raise_level.Given as goal

abbrev pub invariant-loop-g : goal.invariant-loop-g
invariant-loop-g l = record {
  can : (goal.iterator-loop-g).can_next l.g-iterator;
  ends : (goal.iterator-loop-g).is_finite l.g-iterator;
  along : (g : ℕ) → place_of l.g-iterator ≤ g → left l.g-iterator g ≡ bit_of (words_of l.m l.fn.level.0 l.words) g;
  sum : l.dot ≡ cell_dot l.m l.fn.level.0 l.counts l.row (min (place_of l.g-iterator) l.m);
  moved : CountsAdded l.m l.fn.level.0 (pos 2) l.counts (min (place_of l.g-iterator) l.m) l.initial.balance_box l.balance_box;
}
