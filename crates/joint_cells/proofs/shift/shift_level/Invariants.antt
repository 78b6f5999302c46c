-- The cells of the guides below the place of the scan are moved.
use Rattle.std.proofs.Common.{◌≡◌, ℕ, ◌≤◌, min}
use Rattle.joint_cells.specs.Scan.{place_of, left, bit_of, words_of}
use Rattle.joint_cells.specs.Box.{CountsAdded}
use Rattle.joint_cells.proofs.shift.shift_level.Given as goal

abbrev pub invariant-loop-g : goal.invariant-loop-g
invariant-loop-g l = record {
  can : (goal.iterator-loop-g).can_next l.g-iterator;
  ends : (goal.iterator-loop-g).is_finite l.g-iterator;
  along : (g : ℕ) → place_of l.g-iterator ≤ g → left l.g-iterator g ≡ bit_of (words_of l.m l.fn.level.0 l.words) g;
  moved : CountsAdded l.m l.fn.level.0 l.by l.counts (min (place_of l.g-iterator) l.m) l.initial.balance_box l.balance_box;
}
