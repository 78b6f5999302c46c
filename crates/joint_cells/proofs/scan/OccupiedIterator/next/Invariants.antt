-- Until a word has something left: what is left stays the same.
use Rattle.std.proofs.Common.{◌≡◌, ℕ, ◌≤◌, length}
use Rattle.joint_cells.specs.Scan.{left, place_of, Scans}
use Rattle.joint_cells.proofs.scan.OccupiedIterator.next.Given as goal

abbrev pub invariant-loop-self : goal.invariant-loop-self
invariant-loop-self l = record {
  scans : Scans l.self;
  same : (g : ℕ) → left l.self g ≡ left l.fn.self g;
  up : place_of l.fn.self ≤ place_of l.self;
}

abbrev pub decreases-loop-self : goal.decreases-loop-self
decreases-loop-self l = length l.self.words.now
