use Rattle.std.proofs.Common.{length, ◌-◌, ◌≡◌, ◌≤◌}
use Rattle.explain_half.specs.Half.{up_to}
use Rattle.explain_half.proofs.HalfLaws.{Short}
use Rattle.explain_half.proofs.reach_half.Given as goal

-- the levels passed fall short
abbrev pub invariant-loop-i : goal.invariant-loop-i
invariant-loop-i l = (l.i ≤ length l.sums) × (l.below ≡ up_to l.sums l.i) × Short l.sums l.fn.total l.i

abbrev pub decreases-loop-i : goal.decreases-loop-i
decreases-loop-i l = length l.sums - l.i
