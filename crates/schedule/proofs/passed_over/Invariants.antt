-- `passed_over` meets its contract. The loop's invariant: the files looked at so far are finished. Assumes nothing.
use Rattle.std.proofs.Common.{ℕ, ◌<◌, ◌≤◌, get_or}
use Rattle.spec.specs.Schedule.{looked}
use Rattle.schedule.proofs.passed_over.Given as goal

abbrev pub invariant-loop-j : goal.invariant-loop-j
invariant-loop-j l = (i : ℕ) → i < l.j → get_or l.sizes (looked l.round i) 0 ≤ get_or l.round.tallies (looked l.round i) 0
