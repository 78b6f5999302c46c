-- Each number before the one at hand is judged below the limit.
-- Assumes nothing.
use Rattle.std.proofs.Common.{ℕ, ◌<◌, get_or}
use Rattle.spec.specs.Checks.{judged}
use Rattle.frame_write.proofs.scan_list.Given as goal

abbrev pub invariant-loop-k : goal.invariant-loop-k
invariant-loop-k l = (j : ℕ) → j < l.k → judged l.values (get_or l.list j 0) < l.limit
