-- `chain_search::climb::climb` meets its contract.
-- Assumes nothing.
use Rattle.std.proofs.Common.{ℕ, ◌≤◌, get_or}
use Rattle.chain_search.specs.Climb.{Climbs}
use Rattle.chain_search.proofs.ClimbLaws.{ahead, AtNode}
use Rattle.chain_search.proofs.climb.climb.Given as goal

abbrev pub invariant-loop-at : goal.invariant-loop-at
invariant-loop-at l =
    (k : ℕ) → k ≤ 1024 → (a : Climbs k l.coefficients l.nodes) → AtNode k l.nodes l.coefficients a l.count l.sum l.at (get_or l.nodes l.at 0)

abbrev pub decreases-loop-at : goal.decreases-loop-at
decreases-loop-at l = ahead 1024 l.nodes (get_or l.nodes l.at 0)
