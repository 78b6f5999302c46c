-- Where the planes of a file must lie for check 7's reads to stay within it.
-- Assumes nothing.
use Rattle.std.specs.Prelude.{ℕ, ◌+◌, ◌*◌, ◌≤◌, List, length}
use Rattle.spec.specs.declared.Plan.{Plan}

-- both planes end within the file
pub record PlanesInFile (b : List ℕ) (plan : Plan) : Type 0 where
  pub values : plan.value + 2 * (plan.width * plan.height) ≤ length b
  pub guides : plan.guide + 2 * (plan.width * plan.height) ≤ length b
