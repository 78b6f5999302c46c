-- What a file has that no check of the program refuses.
-- Assumes nothing.
use Rattle.std.specs.Prelude.{ℕ, ◌≤◌, List, length}
use Rattle.spec.specs.declared.Plan.{Plan}
use Rattle.spec.specs.Checks.{Planned}

-- a file that passes the program's checks, with its plan
pub record Admitted (b : List ℕ) (plan : Plan) : Type 0 where
  pub planned : Planned b plan
  pub size : length b ≤ 16384
  pub width : plan.width ≤ 64
  pub levels : plan.levels ≤ 64
  pub guides : plan.guides ≤ 64
