-- `frame::plan::open_plan` meets its contract. Assumes nothing.
use mathlib.Core.Path.{sym}
use Rattle.spec.proofs.Checks.{passed}
use Rattle.frame.proofs.plan.open_plan.Goals as goal

pub plan_of-requires : goal.plan_of-requires
plan_of-requires c = (passed _ (sym c.in_ok-check.ensures)).long
