-- `tolerance_verdict` meets its contract. Assumes nothing.
use native.Mathlib.Omega.{arith}
use Rattle.spec.proofs.Plans.{plane-small}
use Rattle.tolerance_checks.proofs.Laws.{limits_in}
use Rattle.tolerance_checks.proofs.tolerance_verdict.Goals as goal

pub overflow_mul-n : goal.overflow_mul-n
overflow_mul-n c = omega (arith, plane-small c.requires)

pub short-requires : goal.short-requires
short-requires c = limits_in c.requires
