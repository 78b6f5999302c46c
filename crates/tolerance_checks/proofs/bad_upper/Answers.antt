-- `bad_upper` meets its contract. Assumes nothing.
use native.Mathlib.Omega.{arith}
use Rattle.spec.proofs.Plans.{plane-small}
use Rattle.spec.proofs.Tolerance.{wrong-length, found-bad, none-bad}
use Rattle.tolerance_checks.proofs.Laws.{size_is, levels_are}
use Rattle.tolerance_checks.proofs.bad_upper.Goals as goal

pub overflow_mul-plan : goal.overflow_mul-plan
overflow_mul-plan c = omega (arith, plane-small c.requires)

pub returns-then-upper-plan : goal.returns-then-upper-plan
returns-then-upper-plan c = wrong-length _ _ _ _ (size_is c.requires) (levels_are c.requires) (λ e. absurd (omega arith))

pub returns-then-bad_span : goal.returns-then-bad_span
returns-then-bad_span c =
    found-bad _ _ _ _ (size_is c.requires) (levels_are c.requires) (omega arith) c.loop-q.q (omega arith) (cc)

pub returns : goal.returns
returns c =
    none-bad _ _ _ _ (size_is c.requires) (levels_are c.requires) (omega arith) (λ j h. c.loop-q.invariant j (omega arith))
