-- `check_parts` meets its contract: where checks 1 to 6 are passed, the parts lie within the file. Assumes nothing.
use Rattle.std.proofs.Common.{arith, sym}
use Rattle.spec.proofs.Checks.{trailer-passed}
use Rattle.byte_planes.proofs.Laws.{parts-fit}
use Rattle.byte_planes.proofs.check_parts.Goals as goal

pub plan_of-plan-requires : goal.plan_of-plan-requires
plan_of-plan-requires c = (trailer-passed _ (sym c.in_ok-check_trailer.ensures)).long

pub overflow_mul-n : goal.overflow_mul-n
overflow_mul-n c = omega (arith, (parts-fit (sym c.in_ok-check_trailer.ensures) c.plan_of-plan.ensures).values)

pub overflow_mul-n-2 : goal.overflow_mul-n-2
overflow_mul-n-2 c = omega (arith, (parts-fit (sym c.in_ok-check_trailer.ensures) c.plan_of-plan.ensures).values)

pub overlap-requires : goal.overlap-requires
overlap-requires c =
    let f = parts-fit (sym c.in_ok-check_trailer.ensures) c.plan_of-plan.ensures in (omega (arith, f.values), omega (arith, f.guides))

pub overflow_mul-plan : goal.overflow_mul-plan
overflow_mul-plan c = omega (arith, (parts-fit (sym c.in_ok-check_trailer.ensures) c.plan_of-plan.ensures).table)

pub overlap-requires-else-overlap : goal.overlap-requires-else-overlap
overlap-requires-else-overlap c =
    let f = parts-fit (sym c.in_ok-check_trailer.ensures) c.plan_of-plan.ensures in (omega (arith, f.values), omega (arith, f.table))
