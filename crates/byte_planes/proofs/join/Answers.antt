-- `join` meets its contract: each check in its place decides, and then the bytes are moved. Assumes nothing.
use Rattle.std.proofs.Common.{arith, sym, refl}
use Rattle.std.proofs.lemmas.Result.{err_from_is_err_and}
use Rattle.byte_planes.proofs.Laws.{fit-by-parts, trailer-of-parts, joins-parts-refused, join-room-stops, join-passes, joins-refused, joins-done}
use Rattle.spec.proofs.Checks.{trailer-passed}
use Rattle.byte_planes.proofs.join.Goals as goal

pub returns-in_err-check_parts : goal.returns-in_err-check_parts
returns-in_err-check_parts c =
    let p = err_from_is_err_and c.from_residual.result c.from_residual.ensures.1 in
    rw (p.1, p.2) (joins-parts-refused _ _ c.in_err-check_parts.ensures)

pub returns-in_err-check_room : goal.returns-in_err-check_room
returns-in_err-check_room c =
    let p = err_from_is_err_and c.from_residual-in_err-check_room.result c.from_residual-in_err-check_room.ensures.1 in
    rw (p.1, p.2) (joins-refused _ _ _ (join-room-stops _ _ (sym c.in_ok-check_parts.ensures) c.in_err-check_room.ensures.outcome) refl)

pub overflow_mul-plan : goal.overflow_mul-plan
overflow_mul-plan c = omega (arith, (fit-by-parts c.in_ok-check_parts.ensures c.plan_of-plan.ensures).values)

pub join_file-requires : goal.join_file-requires
join_file-requires c = ((fit-by-parts c.in_ok-check_parts.ensures c.plan_of-plan.ensures).values, c.in_ok-check_room.ensures.fits)

pub returns : goal.returns
returns c =
    joins-done c.plan_of-plan.ensures (trailer-of-parts _ (sym c.in_ok-check_parts.ensures)) c.in_ok-check_room.ensures.fits
    (join-passes _ _ (sym c.in_ok-check_parts.ensures) c.in_ok-check_room.ensures.fits) c.join_file.ensures

pub plan_of-plan-requires : goal.plan_of-plan-requires
plan_of-plan-requires c = (trailer-passed _ (trailer-of-parts _ (sym c.in_ok-check_parts.ensures))).long
