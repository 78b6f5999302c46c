-- `split` meets its contract: each check in its place decides, and then the bytes are moved. Assumes nothing.
use Rattle.std.proofs.Common.{arith, sym, refl}
use Rattle.std.proofs.lemmas.Result.{err_from_is_err_and}
use Rattle.frame.proofs.Planning.{planes-in-file}
use Rattle.byte_planes.proofs.Laws.{
  fit-by-parts,
  trailer-of-parts,
  splits-parts-refused,
  splits-contents-refused,
  split-room-stops,
  split-passes,
  splits-refused,
  splits-done,
}
use Rattle.spec.proofs.Checks.{trailer-passed}
use Rattle.byte_planes.proofs.split.Goals as goal

pub returns-in_err-check_parts : goal.returns-in_err-check_parts
returns-in_err-check_parts c =
    let p = err_from_is_err_and c.from_residual.result c.from_residual.ensures.1 in
    rw (p.1, p.2) (splits-parts-refused _ _ c.in_err-check_parts.ensures)

pub contents-requires : goal.contents-requires
contents-requires c = rw c.plan_of-plan.ensures (planes-in-file _ (trailer-of-parts _ (sym c.in_ok-check_parts.ensures)))

pub returns-in_err-contents : goal.returns-in_err-contents
returns-in_err-contents c =
    let p = err_from_is_err_and c.from_residual-in_err-contents.result c.from_residual-in_err-contents.ensures.1 in
    rw (p.1, p.2) (splits-contents-refused _ _ c.in_ok-check_parts.ensures (rw c.plan_of-plan.ensures at c.in_err-contents.ensures))

pub returns-in_err-check_room : goal.returns-in_err-check_room
returns-in_err-check_room c =
    let p = err_from_is_err_and c.from_residual-in_err-check_room.result c.from_residual-in_err-check_room.ensures.1 in
    rw (p.1, p.2)
    (splits-refused _ _ _
    (split-room-stops _ _ (sym c.in_ok-check_parts.ensures) (sym (rw c.plan_of-plan.ensures at c.in_ok-contents.ensures))
    c.in_err-check_room.ensures.outcome) refl)

pub overflow_mul-plan : goal.overflow_mul-plan
overflow_mul-plan c = omega (arith, (fit-by-parts c.in_ok-check_parts.ensures c.plan_of-plan.ensures).values)

pub split_file-requires : goal.split_file-requires
split_file-requires c = ((fit-by-parts c.in_ok-check_parts.ensures c.plan_of-plan.ensures).values, c.in_ok-check_room.ensures.fits)

pub returns : goal.returns
returns c =
    splits-done c.plan_of-plan.ensures (trailer-of-parts _ (sym c.in_ok-check_parts.ensures)) c.in_ok-check_room.ensures.fits
    (split-passes _ _ (sym c.in_ok-check_parts.ensures) (sym (rw c.plan_of-plan.ensures at c.in_ok-contents.ensures)) c.in_ok-check_room.ensures.fits)
    c.split_file.ensures

pub plan_of-plan-requires : goal.plan_of-plan-requires
plan_of-plan-requires c = (trailer-passed _ (trailer-of-parts _ (sym c.in_ok-check_parts.ensures))).long
