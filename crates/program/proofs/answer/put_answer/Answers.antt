-- `program::answer::put_answer` meets its contract: size, rows, the joint way's line, those of the ways of kind 2 and the coarse way's, each behind
-- the one before.
-- Assumes nothing.
use Rattle.std.proofs.Common.{arith, refl, sym, ap, ◌≤◌, ◌*◌}
use native.Mathlib.Nat.{mul_comm}
use Rattle.spec.specs.declared.Way.TheVariants.{Joint, Coarse}
use Rattle.spec.specs.Calls.{way_of}
use Rattle.spec.specs.Frame.{frame_of}
use Rattle.spec.specs.Program.{joint_word, coarse_word, rows}
use Rattle.spec.proofs.Plans.{facts}
use mathlib.Core.Path.{subst}
use Prim.Native.Nat.{ℕ}
use Rattle.text.specs.Text.{TextRoom, way_text}
use Rattle.text.proofs.Putting.{joined, called, room_next}
use Rattle.program_checks.proofs.Admission.{pixels-few}
use Rattle.program.specs.Answer.{guided_text}
use Rattle.program.proofs.Answering.{shift_count, by-levels, whole, plane-text, room-all, room-four, room-three, room-two, room-one}
use Rattle.program.proofs.answer.put_answer.Goals as goal

pub put_size-below-requires : goal.put_size-below-requires
put_size-below-requires c = room-one c.requires.admitted _ c.requires.longest_in_bounds

pub put_rows-ways-requires-clause-le_width : goal.put_rows-ways-requires-clause-le_width
put_rows-ways-requires-clause-le_width c =
    let f = facts c.requires.admitted.planned in
    let n : c.args.plan.height * c.args.plan.width ≤ 8192 = rw (f.width, f.height, mul_comm) (pixels-few c.requires.admitted) in
    (rw f.width f.limits.sound.width_low, omega (arith, n, c.filter_by-joint.ensures.long))

pub put_rows-ways-requires-clause-text_room : goal.put_rows-ways-requires-clause-text_room
put_rows-ways-requires-clause-text_room c =
    rw (plane-text c.requires.admitted.planned _ c.filter_by-joint.ensures.plane)
    (room_next (rows (frame_of c.args.input.now) c.args.plan.height) (room-two c.requires.admitted _ c.requires.longest_in_bounds) c.put_size-below.ensures)

pub put_way-next-requires : goal.put_way-next-requires
unfolding way_of
put_way-next-requires c =
    let q = called (plane-text c.requires.admitted.planned _ c.filter_by-joint.ensures.plane) c.put_rows-ways.ensures in
    rw (by-levels c.filter_by-joint.ensures refl)
    (room_next (way_text joint_word (shift_count Joint c.args.input.now)) (room-three c.requires.admitted _ c.requires.longest_in_bounds)
    (joined c.put_size-below.ensures q))

pub put_guided-last-requires-clause-text_room : goal.put_guided-last-requires-clause-text_room
unfolding way_of
put_guided-last-requires-clause-text_room c =
    let q = called (plane-text c.requires.admitted.planned _ c.filter_by-joint.ensures.plane) c.put_rows-ways.ensures in
    let j = called (ap (way_text joint_word) (by-levels c.filter_by-joint.ensures refl)) c.put_way-next.ensures in
    room_next (guided_text c.args.plan.kind (shift_count Joint c.args.input.now)) (room-four c.requires.admitted _ c.requires.longest_in_bounds)
    (joined (joined c.put_size-below.ensures q) j)

pub put_way-requires : goal.put_way-requires
unfolding way_of
put_way-requires c =
    let q = called (plane-text c.requires.admitted.planned _ c.filter_by-joint.ensures.plane) c.put_rows-ways.ensures in
    let j = called (ap (way_text joint_word) (by-levels c.filter_by-joint.ensures refl)) c.put_way-next.ensures in
    subst (λ (n : ℕ). TextRoom c.put_guided-last.new.out c.put_guided-last.result (way_text coarse_word n)) (sym c.filter_by-coarse.ensures.shifts)
    (room_next (way_text coarse_word (shift_count Coarse c.args.input.now)) (room-all c.requires.admitted _ c.requires.longest_in_bounds)
    (joined (joined (joined c.put_size-below.ensures q) j) c.put_guided-last.ensures))

pub returns : goal.returns
unfolding way_of
returns c =
    let q = called (plane-text c.requires.admitted.planned _ c.filter_by-joint.ensures.plane) c.put_rows-ways.ensures in
    let j = called (ap (way_text joint_word) (by-levels c.filter_by-joint.ensures refl)) c.put_way-next.ensures in
    let k = called (ap (way_text coarse_word) c.filter_by-coarse.ensures.shifts) c.put_way.ensures in
    called (sym (whole c.requires.admitted.planned))
    (joined (joined (joined (joined c.put_size-below.ensures q) j) c.put_guided-last.ensures) k)
