-- The answer is the new cut point; a window with no reading keeps the old one. Assumes nothing.
use Rattle.std.proofs.Common.{refl, ◌∙◌, arith}
use Rattle.spec.specs.Frame.{frame_with}
use Rattle.spec.proofs.Own.{count-empty, count-read}
use Rattle.visit.proofs.Laws.{state-is, unread-state}
use Rattle.joint_table.proofs.ArriveLaws.{cut-answer}
use Rattle.joint_table.proofs.visit.Goals as goal

pub returns-then-count-eq0 : goal.returns-then-count-eq0
returns-then-count-eq0 c =
    let p = frame_with c.args.file.now c.args.plane.now in
    let none = count-empty p c.args.column c.args.row (omega (arith, c.requires.counted.3)) in
    rw c.unread.ensures (
      unread-state c.args.way p c.args.column c.args.row c.args.cut c.args.shifts
          (record { count = c.args.count; sum = 0; squares = 0 }) (record { head = 0; count = 0 }) none,
      c.requires.cut_lt_levels.2,
      refl,
    )

pub arrive-r-requires-clause-counted : goal.arrive-r-requires-clause-counted
arrive-r-requires-clause-counted c =
    let v = c.requires.counted in
    (v.0, v.1, v.2, count-read (frame_with c.args.file.now c.args.plane.now) c.args.column c.args.row (omega (arith, v.3)))

pub returns : goal.returns
returns c =
    let p = frame_with c.args.file.now c.args.plane.now in
    let s = c.args.column in
    let t = c.args.row in
    let v = c.arrive-r.ensures in
    let r = c.arrive-r.result in
    let read = count-read p s t (omega (arith, c.requires.counted.3)) in
    rw c.answered.ensures (
      state-is c.args.way p s t c.args.cut.0 c.args.shifts r.level r.shifts r.level
          (record {
            sums = record { count = c.args.count; sum = 0; squares = 0 };
            below = record { count = 0; sum = 0 };
            free = record { head = 0; count = 0 };
          })
          v.level v.shifts (v.level ∙ cut-answer c.args.way p s t c.args.cut.0 c.args.shifts read),
      v.box,
      refl,
    )
