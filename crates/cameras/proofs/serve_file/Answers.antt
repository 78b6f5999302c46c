-- `serve_file` meets its contract. Assumes nothing.
use mathlib.Core.Path.{ap}
use native.Mathlib.Omega.{arith}
use Rattle.spec.specs.declared.Room.{Room}
use Rattle.spec.proofs.Plans.{plane-small}
use Rattle.ice_prefix.specs.Prefix.{parts}
use Rattle.cameras_checks.proofs.Reading.{limits-planned, cells_low}
use Rattle.cameras.proofs.PartLaws.{planned-by, trailer-in, counts-needed, words-needed, pixels-needed, stores-from, lent-long, none_made, some-made}
use Rattle.cameras.proofs.serve_file.Goals as goal

pub plan_of-plan-requires : goal.plan_of-plan-requires
plan_of-plan-requires c = trailer-in _ c.requires.file_value.0

pub needed-room-requires : goal.needed-room-requires
needed-room-requires c = limits-planned (planned-by c.requires.file_value.0 c.plan_of-plan.ensures)

-- the words' bound is listed too, so that words in the counts' place are refused by what `serve_file` promises
pub overflow_add-next : goal.overflow_add-next
overflow_add-next c =
    let k = planned-by c.requires.file_value.0 c.plan_of-plan.ensures in
    let e = c.needed-room.ensures in
    omega (
      arith,
      counts-needed k _ e,
      c.requires.room_from.counts,
      ap (λ (r : Room). r.words) e,
      (cells_low _ (limits-planned k)).1,
    )

pub overflow_add-next-2 : goal.overflow_add-next-2
overflow_add-next-2 c =
    let k = planned-by c.requires.file_value.0 c.plan_of-plan.ensures in
    omega (arith, words-needed k _ c.needed-room.ensures, c.requires.room_from.words)

pub overflow_mul-next : goal.overflow_mul-next
overflow_mul-next c = omega (arith, plane-small (planned-by c.requires.file_value.0 c.plan_of-plan.ensures))

pub overflow_add-next-3 : goal.overflow_add-next-3
overflow_add-next-3 c =
    let k = planned-by c.requires.file_value.0 c.plan_of-plan.ensures in
    omega (arith, pixels-needed k _ c.needed-room.ensures, c.requires.room_from.answers)

pub returns-then-tally-eq0 : goal.returns-then-tally-eq0
returns-then-tally-eq0 c =
    none_made (planned-by c.requires.file_value.0 c.plan_of-plan.ensures) _ c.needed-room.ensures _ _ _ c.if-tally-eq0.true

pub begin-requires-clause-le_n : goal.begin-requires-clause-le_n
begin-requires-clause-le_n c =
    let k = planned-by c.requires.file_value.0 c.plan_of-plan.ensures in (
      omega (arith, c.if-tally-eq0.false),
      omega (arith, pixels-needed k _ c.needed-room.ensures, c.requires.file_value.1),
      omega (arith, c.requires.file_value.1, lent-long c.args.from.answers _ c.args.answers.now c.requires.room_from.answers),
    )

pub begin-requires-clause-stores_fit : goal.begin-requires-clause-stores_fit
begin-requires-clause-stores_fit c =
    stores-from (planned-by c.requires.file_value.0 c.plan_of-plan.ensures) _ c.needed-room.ensures _ _
    (lent-long c.args.from.counts _ c.args.counts.now c.requires.room_from.counts)
    (lent-long c.args.from.words _ c.args.words.now c.requires.room_from.words)

pub returns : goal.returns
returns c =
    some-made (planned-by c.requires.file_value.0 c.plan_of-plan.ensures) _ c.needed-room.ensures _
    (parts c.args.counts.now c.args.words.now c.args.answers.now) _ (omega (arith, c.if-tally-eq0.false)) c.requires.file_value.1
    c.requires.room_from _ c.begin.ensures
