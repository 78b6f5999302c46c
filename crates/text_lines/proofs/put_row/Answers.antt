-- `text_lines::put_row` meets its contract: the first level, those that follow it, the end of the line.
-- Assumes nothing.
use Rattle.std.proofs.Common.{◌≡◌, ◌+◌, ◌-◌, arith, get_or}
use Rattle.std.proofs.lemmas.Grind.{common_steps}
use Rattle.spec.specs.Program.{decimal}
use Rattle.text.specs.Text.{pieces, follower}
use Rattle.text.proofs.Putting.{none, joined, room-line, room-second, room-end, room-piece, joined-piece}
use Rattle.text.proofs.Rows.{row-pieces}
use Rattle.text_lines.proofs.put_row.Goals as goal
use Rattle.text_lines.proofs.put_row.Goals.{After-from-in-loop-value}

pub put_decimal-next-requires : goal.put_decimal-next-requires
put_decimal-next-requires c =
    rw c.from.ensures
    (room-line c.args.out.now c.args.at (decimal (get_or c.args.plane.now c.args.first 0))
    (pieces (follower c.args.plane.now c.args.first) (c.args.width - 1)) (rw row-pieces at c.requires.text_room))

pub loop-value-init : goal.loop-value-init
unfolding pieces
loop-value-init c = none _ _

pub put_spaced-next-requires : goal.put_spaced-next-requires
put_spaced-next-requires c =
    let e : c.from-in-loop-value.result ≡ get_or c.args.plane.now (c.args.first + (c.loop-value.value-index + 1)) 0 = grind (arith, common_steps) in
    let f = follower c.args.plane.now c.args.first in
    let room = room-second (pieces f (c.args.width - 1)) (rw row-pieces at c.requires.text_room) (rw c.from.ensures at c.put_decimal-next.ensures) in
    rw e (room-piece f c.loop-value.value-index (c.args.width - 1) (omega arith) room c.loop-value.invariant)

pub loop-value-preserved : goal.loop-value-preserved
loop-value-preserved c =
    let e : c.from-in-loop-value.result ≡ get_or c.args.plane.now (c.args.first + (c.loop-value.value-index + 1)) 0 = grind (arith, common_steps) in
    joined-piece (follower c.args.plane.now c.args.first) c.loop-value.value-index c.loop-value.invariant (rw e at c.put_spaced-next.ensures)

pub put_byte-requires : goal.put_byte-requires
put_byte-requires c =
    let e : c.loop-value.value-index ≡ c.args.width - 1 = grind (arith, common_steps) in
    room-end (rw row-pieces at c.requires.text_room) (rw c.from.ensures at c.put_decimal-next.ensures) (rw e at c.loop-value.invariant)

pub returns : goal.returns
returns c =
    let e : c.loop-value.value-index ≡ c.args.width - 1 = grind (arith, common_steps) in
    rw row-pieces (joined (joined (rw c.from.ensures at c.put_decimal-next.ensures) (rw e at c.loop-value.invariant)) c.put_byte.ensures)
