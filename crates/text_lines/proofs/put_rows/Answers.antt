-- `text_lines::put_rows` meets its contract: one row more behind those before it.
-- Assumes nothing.
use Rattle.std.proofs.Common.{◌*◌}
use Rattle.text.specs.Text.{pieces, row_text, plane_text}
use Rattle.text.proofs.Putting.{none, room-piece, joined-piece}
use Rattle.text_lines.proofs.put_rows.Goals as goal

pub loop-t-init : goal.loop-t-init
unfolding plane_text pieces
loop-t-init c = none _ _

pub put_row-next-requires-clause-text_room : goal.put_row-next-requires-clause-text_room
unfolding plane_text
put_row-next-requires-clause-text_room c =
    room-piece (λ j. row_text c.args.plane.now (j * c.args.width) c.args.width) c.loop-t.t c.args.height c.loop-t-test.true c.requires.text_room
    c.loop-t.invariant

pub loop-t-preserved : goal.loop-t-preserved
unfolding plane_text
loop-t-preserved c =
    joined-piece (λ j. row_text c.args.plane.now (j * c.args.width) c.args.width) c.loop-t.t c.loop-t.invariant c.put_row-next.ensures
