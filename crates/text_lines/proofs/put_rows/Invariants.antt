-- `text_lines::put_rows` meets its contract. The loop's invariant: the first t rows stand in the buffer.
-- Assumes nothing.
use Rattle.text.specs.Text.{Puts, plane_text}
use Rattle.text_lines.proofs.put_rows.Given as goal

abbrev pub invariant-loop-t : goal.invariant-loop-t
invariant-loop-t l = Puts l.initial.out l.out l.at l.next (plane_text l.plane l.width l.t)
