-- `text_lines::put_row` meets its contract. The loop's invariant: behind the first level stand those that were passed.
-- Assumes nothing.
use Rattle.text.specs.Text.{Puts, pieces, follower}
use Rattle.text_lines.proofs.put_row.Given as goal

abbrev pub invariant-loop-value : goal.invariant-loop-value
invariant-loop-value l = Puts l.initial.out l.out l.initial.next l.next (pieces (follower l.plane l.first) l.value-index)
