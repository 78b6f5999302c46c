-- `text_lines::put_way` meets its contract: the word, the shift count, the end of the line.
-- Assumes nothing.
use Rattle.text.specs.Text.{way_text}
use Rattle.text.proofs.Putting.{joined}
use Rattle.text_lines.proofs.put_way.Goals as goal

pub returns : goal.returns
unfolding way_text
returns c = joined (joined c.put_word-second.ensures c.put_decimal-end.ensures) c.put_byte.ensures
