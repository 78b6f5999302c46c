-- `text_lines::put_size` meets its contract: width, height, the end of the line.
-- Assumes nothing.
use Rattle.text.specs.Text.{size_text}
use Rattle.text.proofs.Putting.{joined}
use Rattle.text_lines.proofs.put_size.Goals as goal

pub returns : goal.returns
unfolding size_text
returns c = joined (joined c.put_decimal-second.ensures c.put_spaced-end.ensures) c.put_byte.ensures
