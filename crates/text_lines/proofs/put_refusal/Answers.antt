-- `text_lines::put_refusal` meets its contract: the word, the number, for 7 the offset, the end of the line.
-- Assumes nothing.
use Rattle.text.proofs.Putting.{joined}
use Rattle.text.proofs.Rows.{refusal-plain, refusal-seven}
use Rattle.text_lines.proofs.put_refusal.Goals as goal

pub returns-then-number-ne-CONTENTS : goal.returns-then-number-ne-CONTENTS
returns-then-number-ne-CONTENTS c =
    rw (refusal-plain c.args.number c.args.offset c.if-number-ne-CONTENTS.true)
    (joined (joined c.put_word-second.ensures (rw c.from.ensures at c.put_decimal-third.ensures)) c.put_byte.ensures)

pub returns : goal.returns
returns c =
    rw (refusal-seven c.args.number c.args.offset c.if-number-ne-CONTENTS.false)
    (joined
    (joined (joined c.put_word-second.ensures (rw c.from.ensures at c.put_decimal-third.ensures)) c.put_spaced-end.ensures) c.put_byte-2.ensures)
