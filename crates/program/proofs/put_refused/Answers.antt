-- `program::put_refused` meets its contract: a refusal's line fits the buffer.
-- Assumes nothing.
use Rattle.std.proofs.Common.{arith}
use Rattle.text.proofs.Lengths.{refusal-short}
use Rattle.program.proofs.put_refused.Goals as goal

pub put_refusal-requires : goal.put_refusal-requires
put_refusal-requires c = omega (arith, c.requires, refusal-short c.from.result c.offset_of.result)
