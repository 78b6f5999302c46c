-- `frame_write::scan_list` meets its contract. Assumes nothing.
use Rattle.std.proofs.Common.{arith}
use Rattle.spec.proofs.Checks.{scan-found, scan-none}
use Rattle.spec.specs.Writer.{scan_list}
use Rattle.frame_write.proofs.scan_list.Goals as goal

pub returns-then-limit-judged : goal.returns-then-limit-judged
unfolding scan_list
returns-then-limit-judged c =
    scan-found _ _ _ _ c.loop-k.k (omega arith) (omega (arith, c.judged.ensures, c.if-limit-judged.true)) c.loop-k.invariant

pub returns : goal.returns
unfolding scan_list
returns c = scan-none _ _ _ _ (λ j h. c.loop-k.invariant j (omega arith))
