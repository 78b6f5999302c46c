-- `frame_contents::scan` meets its contract. Assumes nothing.
use mathlib.Core.Path.{ap}
use native.Mathlib.Omega.{arith}
use Rattle.spec.proofs.Checks.{scan-found, scan-none}
use Rattle.spec.specs.Checks.{scan_file, judged}
use Rattle.frame_contents.proofs.scan.Goals as goal

pub returns-then-limit-judged : goal.returns-then-limit-judged
unfolding scan_file
returns-then-limit-judged c =
    scan-found _ _ _ _ c.loop-k.k (omega arith)
    (omega (arith, c.judged.ensures, ap (judged c.args.values) c.be16.ensures, c.if-limit-judged.true)) c.loop-k.invariant

pub returns : goal.returns
unfolding scan_file
returns c = scan-none _ _ _ _ (λ j h. c.loop-k.invariant j (omega arith))
