-- `file_below` meets its contract. Assumes nothing.
use Rattle.std.proofs.Common.{◌*◌}
use Rattle.big_endian_part.proofs.PartLaws.{plane-on}
use Rattle.frame_below.proofs.BelowLaws.{runs-below}
use Rattle.frame_below.proofs.file_below.Goals as goal

pub loop-run-preserved : goal.loop-run-preserved
loop-run-preserved c =
    let a = c.args in
    runs-below _ c.loop-run.run c.loop-run.invariant
    (λ j less. rw (← plane-on a.file.now a.offset (64 * c.loop-run.run) j) (c.may_reach.ensures c.if-may_reach.false j less))
