-- `copy` meets its contract. Assumes nothing.
use Rattle.std.proofs.Common.{arith, refl}
use Rattle.byte_planes_move.proofs.MoveLaws.{none-copied, copied}
use Rattle.byte_planes_move.proofs.copy.Goals as goal

pub loop-i-init : goal.loop-i-init
loop-i-init c = none-copied _ c.args.file.now c.args.from

pub loop-i-preserved : goal.loop-i-preserved
loop-i-preserved c =
    copied c.args.output.now c.args.file.now c.args.from (omega arith) (omega (arith, c.requires.1)) refl c.loop-i.invariant
