-- `join_plane` meets its contract. Assumes nothing.
use Rattle.std.proofs.Common.{arith, refl}
use Rattle.byte_planes_move.proofs.MoveLaws.{none-joined, join-next, join-all}
use Rattle.byte_planes_move.proofs.join_plane.Goals as goal

pub loop-q-init : goal.loop-q-init
loop-q-init c = none-joined c.args.output.now c.args.file.now c.args.at c.args.n

pub loop-q-preserved : goal.loop-q-preserved
loop-q-preserved c = join-next _ _ _ _ c.requires.0 c.loop-q-test.true refl refl refl refl c.loop-q.invariant

pub returns : goal.returns
returns c = join-all _ _ _ _ c.requires.0 c.loop-q.q (omega arith) c.loop-q.invariant
