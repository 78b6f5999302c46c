-- `join_file` meets its contract. Assumes nothing.
use Rattle.std.proofs.Common.{arith, refl}
use Rattle.byte_planes_move.proofs.MoveLaws.{file-moved, joined-plane-long}
use Rattle.byte_planes_move.proofs.join_file.Goals as goal

pub returns : goal.returns
returns c =
    let a = c.args in
    file-moved a.output.now a.file.now _ a.at a.n (omega arith) (joined-plane-long a.file.now a.at a.n (omega arith)) c.copy.ensures
    c.join_plane.ensures c.copy-2.ensures refl
