-- `split_plane` meets its contract. Assumes nothing.
use Rattle.std.proofs.Common.{arith, refl}
use Rattle.byte_planes_move.proofs.MoveLaws.{both-put}
use Rattle.byte_planes_move.proofs.split_plane.Goals as goal

pub returns : goal.returns
returns c = both-put c.args.output.now c.args.file.now c.args.at c.args.n (omega arith) c.put_every_other.ensures c.put_every_other-2.ensures refl refl
