-- `join_plane`: the first q numbers are joined. Assumes nothing.
use Rattle.byte_planes_move.proofs.MoveLaws.{Joined}
use Rattle.byte_planes_move.proofs.join_plane.Given as goal

abbrev pub invariant-loop-q : goal.invariant-loop-q
invariant-loop-q l = Joined l.fn.output l.file l.at l.n l.q l.output
