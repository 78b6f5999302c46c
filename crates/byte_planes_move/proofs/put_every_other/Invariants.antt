-- `put_every_other`: so many runs are stored, and then q bytes. Assumes nothing.
use Rattle.std.proofs.Common.{◌≡◌, ◌*◌}
use Rattle.std.proofs.lemmas.List.Edits.{sets}
use Rattle.byte_planes_move.specs.EveryOther.{every_other}
use Rattle.byte_planes_move.proofs.put_every_other.Given as goal

abbrev pub invariant-loop-run : goal.invariant-loop-run
invariant-loop-run l = l.output ≡ sets l.fn.output l.at (every_other l.file l.from (64 * l.run))

abbrev pub invariant-loop-q : goal.invariant-loop-q
invariant-loop-q l = l.output ≡ sets l.fn.output l.at (every_other l.file l.from l.q)
