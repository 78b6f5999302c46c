-- `put_run`: j bytes are stored. Assumes nothing.
use Rattle.std.proofs.Common.{◌≡◌}
use Rattle.std.proofs.lemmas.List.Edits.{sets}
use Rattle.byte_planes_move.specs.EveryOther.{every_other}
use Rattle.byte_planes_move.proofs.put_run.Given as goal

abbrev pub invariant-loop-j : goal.invariant-loop-j
invariant-loop-j l = l.output ≡ sets l.fn.output l.at (every_other l.file l.from l.j)
