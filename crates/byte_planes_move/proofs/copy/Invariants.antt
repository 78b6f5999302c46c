-- `copy`: the bytes up to i are there. Assumes nothing.
use Rattle.std.proofs.Common.{◌≡◌, ◌-◌, take, drop}
use Rattle.std.proofs.lemmas.List.Edits.{sets}
use Rattle.byte_planes_move.proofs.copy.Given as goal

abbrev pub invariant-loop-i : goal.invariant-loop-i
invariant-loop-i l = l.output ≡ sets l.fn.output l.from (take (l.i - l.from) (drop l.from l.file))
