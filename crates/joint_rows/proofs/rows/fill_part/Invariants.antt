-- The first k of the n numbers are there.
use Rattle.spec.specs.Frame.{plane}
use Rattle.big_endian_part.specs.Part.{Made}
use Rattle.joint_rows.proofs.rows.fill_part.Given as goal

abbrev pub invariant-loop-k : goal.invariant-loop-k
invariant-loop-k l = Made (plane l.file l.first) l.from l.k l.initial.row l.row
