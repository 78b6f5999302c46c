-- The first k weights are there.
use Rattle.spec.specs.Frame.{built_in}
use Rattle.big_endian_part.specs.Part.{Made}
use Rattle.joint_rows.proofs.rows.mirror.Given as goal

abbrev pub invariant-loop-k : goal.invariant-loop-k
invariant-loop-k l = Made (built_in 255) 0 l.k l.initial.weight-items l.weight-items
