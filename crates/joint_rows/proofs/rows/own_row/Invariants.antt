-- The first 64 i numbers are there.
use Rattle.std.proofs.Common.{◌*◌}
use Rattle.spec.specs.Frame.{plane}
use Rattle.big_endian_part.specs.Part.{Made}
use Rattle.joint_rows.proofs.rows.own_row.Given as goal

abbrev pub invariant-loop-i : goal.invariant-loop-i
invariant-loop-i l = Made (plane l.file l.first) 0 (64 * l.i) l.initial.row l.row
