-- The first i files are read.
use Rattle.cameras_checks.proofs.Reading.{Reading}
use Rattle.cameras_checks.proofs.read_files.Given as goal

abbrev pub invariant-loop-i : goal.invariant-loop-i
invariant-loop-i l = Reading l.files l.lengths l.totals l.at l.i
