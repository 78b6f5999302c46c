-- Where no plane is given, the file has the values. Assumes nothing.
use Rattle.std.proofs.Common.{arith}
use Rattle.std.proofs.lemmas.Bool.Decides.{nat_tests}
use Rattle.spec.proofs.Plans.{with-own}
use Rattle.pixels.proofs.Laws.{own-pixels}
use Rattle.pixels.proofs.read_in.Goals as goal

pub read-requires : goal.read-requires
read-requires c = (with-own c.requires.0, c.requires.1, c.requires.2)

pub returns-then-is_empty : goal.returns-then-is_empty
returns-then-is_empty c = (c.read.ensures.0, own-pixels c.args.plane.now (grind (arith, nat_tests)) c.read.ensures.1)
