-- `frame::open::read_head` meets its contract. Assumes nothing.
use mathlib.Core.Path.{sym}
use Rattle.spec.proofs.Checks.{passed}
use Rattle.frame.proofs.open.read_head.Goals as goal

pub trailer_of-requires : goal.trailer_of-requires
trailer_of-requires c = (passed _ (sym c.in_ok-check.ensures)).long
