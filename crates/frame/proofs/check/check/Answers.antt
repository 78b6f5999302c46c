-- `frame::check::check` meets its contract. Assumes nothing.
use mathlib.Core.Path.{sym}
use Rattle.spec.proofs.Checks.{trailer-passed}
use Rattle.frame.proofs.Planning.{planes-in-file}
use Rattle.frame.proofs.check.check.Goals as goal

pub plan_of-requires : goal.plan_of-requires
plan_of-requires c = (trailer-passed _ (sym c.in_ok-check_trailer.ensures)).long

pub contents-requires : goal.contents-requires
contents-requires c = rw c.plan_of.ensures (planes-in-file _ (sym c.in_ok-check_trailer.ensures))
