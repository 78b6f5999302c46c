-- What is taken off is what the lengths so far add up to.
use Prim.Native.Nat.{◌+◌}
use mathlib.Core.Path.{◌≡◌}
use lib.ListN.{drop}
use Rattle.spec.specs.Cameras.{total}
use Rattle.cameras_checks.proofs.add_up.Given as goal

abbrev pub invariant-loop-n : goal.invariant-loop-n
invariant-loop-n l = l.bytes + total (drop l.n-index l.lengths) ≡ l.left + total l.lengths
