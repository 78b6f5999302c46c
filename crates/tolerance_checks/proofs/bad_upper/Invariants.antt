-- The pixels before the one at hand pass.
use Prim.Native.Nat.{ℕ, ◌<◌}
use mathlib.Core.Path.{◌≡◌}
use mathlib.Core.Bool.{false}
use lib.ListN.{get_or}
use Rattle.spec.specs.Frame.{pixel_level}
use Rattle.spec.specs.Tolerance.{bad_span}
use Rattle.tolerance_checks.proofs.bad_upper.Given as goal

abbrev pub invariant-loop-q : goal.invariant-loop-q
invariant-loop-q l = (j : ℕ) → j < l.q → bad_span l.plan.levels (pixel_level l.file j) (get_or l.upper j 0) ≡ false
