-- The cause of a window with a reading, by what the two ends of the guides weigh.
-- Assumes nothing.
use Rattle.std.specs.Prelude.{Bool, ℤ, if◌then◌else◌}
use Rattle.std.specs.Int.Signed.{non_neg}
use Rattle.spec.specs.declared.Cause.{Cause}
use Rattle.spec.specs.declared.Cause.TheVariants.{Ordinary, Hollow, NegativeAtZero, NegativeAtLast}

unfoldable pub cause_by : Bool → ℤ → ℤ → Cause
cause_by hollow first last =
    if hollow then Hollow
    else if non_neg first then (if non_neg last then Ordinary else NegativeAtLast)
    else NegativeAtZero
