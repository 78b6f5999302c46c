-- The window's sums stay small, because it has few pixels.
-- Assumes nothing.
use mathlib.Core.List.{List}
use Prim.Native.Nat.{ℕ, ◌<◌}
use native.Mathlib.Nat.{le_trans, le_of_eq}
use Rattle.spec.specs.declared.Plan.{Plan}
use Rattle.spec.specs.Frame.{frame_of}
use Rattle.spec.specs.Checks.{Planned}
use Rattle.spec.proofs.Plans.{pixel-of}
use Rattle.spec.proofs.Bounds.{pixel_count-high, guide_sum-high, square_sum-high}
use Rattle.window.specs.declared.sums.Sums.{Sums}
use Rattle.window.specs.Sums.{SumsAt}
use Rattle.window_weights.specs.Coefficients.{SumsSmall}

pub sums-small : {b : List ℕ} {plan : Plan} (pl : Planned b plan) {s t : ℕ} {a : Sums}
    → s < plan.width → t < plan.height → SumsAt (frame_of b) s t a → SumsSmall a
sums-small pl hs ht v =
    let k = pixel-of pl hs ht in
    record {
      count = le_trans (le_of_eq v.count) (pixel_count-high k);
      sum = le_trans (le_of_eq v.sum) (guide_sum-high k);
      squares = le_trans (le_of_eq v.squares) (square_sum-high k);
    }
