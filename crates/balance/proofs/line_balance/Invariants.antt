use Rattle.std.proofs.Common.{◌≡◌, pos, ◌+ℤ◌}
use Rattle.pixels.specs.Pixels.{pixel_fold_to}
use Rattle.balance.specs.Balance.{signed_by}
use Rattle.balance.proofs.line_balance.Given as goal

-- the sum is that of the pixels so far
abbrev pub invariant-loop-pixel : goal.invariant-loop-pixel
invariant-loop-pixel l = l.sum ≡ pixel_fold_to ◌+ℤ◌ (pos 0) l.pixels (signed_by l.weights l.formula l.top.0) l.pixel-index
