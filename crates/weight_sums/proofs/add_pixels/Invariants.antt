use Rattle.std.proofs.Common.{◌≡◌, ◌^◌, pos, ◌+ℤ◌}
use Rattle.pixels.specs.Pixels.{pixel_fold_to}
use Rattle.balance.specs.Balance.{signed_by}
use Rattle.weight_sums.specs.Sums.{BlocksAdded}
use Rattle.weight_sums.proofs.add_pixels.Given as goal

-- the pixels so far are in the sums and in the total
abbrev pub invariant-loop-pixel : goal.invariant-loop-pixel
invariant-loop-pixel l =
    BlocksAdded (2 ^ l.bits) l.pixels l.weights l.formula l.pixel-index l.initial.sums l.sums ×
    (l.total ≡ pixel_fold_to ◌+ℤ◌ (pos 0) l.pixels (signed_by l.weights l.formula 65535) l.pixel-index)
