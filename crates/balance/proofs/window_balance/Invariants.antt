use Rattle.std.proofs.Common.{◌≡◌, ◌*◌, ◌≤◌, [], pos, nat_abs, ◌+ℤ◌}
use Rattle.pixels.specs.Pixels.{columns_fold}
use Rattle.balance.specs.Balance.{signed_by}
use Rattle.balance.proofs.window_balance.Given as goal

-- the sum is that of the columns so far, and none is too large
abbrev pub invariant-loop-k : goal.invariant-loop-k
invariant-loop-k l =
    (l.sum ≡ columns_fold ◌+ℤ◌ (pos 0) l.file [] l.plan l.x l.t (signed_by l.weights l.formula l.top.0) l.k) ×
    (nat_abs l.sum ≤ l.k * 5584831631325)
