use Rattle.std.proofs.Common.{◌≡◌, ◌^◌, ◌*◌, ◌≤◌, [], pos, nat_abs, ◌+ℤ◌}
use Rattle.pixels.specs.Pixels.{columns_fold}
use Rattle.balance.specs.Balance.{signed_by}
use Rattle.weight_sums.proofs.SumLaws.{ColumnsAdded}
use Rattle.weight_sums.proofs.add_window.Given as goal

-- the columns so far are in the sums and in the total, and no total is too large
abbrev pub invariant-loop-k : goal.invariant-loop-k
invariant-loop-k l =
    ColumnsAdded (2 ^ l.bits) l.file l.plan l.s l.t l.x l.k l.initial.sums l.sums ×
    (l.total ≡ columns_fold ◌+ℤ◌ (pos 0) l.file [] l.plan l.x l.t (signed_by l.weights l.formula 65535) l.k) ×
    (nat_abs l.total ≤ l.k * 5584831631325)
