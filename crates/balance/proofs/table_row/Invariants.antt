use Rattle.std.proofs.Common.{◌≡◌, ◌≤◌, ℕ, ◌<◌, get_or}
use Rattle.spec.specs.Frame.{table, heaviest, frame_of}
use Rattle.balance.proofs.table_row.Given as goal

-- the first weights are the table's
abbrev pub invariant-loop-k : goal.invariant-loop-k
invariant-loop-k l = (g : ℕ) → g < l.k → (get_or l.weight-items g 0 ≡ table (frame_of l.file) l.f.0 g) × (get_or l.weight-items g 0 ≤ heaviest)
