use Rattle.std.proofs.Common.{◌≡◌, ℕ, ◌<◌, get_or}
use Rattle.balance.proofs.formula.ramp.Given as goal

-- the first numbers are 0 1 2 ..
abbrev pub invariant-loop-k : goal.invariant-loop-k
invariant-loop-k l = (f : ℕ) → f < l.k → get_or l.number-items f 0 ≡ f
