use Rattle.std.proofs.Common.{◌≡◌, ℕ, ◌<◌, pos, get_or}
use Rattle.explain_half.proofs.vacant.Given as goal

-- where the bits so far are all 0, so are the sums so far
abbrev pub invariant-loop-sum : goal.invariant-loop-sum
invariant-loop-sum l = l.all ≡ pos 0 → (k : ℕ) → k < l.sum-index → get_or l.sum-items k (pos 0) ≡ pos 0
