-- Each number before the one at hand is judged below the limit.
use Prim.Native.Nat.{ℕ, ◌+◌, ◌*◌, ◌<◌}
use Rattle.spec.specs.Bytes.{be16}
use Rattle.spec.specs.Checks.{judged}
use Rattle.frame_contents.proofs.scan.Given as goal

abbrev pub invariant-loop-k : goal.invariant-loop-k
invariant-loop-k l = (j : ℕ) → j < l.k → judged l.values (be16 l.file (l.offset + 2 * j)) < l.limit
