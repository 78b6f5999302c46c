-- `ints::signed_loop`: the accumulator is the sum of the terms passed. Assumes nothing.
use Rattle.std.specs.Prelude.{◌≡◌, pos, ◌-ℤ◌, ◌*ℤ◌, get_or}
use Rattle.ints.specs.Sum.{Σ}
use Rattle.ints.proofs.signed_loop.Given as goal

abbrev pub invariant-loop-x : goal.invariant-loop-x
invariant-loop-x l = l.acc ≡ Σ l.x-index (λ k. l.n *ℤ pos (get_or l.a k 0) -ℤ l.s)
