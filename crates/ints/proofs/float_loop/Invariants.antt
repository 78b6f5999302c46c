-- `ints::float_loop`: the accumulator stands for the sum of the bytes passed. Assumes nothing.
use Rattle.std.specs.Prelude.{pos, get_or}
use Rattle.std.specs.Float.{binary64}
use Rattle.ints.specs.Float.{FloatOf}
use Rattle.ints.specs.Sum.{Σ}
use Rattle.ints.proofs.float_loop.Given as goal

abbrev pub invariant-loop-x : goal.invariant-loop-x
invariant-loop-x l = FloatOf binary64 l.acc (Σ l.x-index (λ k. pos (get_or l.a k 0)))
