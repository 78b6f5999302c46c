-- `ints::signed_to_unsigned` meets its contract: a number that is not negative is its own size. Assumes nothing.
use native.Mathlib.Omega.{arith}
use mir.Syntax.{w32, w64}
use Rattle.ints.specs.Order.{neg_part-zero}
use Rattle.ints.specs.Linear.{ints}
use Rattle.ints.specs.Bound.{abs-parts}
use Rattle.ints.specs.Machine.{read, unsigned-need, unsigned-value}
use Rattle.ints.proofs.signed_to_unsigned.Goals as goal

pub overflow_cast-result : goal.overflow_cast-result
overflow_cast-result c = unsigned-need w32 (read w64 c.ranges.x) c.requires.0 (omega (arith, ints, abs-parts c.args.x, neg_part-zero c.requires.0))

pub returns : goal.returns
returns c = unsigned-value (read w64 c.ranges.x) c.requires.0
