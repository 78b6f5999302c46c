-- `ints::unsigned_to_signed` meets its contract: a `u32` as an `i64` is the same number. Assumes nothing.
use mir.Syntax.{w64}
use Rattle.ints.specs.Bound.{sfits-cast}
use Rattle.ints.specs.Machine.{read}
use Rattle.ints.proofs.unsigned_to_signed.Goals as goal

pub overflow_cast-result : goal.overflow_cast-result
overflow_cast-result c = sfits-cast c.ranges.x tt

pub returns : goal.returns
returns c = read w64 (sfits-cast c.ranges.x tt)
