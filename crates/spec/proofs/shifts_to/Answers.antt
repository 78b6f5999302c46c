-- `spec::shifts_to` meets its contract: blocks and levels, or a distance. Assumes nothing.
use borrow.Author.Rules.{rules}
use mathlib.Core.Path.{refl}
use native.Mathlib.Omega.{arith}
use Rattle.spec.proofs.shifts_to.Goals as goal

pub returns-then-blocks : goal.returns-then-blocks
returns-then-blocks c = rw c.if-blocks.true refl

pub returns : goal.returns
returns c = rw c.if-blocks.false (omega (arith, c.abs_diff.ensures))
