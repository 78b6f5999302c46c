-- `ints::unsigned_operands` meets its contract. An unsigned number goes into the list of values as `pos n`. Assumes nothing.
use Rattle.std.specs.Prelude.{refl, List, [], ◌∷◌}
use mir.Syntax.{w64}
use Rattle.ints.specs.Machine.{Cell, unsigned_cell}
use Rattle.ints.specs.Auto.{quote, signed_code}
use Rattle.ints.proofs.Auto.{need!, computes! }
use Rattle.ints.proofs.unsigned_operands.Goals as goal

abbrev env : goal.Start → List Cell
env c = unsigned_cell w64 c.args.n 961 c.requires.0 tt ∷ unsigned_cell w64 c.args.g 255 c.requires.1 tt ∷ []

pub overflow_mul-result : goal.overflow_mul-result
overflow_mul-result c = need! w64 (env c) (search signed_code depth 12) tt

pub overflow_sub-result : goal.overflow_sub-result
overflow_sub-result c = need! w64 (env c) (search signed_code depth 12) tt

pub returns : goal.returns
returns c = computes! w64 (env c) (search signed_code depth 12) (search quote depth 12) tt refl
