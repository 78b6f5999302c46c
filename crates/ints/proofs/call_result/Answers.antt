-- `ints::call_result` meets its contract: what the callee ensures of its result makes the result a cell. Assumes nothing.
use Rattle.std.specs.Prelude.{List, [], ◌∷◌, pos}
use Rattle.std.proofs.Common.{arith}
use mir.Syntax.{w64}
use Rattle.ints.specs.Polynomial.{◌⊗◌, #◌, x₀ as x}
use Rattle.ints.specs.Machine.{Cell, result_cell}
use Rattle.ints.proofs.Machine.{need, computes}
use Rattle.ints.proofs.call_result.Goals as goal

abbrev env : goal.After-unsigned_to_signed → List Cell
env c =
    result_cell w64 c.unsigned_to_signed.result (pos c.args.x) 4294967295 c.unsigned_to_signed.ensures (omega (arith, c.ranges.x)) tt ∷ []

pub overflow_mul-result : goal.overflow_mul-result
overflow_mul-result c = need w64 (env c) (# 3 ⊗ x) tt

pub returns : goal.returns
returns c = computes w64 (env c) (# 3 ⊗ x) tt
