-- `ints::signed_found` meets its contract: the code's form and the contract's are one polynomial. Each need is the same line. Assumes nothing.
use Rattle.std.specs.Prelude.{refl, List, [], ◌∷◌}
use mir.Syntax.{w64}
use Rattle.ints.specs.Machine.{Cell, param_cell}
use Rattle.ints.proofs.Machine.{let_cell}
use Rattle.ints.specs.Polynomial.{◌⊖◌, ◌⊗◌, x₁, x₂, x₃}
use Rattle.ints.specs.Auto.{quote, signed_code}
use Rattle.ints.proofs.Auto.{need!, computes! }
use Rattle.ints.proofs.signed_found.Goals as goal

abbrev env : goal.Start → List Cell
env c =
    param_cell w64 c.args.v 180156859227 c.requires.0 tt
    ∷ param_cell w64 c.args.n 961 c.requires.1 tt
    ∷ param_cell w64 c.args.x 255 c.requires.2 tt
    ∷ param_cell w64 c.args.s 245055 c.requires.3 tt
    ∷ param_cell w64 c.args.g 245055 c.requires.4 tt
    ∷ param_cell w64 c.args.f 961 c.requires.5 tt
    ∷ []

pub overflow_mul-a : goal.overflow_mul-a
overflow_mul-a c = need! w64 (env c) (search signed_code depth 12) tt

pub overflow_sub-a : goal.overflow_sub-a
overflow_sub-a c = need! w64 (env c) (search signed_code depth 12) tt

-- `a`, as a cell
abbrev more : goal.Start → List Cell
more c = let_cell w64 (env c) (x₁ ⊗ x₂ ⊖ x₃) tt ∷ env c

pub overflow_mul-c : goal.overflow_mul-c
overflow_mul-c c = need! w64 (more c) (search signed_code depth 12) tt

pub overflow_mul-d : goal.overflow_mul-d
overflow_mul-d c = need! w64 (more c) (search signed_code depth 12) tt

pub overflow_sub-d : goal.overflow_sub-d
overflow_sub-d c = need! w64 (more c) (search signed_code depth 12) tt

pub overflow_mul-result : goal.overflow_mul-result
overflow_mul-result c = need! w64 (more c) (search signed_code depth 12) tt

pub overflow_mul-result-2 : goal.overflow_mul-result-2
overflow_mul-result-2 c = need! w64 (more c) (search signed_code depth 12) tt

pub overflow_add-result : goal.overflow_add-result
overflow_add-result c = need! w64 (more c) (search signed_code depth 12) tt

pub returns : goal.returns
returns c = computes! w64 (env c) (search signed_code depth 12) (search quote depth 12) tt refl
