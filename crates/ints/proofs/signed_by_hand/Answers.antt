-- `ints::signed_by_hand` meets its contract: each part fits by the bounds of the parameters. Assumes nothing.
use Rattle.std.specs.Prelude.{List, [], ◌∷◌}
use mir.Syntax.{w64}
use Rattle.ints.specs.Polynomial.{◌⊕◌, ◌⊖◌, ◌⊗◌, x₀ as n, x₁ as q, x₂ as s, x₃ as e}
use Rattle.ints.specs.Machine.{Cell, param_cell}
use Rattle.ints.proofs.Machine.{need, computes}
use Rattle.ints.proofs.signed_by_hand.Goals as goal

abbrev env : goal.Start → List Cell
env c =
    param_cell w64 c.args.n 961 c.requires.0 tt
    ∷ param_cell w64 c.args.q 62489025 c.requires.1 tt
    ∷ param_cell w64 c.args.s 245055 c.requires.2 tt
    ∷ param_cell w64 c.args.e 65025 c.requires.3 tt
    ∷ []

pub overflow_mul-result : goal.overflow_mul-result
overflow_mul-result c = need w64 (env c) (n ⊗ q) tt

pub overflow_mul-result-2 : goal.overflow_mul-result-2
overflow_mul-result-2 c = need w64 (env c) (s ⊗ s) tt

pub overflow_sub-result : goal.overflow_sub-result
overflow_sub-result c = need w64 (env c) (n ⊗ q ⊖ s ⊗ s) tt

pub overflow_mul-result-3 : goal.overflow_mul-result-3
overflow_mul-result-3 c = need w64 (env c) (n ⊗ n) tt

pub overflow_mul-result-4 : goal.overflow_mul-result-4
overflow_mul-result-4 c = need w64 (env c) (n ⊗ n ⊗ e) tt

pub overflow_add-result : goal.overflow_add-result
overflow_add-result c = need w64 (env c) (n ⊗ q ⊖ s ⊗ s ⊕ n ⊗ n ⊗ e) tt

pub returns : goal.returns
returns c = computes w64 (env c) (n ⊗ q ⊖ s ⊗ s ⊕ n ⊗ n ⊗ e) tt
