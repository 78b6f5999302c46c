-- `window_weights::coefficients::from_sums` meets its contract: each operation fits 64 bits, by the bounds on the sums. Assumes nothing.
use Rattle.std.proofs.Common.{refl, ℕ, ◌≤◌, List, [], ◌∷◌, w64}
use Rattle.ints.specs.Machine.{Cell, unsigned_cell}
use Rattle.ints.specs.Auto.{quote, signed_code}
use Rattle.ints.proofs.Auto.{need!, computes! }
use Rattle.window.specs.declared.sums.Sums.{Sums}
use Rattle.window_weights.specs.Coefficients.{SumsSmall}
use Rattle.window_weights.proofs.coefficients.from_sums.Goals as goal

abbrev cells : (a : Sums) (E g : ℕ) → SumsSmall a → (E ≤ 65025) × (g ≤ 255) → List Cell
cells a E g small most =
    unsigned_cell w64 a.count 961 small.count tt
    ∷ unsigned_cell w64 a.sum 245055 small.sum tt
    ∷ unsigned_cell w64 a.squares 62489025 small.squares tt
    ∷ unsigned_cell w64 E 65025 most.0 tt
    ∷ unsigned_cell w64 g 255 most.1 tt
    ∷ []

pub overflow_mul-variance : goal.overflow_mul-variance
overflow_mul-variance c = need! w64 (cells c.args.a _ _ c.requires.sums_small c.requires.smoothing_bound) (search signed_code depth 12) tt

pub overflow_mul-variance-2 : goal.overflow_mul-variance-2
overflow_mul-variance-2 c = need! w64 (cells c.args.a _ _ c.requires.sums_small c.requires.smoothing_bound) (search signed_code depth 12) tt

pub overflow_sub-variance : goal.overflow_sub-variance
overflow_sub-variance c = need! w64 (cells c.args.a _ _ c.requires.sums_small c.requires.smoothing_bound) (search signed_code depth 12) tt

pub overflow_mul-variance-4 : goal.overflow_mul-variance-4
overflow_mul-variance-4 c = need! w64 (cells c.args.a _ _ c.requires.sums_small c.requires.smoothing_bound) (search signed_code depth 12) tt

pub overflow_add-variance : goal.overflow_add-variance
overflow_add-variance c = need! w64 (cells c.args.a _ _ c.requires.sums_small c.requires.smoothing_bound) (search signed_code depth 12) tt

pub overflow_mul-result : goal.overflow_mul-result
overflow_mul-result c = need! w64 (cells c.args.a _ _ c.requires.sums_small c.requires.smoothing_bound) (search signed_code depth 12) tt

pub overflow_mul-result-2 : goal.overflow_mul-result-2
overflow_mul-result-2 c = need! w64 (cells c.args.a _ _ c.requires.sums_small c.requires.smoothing_bound) (search signed_code depth 12) tt

pub overflow_sub-result : goal.overflow_sub-result
overflow_sub-result c = need! w64 (cells c.args.a _ _ c.requires.sums_small c.requires.smoothing_bound) (search signed_code depth 12) tt

pub overflow_mul-result-3 : goal.overflow_mul-result-3
overflow_mul-result-3 c = need! w64 (cells c.args.a _ _ c.requires.sums_small c.requires.smoothing_bound) (search signed_code depth 12) tt

pub returns : goal.returns
returns c =
    let known : List Cell = cells c.args.a _ _ c.requires.sums_small c.requires.smoothing_bound in
    record {
      slope = computes! w64 known (search signed_code depth 12) (search quote depth 12) tt refl;
      offset = computes! w64 known (search signed_code depth 12) (search quote depth 12) tt refl;
      total = computes! w64 known (search signed_code depth 12) (search quote depth 12) tt refl;
    }
