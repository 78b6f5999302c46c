-- `ints::float_found` meets its contract: every part is at most 2 ^ 53 in size. Assumes nothing.
use Rattle.std.specs.Prelude.{refl, List, [], ◌∷◌, ◌≤◌, ℤ, nat_abs}
use lib.Ieee.{binary64}
use mir.Syntax.{w64}
use Rattle.ints.specs.Float.{FloatCell, signed_float, float-need}
use Rattle.ints.specs.Auto.{quote, float_code}
use Rattle.ints.proofs.Auto.{rep! }
use Rattle.ints.proofs.float_found.Goals as goal

abbrev env : (v n x y s : ℤ)
    → (nat_abs v ≤ 180156859227) × (nat_abs n ≤ 961) × (nat_abs x ≤ 255) × (nat_abs y ≤ 255) × (nat_abs s ≤ 245055) → List (FloatCell binary64)
env v n x y s small =
    signed_float binary64 w64 v 180156859227 small.0 tt
    ∷ signed_float binary64 w64 n 961 small.1 tt
    ∷ signed_float binary64 w64 x 255 small.2 tt
    ∷ signed_float binary64 w64 y 255 small.3 tt
    ∷ signed_float binary64 w64 s 245055 small.4 tt
    ∷ []

pub int_to_float-m : goal.int_to_float-m
int_to_float-m c = float-need binary64 w64 c.args.n 961 c.requires.1 tt

pub int_to_float-t : goal.int_to_float-t
int_to_float-t c = float-need binary64 w64 c.args.s 245055 c.requires.4 tt

pub int_to_float-result : goal.int_to_float-result
int_to_float-result c = float-need binary64 w64 c.args.v 180156859227 c.requires.0 tt

pub int_to_float-result-2 : goal.int_to_float-result-2
int_to_float-result-2 c = float-need binary64 w64 c.args.x 255 c.requires.2 tt

pub int_to_float-result-3 : goal.int_to_float-result-3
int_to_float-result-3 c = float-need binary64 w64 c.args.y 255 c.requires.3 tt

pub returns : goal.returns
returns c = let a = c.args in rep! (env a.v a.n a.x a.y a.s c.requires) (search float_code depth 12) (search quote depth 12) tt refl
