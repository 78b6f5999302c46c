-- `ints::float_sum` meets its contract: the sum of two whole floats is exact. Assumes nothing.
use mathlib.Core.Path.{◌∙◌, ap₂}
use native.Mathlib.Nat.{le_trans}
use lib.Dec.{lit≤}
use lib.IntN.{ℤ}
use lib.Ieee.{binary64, add, of_int}
use mir.Syntax.{w64}
use Rattle.ints.specs.Machine.{read}
use Rattle.ints.specs.Float.{float-need, of_int-add}
use Rattle.ints.proofs.float_sum.Goals as goal

pub int_to_float-result : goal.int_to_float-result
int_to_float-result c = float-need binary64 w64 c.args.a 1000000000000 c.requires.0 tt

pub int_to_float-result-2 : goal.int_to_float-result-2
int_to_float-result-2 c = float-need binary64 w64 c.args.b 1000000000000 c.requires.1 tt

pub returns : goal.returns
returns c =
    ap₂ (λ (x y : ℤ). add binary64 (of_int binary64 x) (of_int binary64 y)) (read w64 c.ranges.a) (read w64 c.ranges.b)
    ∙ of_int-add binary64 c.args.a c.args.b (le_trans c.requires.0 (lit≤ tt)) (le_trans c.requires.1 (lit≤ tt))
