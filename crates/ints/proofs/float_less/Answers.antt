-- `ints::float_less` meets its contract: whole numbers of at most 2 ^ 53 compare as floats as they do as integers. Assumes nothing.
use native.Mathlib.Nat.{le_trans}
use lib.Dec.{lit≤}
use lib.Ieee.{binary64}
use mir.Syntax.{w64}
use Rattle.ints.specs.Machine.{read}
use Rattle.ints.specs.Float.{float-need, rep-lt, rep_at, rep-of_int}
use Rattle.ints.proofs.float_less.Goals as goal

pub int_to_float-x : goal.int_to_float-x
int_to_float-x c = float-need binary64 w64 c.args.a 1000000000000 c.requires.0 tt

pub int_to_float-y : goal.int_to_float-y
int_to_float-y c = float-need binary64 w64 c.args.b 1000000000000 c.requires.1 tt

pub returns : goal.returns
returns c =
    rep-lt (rep_at (read w64 c.ranges.a) (rep-of_int binary64 _)) (rep_at (read w64 c.ranges.b) (rep-of_int binary64 _))
    (le_trans c.requires.0 (lit≤ tt)) (le_trans c.requires.1 (lit≤ tt))
