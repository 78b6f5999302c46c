-- `ints::float_to_signed` meets its contract: a whole number of at most 2 ^ 53 comes back from a float as it went. Assumes nothing.
use Rattle.std.specs.Prelude.{◌≡◌, ◌≤◌, T, ℤ, nat_abs}
use Rattle.std.proofs.Common.{sym, ◌∙◌, ap, subst, le_trans, lit≤}
use lib.Ieee.{binary64, of_int, in_signed, to_signed}
use mir.Syntax.{w64}
use mir.Val.{hbits, SFits}
use Rattle.ints.specs.Machine.{read_back, read}
use Rattle.ints.specs.Float.{float-need, float_back}
use Rattle.ints.proofs.float_to_signed.Goals as goal

comes_back : {a : ℤ} → SFits w64 a → nat_abs a ≤ 1000000000000 →
    T (in_signed binary64 (hbits w64) (of_int binary64 (read_back w64 a))) × (to_signed (hbits w64) (of_int binary64 (read_back w64 a)) ≡ a)
comes_back {a} fits small =
    subst (λ (z : ℤ). T (in_signed binary64 (hbits w64) (of_int binary64 z)) × (to_signed (hbits w64) (of_int binary64 z) ≡ a))
    (sym (read w64 fits)) (float_back binary64 (hbits w64) a (le_trans small (lit≤ tt)) fits.sfits)

pub int_to_float-x : goal.int_to_float-x
int_to_float-x c = float-need binary64 w64 c.args.a 1000000000000 c.requires tt

pub float_to_int-result : goal.float_to_int-result
float_to_int-result c = (comes_back c.ranges.a c.requires).0

pub returns : goal.returns
returns c = ap (read_back w64) (comes_back c.ranges.a c.requires).1 ∙ read w64 c.ranges.a
