-- The needs of signed and float code with no expression written: `need!`, `computes!` and `rep!`. Assumes nothing.
use Rattle.std.specs.Prelude.{◌≡◌, List, suc, ◌^◌, T, ℤ, Float}
use Rattle.std.proofs.Common.{sym, ◌∙◌, subst}
use Rattle.std.specs.Float.{Format}
use Rattle.std.specs.Float.Ieee.{prec}
use Rattle.std.specs.Int.{Width}
use mir.Val.{SFits, hbits}
use Rattle.ints.specs.Polynomial.{eval, normalize, ring}
use Rattle.ints.specs.Computation.{values, bounds, all_below}
use Rattle.ints.specs.Machine.{Cell, signed_ops}
use Rattle.ints.specs.Auto.{Quoted, Computed, BeforeStore}
use Rattle.ints.proofs.Machine.{need, computes}
use Rattle.ints.proofs.Float.{rep-computed}
use Rattle.ints.specs.Float.{FloatOf, FloatCell, float_ops, rep_at}

-- a goal `overflow_add-..`, `overflow_sub-..`, `overflow_mul-..`
pub need! : (w : Width) {x : ℤ} (xs : List Cell) (p : BeforeStore w xs x) → T (all_below (2 ^ hbits w) (bounds xs) p.expr) → SFits w x
need! w xs p t = subst (λ (z : ℤ). SFits w z) p.is (need w xs p.expr t)

-- what the code has is what the contract says, by the ring laws
pub computes! : (w : Width) {x z : ℤ} (xs : List Cell) (p : Computed (signed_ops w) xs x) (q : Quoted (values xs) z) →
    T (all_below (2 ^ hbits w) (bounds xs) p.expr) → normalize p.expr ≡ normalize q.expr → x ≡ z
computes! w xs p q t e = sym p.is ∙ computes w xs p.expr t ∙ ring (values xs) p.expr q.expr e ∙ q.is

-- the float that the code has stands for what the contract says
pub rep! : {f : Format} {x : Float} {z : ℤ} (xs : List (FloatCell f)) (p : Computed (float_ops f) xs x) (q : Quoted (values xs) z) →
    T (all_below (suc (2 ^ prec f)) (bounds xs) p.expr) → normalize p.expr ≡ normalize q.expr → FloatOf f x z
rep! {f} {x} xs p q t e =
    rep_at (ring (values xs) p.expr q.expr e ∙ q.is)
    (subst (λ (y : Float). FloatOf f y (eval (values xs) p.expr)) p.is (rep-computed f xs p.expr t))
