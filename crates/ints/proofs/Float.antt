-- What float code has stands for what was computed: `rep-computed`. Assumes nothing.
use Rattle.std.specs.Prelude.{◌≡◌, ◌&&◌, List, T, Float}
use Rattle.std.proofs.Common.{le_of_suc-le-suc}
use Prim.Native.Nat.{suc, ◌^◌, ◌≤◌}
use lib.IntN.{ℤ, nat_abs}
use Rattle.std.specs.Int.Signed.{lt_z}
use Rattle.std.specs.Float.Ieee
use Rattle.std.specs.Float.{Format}
use Rattle.std.specs.Float.Ieee.{prec}
use Rattle.std.proofs.Math.Facts.{and_yes}
use Rattle.ints.specs.Polynomial.{Expr, eval}
use Rattle.ints.specs.Computation.{Exact, values, bounds, computed, all_below}
use Rattle.ints.specs.Float.{FloatOf, FloatCell, float_ops, rep-of_int, rep_add, rep-sub, rep_mul, rep_neg, rep-lt}
use Rattle.ints.proofs.Computation.{eval-below, computed-means}

float-exact : (f : Format) → Exact (λ (x : Float) (z : ℤ). FloatOf f x z) (float_ops f) (suc (2 ^ prec f))
float-exact f =
    record {
      literal-means = λ c. rep-of_int f c;
      plus-means = λ x y a b p q h k l. rep_add p q (le_of_suc-le-suc h) (le_of_suc-le-suc k);
      minus-means = λ x y a b p q h k l. rep-sub p q (le_of_suc-le-suc h) (le_of_suc-le-suc k);
      times-means = λ x y a b p q h k l. rep_mul p q (le_of_suc-le-suc h) (le_of_suc-le-suc k);
      negate-means = λ x a p l. rep_neg p;
    }

module _ (f : Format) (xs : List (FloatCell f)) where
  pub rep-computed : (e : Expr) → T (all_below (suc (2 ^ prec f)) (bounds xs) e) → FloatOf f (computed (float_ops f) xs e) (eval (values xs) e)
  rep-computed e t = computed-means (float-exact f) xs e t

  -- a test `<` of two expressions
  pub lt-computed : (a b : Expr) → T (all_below (suc (2 ^ prec f)) (bounds xs) a && all_below (suc (2 ^ prec f)) (bounds xs) b)
      → Ieee.lt (computed (float_ops f) xs a) (computed (float_ops f) xs b) ≡ lt_z (eval (values xs) a) (eval (values xs) b)
  lt-computed a b t =
      let both = and_yes (all_below (suc (2 ^ prec f)) (bounds xs) a) (all_below (suc (2 ^ prec f)) (bounds xs) b) t in
      rep-lt (rep-computed a both.0) (rep-computed b both.1) (small a both.0) (small b both.1)
    where
      small : (e : Expr) → T (all_below (suc (2 ^ prec f)) (bounds xs) e) → nat_abs (eval (values xs) e) ≤ 2 ^ prec f
      small e t = le_of_suc-le-suc (eval-below (float-exact f) xs e t)
