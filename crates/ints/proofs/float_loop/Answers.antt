-- `ints::float_loop` meets its contract: the sum so far is at most 2 ^ 53. Assumes nothing.
use Rattle.std.specs.Prelude.{List, [], ◌∷◌, ℕ, ◌*◌, ◌≤◌, pos, nat_abs, get_or}
use Rattle.std.proofs.Common.{arith, sym}
use lib.Ieee.{binary64}
use Rattle.ints.specs.Polynomial.{◌⊕◌, x₀ as acc, x₁ as x}
use Rattle.ints.specs.Sum.{Σ, Σ-zero, Σ-more, Σ-abs}
use Rattle.ints.specs.Float.{FloatCell, known_float, unsigned_float, rep_at, rep_zero}
use Rattle.ints.proofs.Float.{rep-computed}
use Rattle.ints.proofs.float_loop.Goals as goal

total-small : (a : List ℕ) (i : ℕ) → ((k : ℕ) → get_or a k 0 ≤ 255) → i ≤ 961 → nat_abs (Σ i (λ k. pos (get_or a k 0))) ≤ 961 * 255
total-small a i byte few = omega (arith, Σ-abs i (λ k. pos (get_or a k 0)) 255 (λ k h. byte k))

pub loop-x-init : goal.loop-x-init
loop-x-init c = rep_at (sym (Σ-zero (λ k. pos (get_or c.args.a.now k 0)))) rep_zero

pub loop-x-preserved : goal.loop-x-preserved
loop-x-preserved c =
    let a = c.args.a.now in
    let i = c.loop-x.x-index in
    let byte : (k : ℕ) → get_or a k 0 ≤ 255 = λ k. omega (arith, c.type_inv.a k) in
    let env : List (FloatCell binary64) =
    known_float c.loop-x.acc (Σ i (λ k. pos (get_or a k 0))) (961 * 255) c.loop-x.invariant (total-small a i byte (omega arith))
    ∷ unsigned_float binary64 (get_or a i 0) 255 (byte i)
    ∷ [] in
    rep_at (sym (Σ-more i (λ k. pos (get_or a k 0)))) (rep-computed binary64 env (acc ⊕ x) tt)
