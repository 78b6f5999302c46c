-- `level_search::block::heaviest` meets its contract. Assumes nothing.
use Rattle.std.proofs.Common.{◌≡◌, refl, ℕ, ◌-◌, ◌≤◌, ℤ, pos, nat_abs, ◌+ℤ◌, ◌*ℤ◌, List, [], ◌∷◌, w64, cond, true, false, arith}
use Rattle.std.specs.Prelude.{int_lt}
use Rattle.std.specs.Int.{int_max}
use Rattle.ints.specs.Order.{≤_trans}
use Rattle.ints.proofs.Computation.{bounded}
use Rattle.ints.specs.Machine.{Cell, param_cell, unsigned_cell, read-bounded}
use Rattle.ints.specs.Auto.{signed_code}
use Rattle.ints.proofs.Auto.{need! }
use Rattle.ints.proofs.Machine.{computes}
use Rattle.ints.specs.Polynomial.{◌⊕◌, ◌⊗◌, x₀, x₁, x₂}
use Rattle.window_weights.specs.declared.coefficients.Coefficients.{Coefficients}
use Rattle.window_weights.specs.Coefficients.{CoefficientsSmall}
use Rattle.level_search.proofs.block.heaviest.Goals as goal

abbrev cells : (k : Coefficients) (last : ℕ) → CoefficientsSmall k → last ≤ 255 → List Cell
cells k last small most =
    param_cell w64 k.slope 235497855 small.slope tt
    ∷ param_cell w64 k.offset 180155859075 small.offset tt
    ∷ unsigned_cell w64 last 255 most tt
    ∷ []

pub overflow_add-high : goal.overflow_add-high
overflow_add-high c = need! w64 (cells c.args.coefficients (c.args.guides - 1) c.requires.coefficients_small (omega arith)) (search signed_code depth 12) tt

max-small : {B : ℕ} {x y i j : ℤ} → i ≡ x → j ≡ y → nat_abs x ≤ B → nat_abs y ≤ B → nat_abs (int_max i j) ≤ B
max-small {B} {x} {y} d e p q = rw (d, e) (elim (int_lt y x) as (λ b. nat_abs (cond b x y) ≤ B) [ true ↦ p | false ↦ q ])

pub returns : goal.returns
returns c =
    let most : c.args.guides - 1 ≤ 255 = omega arith in
    let k = c.args.coefficients in
    let known : List Cell = cells k (c.args.guides - 1) c.requires.coefficients_small most in
    let low = computes w64 known x₁ tt in
    let high = computes w64 known (x₀ ⊗ x₂ ⊕ x₁) tt in
    let top : nat_abs (k.slope *ℤ pos (c.args.guides - 1) +ℤ k.offset) ≤ 240207812100 = bounded known (x₀ ⊗ x₂ ⊕ x₁) in
    let m : nat_abs c.max.result ≤ 240207812100 =
    rw c.max.ensures.value (max-small {x = k.offset} {y = pos 0} low refl (omega (arith, c.requires.coefficients_small.offset)) (omega arith)) in
    let r : nat_abs c.max-2.result ≤ 240207812100 =
    rw c.max-2.ensures.value (max-small {x = c.max.result} (read-bounded w64 240207812100 m tt) high m top) in
    let up = rw (read-bounded w64 240207812100 m tt) at c.max-2.ensures.self_bound in
    rw (read-bounded w64 240207812100 r tt)
    (record {
      low = ≤_trans (rw low at c.max.ensures.self_bound) up;
      high = rw high at c.max-2.ensures.other_bound;
      not_negative = ≤_trans c.max.ensures.other_bound up;
      small = r;
    })
