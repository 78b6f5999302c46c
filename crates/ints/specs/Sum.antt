-- Sums over ranges, for contracts of loops: `Σ n f` is f 0 + f 1 + .. + f (n - 1). A loop's invariant starts at `Σ-zero`, goes on
-- by `Σ-more`, and bounds its sum by `Σ-abs`. Assumes nothing.
use Rattle.std.specs.Prelude.{◌≡◌, refl, ℕ, zero, suc, ◌+◌, ◌*◌, ◌≤◌, ◌<◌, ℤ, pos, nat_abs, ◌+ℤ◌}
use Rattle.std.proofs.Common.{ap, le_refl, add-one, arith}
use Rattle.ints.specs.Bound.{abs-add}

unfoldable pub Σ : ℕ → (ℕ → ℤ) → ℤ
Σ zero f = pos 0
Σ (suc n) f = Σ n f +ℤ f n

pub Σ-zero : (f : ℕ → ℤ) → Σ 0 f ≡ pos 0
unfolding Σ
Σ-zero f = refl

-- one more term, at the code's `n + 1`
pub Σ-more : (n : ℕ) (f : ℕ → ℤ) → Σ (n + 1) f ≡ Σ n f +ℤ f n
unfolding Σ
Σ-more n f = ap (λ (m : ℕ). Σ m f) (add-one n)

-- n terms of at most B in size
pub Σ-abs : (n : ℕ) (f : ℕ → ℤ) (B : ℕ) → ((i : ℕ) → i < n → nat_abs (f i) ≤ B) → nat_abs (Σ n f) ≤ n * B
unfolding Σ
Σ-abs zero f B h = omega arith
Σ-abs (suc n) f B h = omega (arith, abs-add (Σ n f) (f n), Σ-abs n f B (λ i l. h i (omega arith)), h n (le_refl (suc n)))
