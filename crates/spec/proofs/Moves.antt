-- The column store: the window's numbers are its columns' together.
-- Assumes nothing.
use mathlib.Core.Path.{◌≡◌, refl}
use Prim.Native.Nat.{ℕ, ◌-◌}
use Rattle.spec.specs.Base.{fold_rect, sum}
use Rattle.spec.specs.Frame.{Frame}
use Rattle.spec.specs.Window.{span, over, in_column, level_sum}
use Rattle.spec.specs.Columns.{column_sum}

pub level_sum-columns : (p : Frame) (s t : ℕ) (f : ℕ → ℕ → ℕ) (i : ℕ)
    → level_sum p s t f i ≡ sum (λ x. column_sum p t f x i) (s - p.set.radius) (span p.set.radius s p.set.width)
unfolding level_sum column_sum over in_column fold_rect
level_sum-columns p s t f i = refl
