-- Way 2, columns: per column and level a count and a guide sum over the window's rows; then the window's own.
-- Assumes nothing.
use Rattle.std.specs.Prelude.{ℕ, ◌+◌, ◌*◌, ◌/◌, ◌%◌, List, ◌++◌, eqb, if◌then◌else◌}
use Rattle.spec.specs.declared.Settings.{Settings}
use Rattle.spec.specs.Base.{tabulate}
use Rattle.spec.specs.Frame.{Frame, level, guide}
use Rattle.spec.specs.Window.{in_column, level_sum}

-- the sum of f over the rows t − r to t + r of column x, where the level is i
unfoldable pub column_sum : Frame → ℕ → (ℕ → ℕ → ℕ) → ℕ → ℕ → ℕ
column_sum p t f x i = in_column ◌+◌ 0 p t (λ u v. if eqb (level p u v) i then f u v else 0) x

unfoldable pub column_store : Frame → ℕ → ℕ → List ℕ
column_store p s t =
    let n = p.set.width * p.set.levels in
    let l = p.set.levels in
    tabulate n (λ k. column_sum p t (λ x y. 1) (k / l) (k % l)) ++ tabulate n (λ k. column_sum p t (guide p) (k / l) (k % l))
    ++ tabulate l (level_sum p s t (λ x y. 1)) ++ tabulate l (level_sum p s t (guide p))
