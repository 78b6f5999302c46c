-- How each line is put together.
-- Assumes nothing.
use mathlib.Core.Path.{◌≡◌, refl}
use Prim.Native.Nat.{ℕ, ◌≤◌, ◌<◌}
use native.Mathlib.Omega.{arith}
use borrow.Author.Tests.{lt-ltb, le-ltb}
use Rattle.spec.specs.declared.Plan.{Plan}
use Rattle.window.specs.Line.{
  PlanLimits,
  column_line,
  row_line,
  column_step,
  row_step,
  reverse,
  step_of,
  Adjacent,
  right,
  left,
  down,
  up,
}

-- no line begins further on than a step may take it from
module _ (z : Plan) where
  pub column_low : PlanLimits z → (x t : ℕ) → x ≤ 1024 → t < z.height → (column_line z x t).first ≤ 2097152
  unfolding column_line
  column_low l x t h k = grind arith

  pub row_low : PlanLimits z → (s y : ℕ) → y ≤ 1024 → s < z.width → (row_line z s y).first ≤ 2097152
  unfolding row_line
  row_low l s y h k = grind arith

-- ---- a step by its direction
module _ (z : Plan) (s t s' t' : ℕ) where
  pub is_right : s < s' → step_of z s t s' t' ≡ column_step z s t
  unfolding step_of
  is_right h = rw (lt-ltb s s' h) refl

  pub is-left : s' < s → step_of z s t s' t' ≡ reverse (column_step z s' t)
  unfolding step_of
  is-left h = rw (le-ltb s s' (omega arith), lt-ltb s' s h) refl

  pub is_down : s ≤ s' → s' ≤ s → t < t' → step_of z s t s' t' ≡ row_step z s t
  unfolding step_of
  is_down h k l = rw (le-ltb s s' k, le-ltb s' s h, lt-ltb t t' l) refl

  pub is_up : s ≤ s' → s' ≤ s → t' ≤ t → step_of z s t s' t' ≡ reverse (row_step z s t')
  unfolding step_of
  is_up h k l = rw (le-ltb s s' k, le-ltb s' s h, le-ltb t t' l) refl

-- both pixels are in the picture
pub both-in : {z : Plan} {s t s' t' : ℕ} → Adjacent z s t s' t' → (s < z.width) × (t < z.height) × (s' < z.width) × (t' < z.height)
both-in (right a e h k) = (omega arith, omega arith, omega arith, omega arith)
both-in (left a e h k) = (omega arith, omega arith, omega arith, omega arith)
both-in (down a e h k) = (omega arith, omega arith, omega arith, omega arith)
both-in (up a e h k) = (omega arith, omega arith, omega arith, omega arith)
