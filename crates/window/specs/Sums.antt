-- Document 01's n, S and Q of a window.
-- Assumes nothing.
use Rattle.std.specs.Prelude.{◌≡◌, ℕ, ◌*◌}
use Rattle.spec.specs.Frame.{Frame}
use Rattle.spec.specs.Window.{pixel_count, guide_sum, square_sum}
use Rattle.window.specs.declared.sums.Sums.{Sums}

-- what a pixel of a level and a guide adds to each
abbrev pub one : ℕ → ℕ → ℕ
one i f = 1

abbrev pub itself : ℕ → ℕ → ℕ
itself i f = f

abbrev pub squared : ℕ → ℕ → ℕ
squared i f = f * f

-- of the window at (s, t)
pub record SumsAt (p : Frame) (s t : ℕ) (a : Sums) : Type 0 where
  pub count : a.count ≡ pixel_count p s t
  pub sum : a.sum ≡ guide_sum p s t
  pub squares : a.squares ≡ square_sum p s t
