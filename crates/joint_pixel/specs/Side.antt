-- A pixel in the balance box.
-- Assumes nothing.
use Rattle.std.specs.Prelude.{ℕ, leb, eqb, ℤ, pos, negsuc, if◌then◌else◌}

-- what a pixel of level i adds to its guide's cell of the box at the cut point c; and, if its guide is g, to cell f
unfoldable pub side : ℕ → ℕ → ℤ
side c i = if leb i c then pos 1 else negsuc 0

unfoldable pub side_of : ℕ → ℕ → ℕ → ℕ → ℤ
side_of c f i g = if eqb g f then side c i else pos 0
