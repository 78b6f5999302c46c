-- Way 4, coarse (document 02): the joint histogram and its occupancy words (Joint), and beside them the summary, the window's weight sums over blocks
-- of 16 levels.
-- Assumes nothing.
use Rattle.std.specs.Prelude.{ℕ, suc, ◌+◌, ◌/◌, List, eqb, ℤ, pos, ◌*ℤ◌, if◌then◌else◌}
use Rattle.std.specs.Int.Signed.{le_z}
use Rattle.spec.specs.declared.Settings.{Settings}
use Rattle.spec.specs.Base.{first, sumℤ, tabulate}
use Rattle.spec.specs.Frame.{Frame, level, guide}
use Rattle.spec.specs.Window.{Σℤ}
use Rattle.spec.specs.Weight.{weight}
use Rattle.spec.specs.Median.{total_weight}

-- L / 16 rounded up: the last block may be short
abbrev pub block_count : Settings → ℕ
block_count settings = (settings.levels + 15) / 16

-- block b has the levels 16b to 16b + 15
unfoldable pub block_weight : Frame → ℕ → ℕ → ℕ → ℤ
block_weight p s t b = Σℤ p s t (λ x y. if eqb (level p x y / 16) b then weight p s t (guide p x y) else pos 0)

-- the first block whose end reaches half. In a window that is steady the answer is in it, and then the level inside (`first_block_lem` of
-- proofs/Blocks)
unfoldable pub first_block : Frame → ℕ → ℕ → ℕ
first_block p s t = first (λ b. le_z (total_weight p s t) (pos 2 *ℤ sumℤ (block_weight p s t) 0 (suc b))) (block_count p.set)

unfoldable pub summary : Frame → ℕ → ℕ → List ℤ
summary p s t = tabulate (block_count p.set) (block_weight p s t)
