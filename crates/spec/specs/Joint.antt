-- Way 1, joint: the joint histogram, its occupancy words, and the balance box, for the window at (s, t).
-- Assumes nothing.
use Rattle.std.specs.Prelude.{ℕ, ◌+◌, ◌*◌, ◌/◌, ◌%◌, ◌^◌, List, ltb, leb, eqb, ℤ, pos, negsuc, if◌then◌else◌}
use Rattle.spec.specs.declared.Settings.{Settings}
use Rattle.spec.specs.Base.{indicator, sum, tabulate}
use Rattle.spec.specs.Frame.{Frame, level, guide}
use Rattle.spec.specs.Window.{Σℤ, count}

-- cell i·M + f: the pixels of level i and guide f
unfoldable pub joint_counts : Frame → ℕ → ℕ → List ℕ
joint_counts p s t = tabulate (p.set.levels * p.set.guides) (λ k. count p s t (k / p.set.guides) (k % p.set.guides))

-- occupancy words of one level: document 01's settings
abbrev pub words_per_level : Settings → ℕ
words_per_level settings = (settings.guides + 63) / 64

-- word j of level i: bit b is set where a pixel has guide 64j + b
unfoldable pub occupancy_word : Frame → ℕ → ℕ → ℕ → ℕ → ℕ
occupancy_word p s t i j = sum (λ b. indicator (ltb 0 (count p s t i (64 * j + b))) * 2 ^ b) 0 64

unfoldable pub occupancy_words : Frame → ℕ → ℕ → List ℕ
occupancy_words p s t =
    let k = words_per_level p.set in
    tabulate (p.set.levels * k) (λ q. occupancy_word p s t (q / k) (q % k))

-- document 01: the box at the cut point c. Cell f: the pixels of guide f at level c or below, less those above
unfoldable pub balance_box_at : Frame → ℕ → ℕ → ℕ → List ℤ
balance_box_at p s t c =
    tabulate 256 (λ f. Σℤ p s t (λ x y. if eqb (guide p x y) f then (if leb (level p x y) c then pos 1 else negsuc 0) else pos 0))
