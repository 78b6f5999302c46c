-- What a pixel weighs, in both kinds: by the frame itself, and where a window is counted.
-- Assumes nothing.
use Rattle.std.specs.Prelude.{ℕ, ◌-◌, ◌*◌, Bool, false, not, ◌&&◌, ◌||◌, eqb, ℤ, pos, negsuc, ◌+ℤ◌, ◌-ℤ◌, ◌*ℤ◌, if◌then◌else◌}
use Rattle.std.specs.Int.Signed.{non_neg}
use Rattle.spec.specs.declared.Settings.{Settings}
use Rattle.spec.specs.Frame.{Frame, guide, table}
use Rattle.spec.specs.Window.{Σℤ, pixel_count, empty, guide_sum, square_sum}

-- document 01: V, n² times the guide's variance plus E
unfoldable pub scaled_variance : ℕ → ℕ → ℕ → ℕ → ℤ
scaled_variance n S Q E = pos (n * Q) -ℤ pos (S * S) +ℤ pos (n * n * E)

-- kind 2's formula, with the guides of the centre and of the pixel
unfoldable pub guided_weight : ℕ → ℕ → ℕ → ℕ → ℕ → ℕ → ℤ
guided_weight n S Q E f g = scaled_variance n S Q E +ℤ (pos (n * f) -ℤ pos S) *ℤ (pos (n * g) -ℤ pos S)

-- the frame's own weight of a pixel of guide g in the window at (s, t)
unfoldable pub own_weight : Frame → ℕ → ℕ → ℕ → ℤ
own_weight p s t g =
    if eqb p.set.kind 1 then pos (table p (guide p s t) g)
    else guided_weight (pixel_count p s t) (guide_sum p s t) (square_sum p s t) p.set.smoothing (guide p s t) g

-- their sum over the window's pixels
unfoldable pub own_total : Frame → ℕ → ℕ → ℤ
own_total p s t = Σℤ p s t (λ x y. own_weight p s t (guide p x y))

unfoldable pub is_zero : ℤ → Bool
is_zero (pos n) = eqb n 0
is_zero (negsuc n) = false

-- document 01: hollow, said of the frame's own weights. Document 02: a window with no reading is not
unfoldable pub weightless : Frame → ℕ → ℕ → Bool
weightless p s t = not (empty p s t) && is_zero (own_total p s t)

-- the weight that is counted with. Document 02: each pixel of a hollow window weighs 1
unfoldable pub weight : Frame → ℕ → ℕ → ℕ → ℤ
weight p s t g = if weightless p s t then pos 1 else own_weight p s t g

-- document 01: steady. No guide can weigh less than 0, so the cumulative weight never falls
unfoldable pub monotone : Frame → ℕ → ℕ → Bool
monotone p s t = eqb p.set.kind 1 || (non_neg (weight p s t 0) && non_neg (weight p s t (p.set.guides - 1)))

-- ---- kind 2, linear in the pixel's guide: V, n·g(x) − S, and the weight as slope · g + offset
unfoldable pub variance : Frame → ℕ → ℕ → ℤ
variance p s t = scaled_variance (pixel_count p s t) (guide_sum p s t) (square_sum p s t) p.set.smoothing

unfoldable pub deviation : Frame → ℕ → ℕ → ℤ
deviation p s t = pos (pixel_count p s t * guide p s t) -ℤ pos (guide_sum p s t)

unfoldable pub slope : Frame → ℕ → ℕ → ℤ
slope p s t = pos (pixel_count p s t) *ℤ deviation p s t

unfoldable pub offset : Frame → ℕ → ℕ → ℤ
offset p s t = variance p s t -ℤ pos (guide_sum p s t) *ℤ deviation p s t
