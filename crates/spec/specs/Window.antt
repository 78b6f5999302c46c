-- The window: the picture's pixels with a reading at most r columns and r rows away from its centre, in column s and row t; and its sums.
-- Assumes nothing.
use Rattle.std.specs.Prelude.{ℕ, ◌+◌, ◌-◌, ◌*◌, min, ◌≤◌, ◌<◌, ◌≡◌, Bool, false, ◌&&◌, eqb, ℤ, pos, ◌+ℤ◌, if◌then◌else◌}
use Rattle.spec.specs.declared.Settings.{Settings}
use Rattle.spec.specs.Base.{indicator, fold, fold_rect}
use Rattle.spec.specs.Frame.{Frame, level, dead, guide}

-- how many of the numbers below size are at most r away from c: they begin at c − r, or at 0
unfoldable pub span : ℕ → ℕ → ℕ → ℕ
span r c size = min size (c + r + 1) - (c - r)

-- the pixel in column x and row y is one of the window's; document 02: a dead one belongs to no window
pub record InWindow (p : Frame) (s t x y : ℕ) : Type 0 where
  pub left : s ≤ x + p.set.radius
  pub right : x ≤ s + p.set.radius
  pub wide : x < p.set.width
  pub top : t ≤ y + p.set.radius
  pub bottom : y ≤ t + p.set.radius
  pub high : y < p.set.height
  pub read : dead p x y ≡ false

-- f at a pixel with a reading; a dead one is passed over, here and nowhere else
unfoldable pub live : {A : Type 0} → A → Frame → (ℕ → ℕ → A) → ℕ → ℕ → A
live z p f x y = if dead p x y then z else f x y

-- ---- the sum of f over the window's pixels
module _ {A : Type 0} (◌⊕◌ : A → A → A) (z : A) where
  unfoldable pub over : Frame → ℕ → ℕ → (ℕ → ℕ → A) → A
  over p s t f =
      let k = p.set in
      fold_rect ◌⊕◌ z (live z p f) (s - k.radius) (span k.radius s k.width) (t - k.radius) (span k.radius t k.height)

  -- over the part of column x that the window's rows span, of row y that its columns span
  unfoldable pub in_column : Frame → ℕ → (ℕ → ℕ → A) → ℕ → A
  in_column p t f x = fold ◌⊕◌ z (live z p f x) (t - p.set.radius) (span p.set.radius t p.set.height)

  unfoldable pub in_row : Frame → ℕ → (ℕ → ℕ → A) → ℕ → A
  in_row p s f y = fold ◌⊕◌ z (λ x. live z p f x y) (s - p.set.radius) (span p.set.radius s p.set.width)

abbrev pub Σ : Frame → ℕ → ℕ → (ℕ → ℕ → ℕ) → ℕ
Σ = over ◌+◌ 0

abbrev pub Σℤ : Frame → ℕ → ℕ → (ℕ → ℕ → ℤ) → ℤ
Σℤ = over ◌+ℤ◌ (pos 0)

-- ---- document 01: n, S and Q
unfoldable pub pixel_count : Frame → ℕ → ℕ → ℕ
pixel_count p s t = Σ p s t (λ x y. 1)

-- document 02: no reading, the pixels are all dead
unfoldable pub empty : Frame → ℕ → ℕ → Bool
empty p s t = eqb (pixel_count p s t) 0

unfoldable pub guide_sum : Frame → ℕ → ℕ → ℕ
guide_sum p s t = Σ p s t (guide p)

unfoldable pub square_sum : Frame → ℕ → ℕ → ℕ
square_sum p s t = Σ p s t (λ x y. guide p x y * guide p x y)

-- ---- the pixels of level i and guide f: a cell of source 001's joint histogram
abbrev pub in_cell : Frame → ℕ → ℕ → ℕ → ℕ → ℕ
in_cell p i f x y = indicator (eqb (level p x y) i && eqb (guide p x y) f)

unfoldable pub count : Frame → ℕ → ℕ → ℕ → ℕ → ℕ
count p s t i f = Σ p s t (in_cell p i f)

-- the sum of f over the window's pixels of level i
unfoldable pub level_sum : Frame → ℕ → ℕ → (ℕ → ℕ → ℕ) → ℕ → ℕ
level_sum p s t f i = Σ p s t (λ x y. if eqb (level p x y) i then f x y else 0)
