-- n, S and Q along a list and over a step of the window.
-- Assumes nothing.
use mathlib.Core.Path.{◌≡◌, sym, ap, ap₂, ◌∙◌}
use mathlib.Core.List.{List}
use Prim.Native.Nat.{ℕ, ◌+◌, ◌-◌, ◌*◌, ◌≤◌, ◌<◌}
use native.Mathlib.Nat.{mul-le-mul, le_trans, le_of_eq}
use native.Mathlib.Omega.{arith}
use Rattle.spec.specs.declared.Plan.{Plan}
use Rattle.spec.specs.Frame.{frame_with}
use Rattle.spec.specs.Checks.{Pictured}
use Rattle.spec.specs.Window.{span, pixel_count, guide_sum, square_sum}
use Rattle.spec.proofs.Plans.{pixel-of}
use Rattle.spec.proofs.Bounds.{pixel_count-high, guide_sum-high, square_sum-high}
use Rattle.window.specs.declared.line.Line.{Line}
use Rattle.window.specs.declared.line.Step.{Step}
use Rattle.window.specs.declared.sums.Sums.{Sums}
use Rattle.window.specs.Line.{column_line, Adjacent, step_of}
use Rattle.window.specs.Sums.{one, itself, squared, SumsAt}
use Rattle.window.proofs.FormLaws.{both-in}
use Rattle.window.proofs.PixelLaws.{guides_high, levels_high}
use Rattle.pixels.specs.declared.Pixel.{Pixel}
use Rattle.pixels.specs.Pixels.{count_of, guide_in, PixelsBelow, LinePixels}
use Rattle.pixels.specs.Sums.{ListSums, ColumnSums, MovableByLists, MovedByLists}
use Rattle.pixels.proofs.AdditiveLaws.{pixels-none, pixels-more, columns-none, columns-more, columns-window, stepped}

abbrev sums : ℕ → ℕ → ℕ → Sums
sums n s q = record { count = n; sum = s; squares = q }

-- a plan's pixels are below every limit
pub below-most : {b vs : List ℕ} {z : Plan} {p : List Pixel} → Pictured b vs z → PixelsBelow z.levels z.guides p → PixelsBelow 1024 256 p
below-most pl v = record {
  few = v.few;
  level = λ k h. omega (arith, v.level k h, levels_high pl);
  guide = λ k h. omega (arith, v.guide k h, guides_high pl);
}

-- ---- along a list
pub sums_none : (p : List Pixel) → ListSums p 0 (sums 0 0 0)
sums_none p = record {
  count = sym (pixels-none ◌+◌ 0 p one);
  sum = sym (pixels-none ◌+◌ 0 p itself);
  squares = sym (pixels-none ◌+◌ 0 p squared);
  count_high = omega arith;
  sum_high = omega arith;
  squares_high = omega arith;
}

module _ {p : List Pixel} (v : PixelsBelow 1024 256 p) {k : ℕ} (h : k < count_of p) where
  pub guide-small : (guide_in p k ≤ 255) × (guide_in p k * guide_in p k ≤ 65025)
  guide-small = let l : guide_in p k ≤ 255 = omega (arith, v.guide k h) in (l, mul-le-mul {n₂ = 255} l l)

  pub sums_next : (s q : ℕ) → ListSums p k (sums k s q) → ListSums p (k + 1) (sums (k + 1) (s + guide_in p k) (q + guide_in p k * guide_in p k))
  sums_next s q a = record {
    count = ap (λ (n : ℕ). n + 1) a.count ∙ sym (pixels-more ◌+◌ 0 p one k);
    sum = ap (λ (n : ℕ). n + guide_in p k) a.sum ∙ sym (pixels-more ◌+◌ 0 p itself k);
    squares = ap (λ (n : ℕ). n + guide_in p k * guide_in p k) a.squares ∙ sym (pixels-more ◌+◌ 0 p squared k);
    count_high = omega arith;
    sum_high = omega (arith, a.sum_high, guide-small.0);
    squares_high = omega (arith, a.squares_high, guide-small.1);
  }

-- ---- column by column
pub columns-start : (b vs : List ℕ) (z : Plan) (x t : ℕ) → ColumnSums b vs z x t 0 (sums 0 0 0)
columns-start b vs z x t = record {
  count = sym (columns-none ◌+◌ 0 b vs z x t one);
  sum = sym (columns-none ◌+◌ 0 b vs z x t itself);
  squares = sym (columns-none ◌+◌ 0 b vs z x t squared);
  count_high = omega arith;
  sum_high = omega arith;
  squares_high = omega arith;
}

module _ {b vs : List ℕ} {z : Plan} {x t : ℕ} where
  pub columns-next : {k n u q : ℕ} {d : Line} {p : List Pixel} {a : Sums} → ColumnSums b vs z x t k (sums n u q) → d ≡ column_line z (x + k) t →
      LinePixels b vs z d p → ListSums p (count_of p) a
      → ColumnSums b vs z x t (k + 1) (sums (n + a.count) (u + a.sum) (q + a.squares))
  columns-next {k} {p = p} v ed r l = record {
    count = ap₂ ◌+◌ v.count l.count ∙ sym (columns-more ◌+◌ 0 b vs z x t one k p ed (r.sum one));
    sum = ap₂ ◌+◌ v.sum l.sum ∙ sym (columns-more ◌+◌ 0 b vs z x t itself k p ed (r.sum itself));
    squares = ap₂ ◌+◌ v.squares l.squares ∙ sym (columns-more ◌+◌ 0 b vs z x t squared k p ed (r.sum squared));
    count_high = omega (arith, v.count_high, l.count_high, r.below.few);
    sum_high = omega (arith, v.sum_high, l.sum_high, r.below.few);
    squares_high = omega (arith, v.squares_high, l.squares_high, r.below.few);
  }

  pub columns-end : Pictured b vs z → (s : ℕ) {n : ℕ} {a : Sums} → x ≡ s - z.radius → n ≡ span z.radius s z.width → ColumnSums b vs z x t n a →
      SumsAt (frame_with b vs) s t a
  unfolding pixel_count guide_sum square_sum
  columns-end pl s ex en v = record {
    count = v.count ∙ columns-window ◌+◌ 0 b vs z x t one pl s ex en;
    sum = v.sum ∙ columns-window ◌+◌ 0 b vs z x t itself pl s ex en;
    squares = v.squares ∙ columns-window ◌+◌ 0 b vs z x t squared pl s ex en;
  }

-- ---- one list in, another out
pub exchanged : {e l : List Pixel} {a less more : Sums} → MovableByLists e l a → ListSums l (count_of l) less → ListSums e (count_of e) more
    → MovedByLists e l a (sums (a.count + more.count - less.count) (a.sum + more.sum - less.sum) (a.squares + more.squares - less.squares))
exchanged m l e = record {
  count = omega (arith, m.count_enough, l.count, e.count);
  sum = omega (arith, m.sum_enough, l.sum, e.sum);
  squares = omega (arith, m.squares_enough, l.squares, e.squares);
}

-- ---- a step of the window
module _ {b vs : List ℕ} {z : Plan} (pl : Pictured b vs z) {s t s' t' : ℕ} (adj : Adjacent z s t s' t') {d : Step} (ed : d ≡ step_of z s t s' t')
    {e l : List Pixel} (re : LinePixels b vs z d.entering e) (rl : LinePixels b vs z d.leaving l) {a : Sums}
    (v : SumsAt (frame_with b vs) s t a) where
  pub movable : MovableByLists e l a
  unfolding pixel_count guide_sum square_sum
  movable =
      let k = pixel-of pl (both-in adj).0 (both-in adj).1 in
      record {
        count_high = le_trans (le_of_eq v.count) (pixel_count-high k);
        sum_high = le_trans (le_of_eq v.sum) (guide_sum-high k);
        squares_high = le_trans (le_of_eq v.squares) (square_sum-high k);
        count_enough = omega (arith, stepped (λ (g : ℕ → ℕ → ℕ). g) pl adj ed re rl one, v.count);
        sum_enough = omega (arith, stepped (λ (g : ℕ → ℕ → ℕ). g) pl adj ed re rl itself, v.sum);
        squares_enough = omega (arith, stepped (λ (g : ℕ → ℕ → ℕ). g) pl adj ed re rl squared, v.squares);
      }

  pub sums_moved : {r : Sums} → MovedByLists e l a r → SumsAt (frame_with b vs) s' t' r
  unfolding pixel_count guide_sum square_sum
  sums_moved m = record {
    count = omega (arith, stepped (λ (g : ℕ → ℕ → ℕ). g) pl adj ed re rl one, v.count, m.count);
    sum = omega (arith, stepped (λ (g : ℕ → ℕ → ℕ). g) pl adj ed re rl itself, v.sum, m.sum);
    squares = omega (arith, stepped (λ (g : ℕ → ℕ → ℕ). g) pl adj ed re rl squared, v.squares, m.squares);
  }
