-- A line copied whole: every value is at most their sum, so a sum below 65,535 has none that says there is no reading; and the largest sum that there
-- can be has no other.
-- Assumes nothing.
use mathlib.Core.Path.{◌≡◌, refl, sym, ap, ap₂, ◌∙◌}
use mathlib.Core.Bool.{true, false}
use mathlib.Core.List.{List}
use Prim.Native.Nat.{ℕ, ◌+◌, ◌*◌, ◌≤◌, ◌<◌}
use native.Mathlib.Omega.{arith}
use lib.Dec.{eqb}
use lib.ListN.{length, take}
use lib.IntN.{pos, ◌+ℤ◌}
use lib.Seq.{get_or-take, length-take-le}
use borrow.Author.Tests.{eq-eqb, ne_eqb}
use Rattle.spec.specs.declared.Plan.{Plan}
use Rattle.spec.specs.Frame.{no_reading, value_of, pixel_guide}
use Rattle.spec.specs.Checks.{Pictured}
use Rattle.spec.proofs.Ranges.{AdditionLaws, nat_sums, int_sums, fold-none, fold_same}
use Rattle.window.specs.declared.line.Line.{Line}
use Rattle.window.specs.Line.{InPlanes, pixel_of, line_fold_to}
use Rattle.window.proofs.PixelLaws.{level-low, guide-low}
use Rattle.pixels.specs.declared.Pixel.{Pixel}
use Rattle.pixels.specs.Pixels.{no_pixel, count_of, level_in, guide_in, pixel_fold_to, LinePixels}
use Rattle.pixels.proofs.AdditiveLaws.{pixels-none}

-- the list has the line's first n pixels, and no value is above the total
pub record CopiedTo (b vs : List ℕ) (d : Line) (n total : ℕ) (p : List Pixel) : Type 0 where
  pub long : 31 ≤ length p
  pub low : total ≤ 65535 * n
  pub most : (k : ℕ) → k < n → value_of b vs (pixel_of d k) ≤ total
  pub small : (k : ℕ) → k < n → value_of b vs (pixel_of d k) ≤ 65535
  pub least : (k : ℕ) → k < n → total + 65535 ≤ 65535 * n + value_of b vs (pixel_of d k)
  pub level : (k : ℕ) → k < n → level_in p k ≡ value_of b vs (pixel_of d k)
  pub guide : (k : ℕ) → k < n → guide_in p k ≡ pixel_guide b (pixel_of d k)

-- every sum over the list is that over the line, where none of its pixels is dead
whole-fold : {A : Type 0} (◌⊕◌ : A → A → A) (o : A) → AdditionLaws ◌⊕◌ o → (b vs : List ℕ) (d : Line) (n : ℕ) (p : List Pixel)
    → ((k : ℕ) → k < n → eqb (value_of b vs (pixel_of d k)) no_reading ≡ false)
    → ((k : ℕ) → k < n → level_in p k ≡ value_of b vs (pixel_of d k)) → ((k : ℕ) → k < n → guide_in p k ≡ pixel_guide b (pixel_of d k))
    → (h : ℕ → ℕ → A) → pixel_fold_to ◌⊕◌ o p h n ≡ line_fold_to ◌⊕◌ o b vs d h n
unfolding pixel_fold_to line_fold_to
whole-fold ◌⊕◌ o laws b vs d n p live level guide h =
    fold_same ◌⊕◌ o laws _ _ 0 _ (λ k x y. rw (live k (omega arith)) (ap₂ h (level k (omega arith)) (guide k (omega arith))))

module _ {b vs : List ℕ} {z : Plan} {d : Line} {total : ℕ} {p : List Pixel} (pl : Pictured b vs z) (ins : InPlanes z d)
    (v : CopiedTo b vs d d.count total p)
    (few : total < no_reading) where
  abbrev n : ℕ
  n = d.count

  abbrev part : List Pixel
  part = take n p

  live : (k : ℕ) → k < n → eqb (value_of b vs (pixel_of d k)) no_reading ≡ false
  live k h = ne_eqb (value_of b vs (pixel_of d k)) no_reading (λ e. omega (arith, v.most k h))

  many : count_of part ≡ n
  many = length-take-le n p (omega (arith, v.long, ins.few))

  level : (k : ℕ) → k < n → level_in part k ≡ value_of b vs (pixel_of d k)
  level k h = ap (λ (q : Pixel). q.value) (get_or-take n p k no_pixel h) ∙ v.level k h

  guide : (k : ℕ) → k < n → guide_in part k ≡ pixel_guide b (pixel_of d k)
  guide k h = ap (λ (q : Pixel). q.guide.0) (get_or-take n p k no_pixel h) ∙ v.guide k h

  pub whole-pixels : LinePixels b vs z d (take d.count p)
  whole-pixels = record {
    below = record {
      few = omega (arith, many, ins.few);
      level = λ k h. let l : k < n = omega (arith, many, h) in rw (level k l) (level-low pl (ins.inside k l) (live k l));
      guide = λ k h. let l : k < n = omega (arith, many, h) in rw (guide k l) (guide-low pl (ins.inside k l));
    };
    sum = λ h. ap (pixel_fold_to ◌+◌ 0 part h) many ∙ whole-fold ◌+◌ 0 nat_sums b vs d n part live level guide h;
    sumℤ = λ h. ap (pixel_fold_to ◌+ℤ◌ (pos 0) part h) many ∙ whole-fold ◌+ℤ◌ (pos 0) int_sums b vs d n part live level guide h;
  }

-- ---- and where all of them are dead, nothing is left
dead-fold : {A : Type 0} (◌⊕◌ : A → A → A) (o : A) → AdditionLaws ◌⊕◌ o → (b vs : List ℕ) (d : Line) (n : ℕ)
    → ((k : ℕ) → k < n → eqb (value_of b vs (pixel_of d k)) no_reading ≡ true) → (h : ℕ → ℕ → A) → line_fold_to ◌⊕◌ o b vs d h n ≡ o
unfolding line_fold_to
dead-fold ◌⊕◌ o laws b vs d n dead h = fold_same ◌⊕◌ o laws _ (λ k. o) 0 _ (λ k x y. rw (dead k (omega arith)) refl) ∙ fold-none ◌⊕◌ o laws 0 n

all-dead : {b vs : List ℕ} {d : Line} {total : ℕ} {p : List Pixel} → CopiedTo b vs d d.count total p → total ≡ d.count * no_reading
    → (k : ℕ) → k < d.count → eqb (value_of b vs (pixel_of d k)) no_reading ≡ true
all-dead {b} {vs} {d} v full k h = eq-eqb (value_of b vs (pixel_of d k)) no_reading (omega (arith, full, v.least k h, v.small k h))

pub none_left : {b vs : List ℕ} {z : Plan} {d : Line} {total : ℕ} {p : List Pixel} → CopiedTo b vs d d.count total p → total ≡ d.count * no_reading
    → LinePixels b vs z d (take 0 p)
none_left {b} {vs} {z} {d} {total} {p} v full = record {
  below = record { few = omega arith; level = λ k h. absurd (omega arith); guide = λ k h. absurd (omega arith) };
  sum = λ h. pixels-none ◌+◌ 0 (take 0 p) h ∙ sym (dead-fold ◌+◌ 0 nat_sums b vs d d.count (all-dead v full) h);
  sumℤ = λ h. pixels-none ◌+ℤ◌ (pos 0) (take 0 p) h ∙ sym (dead-fold ◌+ℤ◌ (pos 0) int_sums b vs d d.count (all-dead v full) h);
}
