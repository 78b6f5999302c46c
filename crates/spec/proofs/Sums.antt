-- Sums of integers over ranges and windows: linear, ordered, bounded; a window's pixels, and what holds of each of them.
-- Assumes nothing.
use mathlib.Core.Path.{◌≡◌, refl, sym, ap, ◌∙◌, subst}
use mathlib.Core.Bool.{Bool, true, false}
use mathlib.Core.Logic.{◌⊎◌, inl, inr}
use Prim.Native.Nat.{ℕ, zero, suc, ◌+◌, ◌-◌, ◌*◌, ◌≤◌, ◌<◌}
use native.Mathlib.Nat.{le_trans, le_of_eq, zero-add}
use native.Mathlib.Omega.{arith}
use lib.IntN.{ℤ, pos, nat_abs, ◌+ℤ◌, ◌*ℤ◌, *ℤ-zero}
use lib.Signed.{◌≤ℤ◌, ≤ℤ_refl}
use Rattle.ints.specs.Ring.{mul-add}
use Rattle.ints.specs.Order.{pos_part, neg_part, add_parts, +-mono, ≤_trans}
use Rattle.ints.specs.Linear.{ints}
use Rattle.ints.specs.Bound.{abs-add}
use Rattle.std.specs.Prelude.{if◌then◌else◌}
use Rattle.spec.specs.Base.{fold, fold_rect, sum, sumℤ}
use Rattle.spec.specs.declared.Settings.{Settings}
use Rattle.spec.specs.Frame.{Frame, dead}
use Rattle.spec.specs.Window.{span, live, over, Σ, Σℤ, pixel_count, InWindow}
use Rattle.spec.proofs.Ranges.{AdditionLaws, fold-both, fold-none, fold_same, int_sums}

-- ---- ranges
pub sum-none : (f : ℕ → ℕ) → sum f 0 0 ≡ 0
unfolding fold
sum-none f = refl

pub sum-suc : (f : ℕ → ℕ) (n : ℕ) → sum f 0 (suc n) ≡ sum f 0 n + f n
unfolding fold
sum-suc f n = ap (λ (k : ℕ). sum f 0 n + f k) (zero-add n)

pub sum-scale : (c : ℤ) (f : ℕ → ℤ) (a n : ℕ) → sumℤ (λ k. c *ℤ f k) a n ≡ c *ℤ sumℤ f a n
unfolding fold
sum-scale c f a zero = sym (*ℤ-zero c)
sum-scale c f a (suc n) = ap (λ (x : ℤ). x +ℤ c *ℤ f (a + n)) (sum-scale c f a n) ∙ sym (mul-add c (sumℤ f a n) (f (a + n)))

pub sum-pos : (f : ℕ → ℕ) (a n : ℕ) → sumℤ (λ k. pos (f k)) a n ≡ pos (sum f a n)
unfolding fold
sum-pos f a zero = refl
sum-pos f a (suc n) = ap (λ (x : ℤ). x +ℤ pos (f (a + n))) (sum-pos f a n)

pub sum_mono : (f g : ℕ → ℤ) (a n : ℕ) → ((k : ℕ) → a ≤ k → k < a + n → f k ≤ℤ g k) → sumℤ f a n ≤ℤ sumℤ g a n
unfolding fold
sum_mono f g a zero h = ≤ℤ_refl (pos 0)
sum_mono f g a (suc n) h = +-mono (sum_mono f g a n (λ k x y. h k x (omega arith))) (h (a + n) (omega arith) (omega arith))

pub sum_zeros : (a n : ℕ) → sumℤ (λ k. pos 0) a n ≡ pos 0
unfolding fold
sum_zeros a zero = refl
sum_zeros a (suc n) = ap (λ (x : ℤ). x +ℤ pos 0) (sum_zeros a n)

pub sum_nonneg : (f : ℕ → ℤ) (a n : ℕ) → ((k : ℕ) → a ≤ k → k < a + n → pos 0 ≤ℤ f k) → pos 0 ≤ℤ sumℤ f a n
sum_nonneg f a n h = subst (λ (x : ℤ). x ≤ℤ sumℤ f a n) (sum_zeros a n) (sum_mono (λ k. pos 0) f a n h)

pub sum-const : (c : ℕ) (a n : ℕ) → sum (λ k. c) a n ≡ n * c
unfolding fold
sum-const c a zero = omega arith
sum-const c a (suc n) = omega (arith, sum-const c a n)

pub sum-le : (f g : ℕ → ℕ) (a n : ℕ) → ((k : ℕ) → a ≤ k → k < a + n → f k ≤ g k) → sum f a n ≤ sum g a n
unfolding fold
sum-le f g a zero h = omega arith
sum-le f g a (suc n) h = omega (arith, sum-le f g a n (λ k x y. h k x (omega arith)), h (a + n) (omega arith) (omega arith))

pub sum-abs : (f : ℕ → ℤ) (g : ℕ → ℕ) (a n : ℕ) → ((k : ℕ) → a ≤ k → k < a + n → nat_abs (f k) ≤ g k) → nat_abs (sumℤ f a n) ≤ sum g a n
unfolding fold
sum-abs f g a zero h = omega arith
sum-abs f g a (suc n) h =
    omega (arith, abs-add (sumℤ f a n) (f (a + n)), sum-abs f g a n (λ k x y. h k x (omega arith)), h (a + n) (omega arith) (omega arith))

-- a term is at most the sum
split-last : (a n k : ℕ) → k < a + suc n → (k ≡ a + n) ⊎ (k < a + n)
split-last a n k h = native.Mathlib.Nat.eq-or-lt_of_le (omega arith)

pub sum-term : (f : ℕ → ℕ) (a n k : ℕ) → a ≤ k → k < a + n → f k ≤ sum f a n
unfolding fold
sum-term f a zero k x y = absurd (omega arith)
sum-term f a (suc n) k x y = go (split-last a n k y) (λ l. sum-term f a n k x l)
  where
    go : (k ≡ a + n) ⊎ (k < a + n) → (k < a + n → f k ≤ sum f a n) → f k ≤ sum f a n + f (a + n)
    go (inl e) ih = omega (arith, ap f e)
    go (inr l) ih = omega (arith, ih l)

pub sum-termℤ : (f : ℕ → ℤ) (a n k : ℕ) → ((j : ℕ) → a ≤ j → j < a + n → pos 0 ≤ℤ f j) → a ≤ k → k < a + n → f k ≤ℤ sumℤ f a n
unfolding fold
sum-termℤ f a zero k h x y = absurd (omega arith)
sum-termℤ f a (suc n) k h x y =
    go (split-last a n k y) (λ l. sum-termℤ f a n k (λ j u v. h j u (omega arith)) x l)
    (sum_nonneg f a n (λ j u v. h j u (omega arith))) (h (a + n) (omega arith) (omega arith))
  where
    go : (k ≡ a + n) ⊎ (k < a + n) → (k < a + n → f k ≤ℤ sumℤ f a n) → pos 0 ≤ℤ sumℤ f a n → pos 0 ≤ℤ f (a + n) → f k ≤ℤ (sumℤ f a n +ℤ f (a + n))
    go (inl e) ih u v = omega (arith, ints, add_parts (sumℤ f a n) (f (a + n)), ap pos_part (ap f e), ap neg_part (ap f e))
    go (inr l) ih u v = let q : f k ≤ℤ sumℤ f a n = ih l in omega (arith, ints, add_parts (sumℤ f a n) (f (a + n)))

-- ---- a pixel with a reading, and a dead one
module _ {A : Type 0} (z : A) (p : Frame) where
  pub live-read : (f : ℕ → ℕ → A) (x y : ℕ) → dead p x y ≡ false → live z p f x y ≡ f x y
  unfolding live
  live-read f x y e = rw e refl

  pub live-dead : (f : ℕ → ℕ → A) (x y : ℕ) → dead p x y ≡ true → live z p f x y ≡ z
  unfolding live
  live-dead f x y e = rw e refl

-- what holds of nothing, and of two functions where there is a reading, holds of both with dead pixels passed over; and of one function
pub live-two : {A B : Type 0} (z : A) (e : B) (p : Frame) (P : A → B → Type 0) (f : ℕ → ℕ → A) (g : ℕ → ℕ → B) (x y : ℕ)
    → P z e → (dead p x y ≡ false → P (f x y) (g x y)) → P (live z p f x y) (live e p g x y)
unfolding live
live-two z e p P f g x y none here = go (dead p x y) refl
  where
    go : (b : Bool) → dead p x y ≡ b → P (if b then z else f x y) (if b then e else g x y)
    go true d = none
    go false d = here d

pub live-one : {A : Type 0} (z : A) (p : Frame) (P : A → Type 0) (f : ℕ → ℕ → A) (x y : ℕ)
    → P z → (dead p x y ≡ false → P (f x y)) → P (live z p f x y)
live-one z p P f x y none here = live-two z z p (λ u v. P u) f f x y none here

-- ---- the window's pixels
pub in_window : (p : Frame) (s t x y : ℕ) → s - p.set.radius ≤ x → x < s - p.set.radius + span p.set.radius s p.set.width
    → t - p.set.radius ≤ y → y < t - p.set.radius + span p.set.radius t p.set.height → dead p x y ≡ false → InWindow p s t x y
unfolding span
in_window p s t x y a b c d e =
    record { left = omega arith; right = omega arith; wide = omega arith; top = omega arith; bottom = omega arith; high = omega arith; read = e }

pub in_window-right : {p : Frame} {s t x y : ℕ} → InWindow p s t x y → x < s - p.set.radius + span p.set.radius s p.set.width
unfolding span
in_window-right h = omega arith

pub in_window-bottom : {p : Frame} {s t x y : ℕ} → InWindow p s t x y → y < t - p.set.radius + span p.set.radius t p.set.height
unfolding span
in_window-bottom h = omega arith

-- ---- the same over the window
module _ {A : Type 0} (◌⊕◌ : A → A → A) (z : A) (laws : AdditionLaws ◌⊕◌ z) (p : Frame) (s t : ℕ) where
  infixl 6 ◌⊕◌
  pub over-in_window : (f g : ℕ → ℕ → A) → ((x y : ℕ) → InWindow p s t x y → f x y ≡ g x y) → over ◌⊕◌ z p s t f ≡ over ◌⊕◌ z p s t g
  unfolding over fold_rect
  over-in_window f g h =
      fold_same ◌⊕◌ z laws _ _ _ _
      (λ x a b. fold_same ◌⊕◌ z laws _ _ _ _ (λ y c d. live-two z z p (λ u v. u ≡ v) f g x y refl (λ e. h x y (in_window p s t x y a b c d e))))

  both : (f g : ℕ → ℕ → A) (x y : ℕ) → live z p (λ u v. f u v ⊕ g u v) x y ≡ live z p f x y ⊕ live z p g x y
  unfolding live
  both f g x y = go (dead p x y)
    where
      go : (b : Bool) → (if b then z else f x y ⊕ g x y) ≡ (if b then z else f x y) ⊕ (if b then z else g x y)
      go true = sym (laws.idl z)
      go false = refl

  pub over-both : (f g : ℕ → ℕ → A) → over ◌⊕◌ z p s t (λ x y. f x y ⊕ g x y) ≡ over ◌⊕◌ z p s t f ⊕ over ◌⊕◌ z p s t g
  unfolding over fold_rect
  over-both f g =
      fold_same ◌⊕◌ z laws _ _ _ _
      (λ x a b. fold_same ◌⊕◌ z laws _ _ _ _ (λ y c d. both f g x y) ∙ fold-both ◌⊕◌ z laws (live z p f x) (live z p g x) _ _)
      ∙ fold-both ◌⊕◌ z laws _ _ _ _

  pub over_none : over ◌⊕◌ z p s t (λ x y. z) ≡ z
  unfolding over fold_rect
  over_none =
      fold_same ◌⊕◌ z laws _ (λ x. z) _ _
      (λ x a b. fold_same ◌⊕◌ z laws _ (λ y. z) _ _ (λ y c d. live-one z p (λ u. u ≡ z) (λ u v. z) x y refl (λ e. refl)) ∙ fold-none ◌⊕◌ z laws _ _)
      ∙ fold-none ◌⊕◌ z laws _ _

module _ (p : Frame) (s t : ℕ) where
  pub over_add : (f g : ℕ → ℕ → ℤ) → Σℤ p s t (λ x y. f x y +ℤ g x y) ≡ Σℤ p s t f +ℤ Σℤ p s t g
  over_add f g = over-both ◌+ℤ◌ (pos 0) int_sums p s t f g

  pub over-scale : (c : ℤ) (f : ℕ → ℕ → ℤ) → Σℤ p s t (λ x y. c *ℤ f x y) ≡ c *ℤ Σℤ p s t f
  unfolding over fold_rect
  over-scale c f =
      fold_same ◌+ℤ◌ (pos 0) int_sums _ _ _ _
      (λ x a b. fold_same ◌+ℤ◌ (pos 0) int_sums _ _ _ _
      (λ y d e. live-two (pos 0) (pos 0) p (λ u v. u ≡ c *ℤ v) (λ u v. c *ℤ f u v) f x y (sym (*ℤ-zero c)) (λ q. refl))
      ∙ sum-scale c (live (pos 0) p f x) _ _)
      ∙ sum-scale c _ _ _

  pub over-pos : (f : ℕ → ℕ → ℕ) → Σℤ p s t (λ x y. pos (f x y)) ≡ pos (Σ p s t f)
  unfolding over fold_rect
  over-pos f =
      fold_same ◌+ℤ◌ (pos 0) int_sums _ _ _ _
      (λ x a b. fold_same ◌+ℤ◌ (pos 0) int_sums _ _ _ _
      (λ y d e. live-two (pos 0) 0 p (λ u v. u ≡ pos v) (λ u v. pos (f u v)) f x y refl (λ q. refl))
      ∙ sum-pos (live 0 p f x) _ _)
      ∙ sum-pos _ _ _

  pub over-mono : (f g : ℕ → ℕ → ℤ) → ((x y : ℕ) → InWindow p s t x y → f x y ≤ℤ g x y) → Σℤ p s t f ≤ℤ Σℤ p s t g
  unfolding over fold_rect
  over-mono f g h =
      sum_mono _ _ _ _
      (λ x a b. sum_mono _ _ _ _
      (λ y c d. live-two (pos 0) (pos 0) p (λ u v. u ≤ℤ v) f g x y (≤ℤ_refl (pos 0)) (λ e. h x y (in_window p s t x y a b c d e))))

  pub over-nonneg : (f : ℕ → ℕ → ℤ) → ((x y : ℕ) → InWindow p s t x y → pos 0 ≤ℤ f x y) → pos 0 ≤ℤ Σℤ p s t f
  unfolding over fold_rect
  over-nonneg f h =
      sum_nonneg _ _ _
      (λ x a b. sum_nonneg _ _ _
      (λ y c d. live-one (pos 0) p (λ u. pos 0 ≤ℤ u) f x y (≤ℤ_refl (pos 0)) (λ e. h x y (in_window p s t x y a b c d e))))

  pub over-le : (f g : ℕ → ℕ → ℕ) → ((x y : ℕ) → InWindow p s t x y → f x y ≤ g x y) → Σ p s t f ≤ Σ p s t g
  unfolding over fold_rect
  over-le f g h =
      sum-le _ _ _ _
      (λ x a b. sum-le _ _ _ _ (λ y c d. live-two 0 0 p (λ u v. u ≤ v) f g x y (omega arith) (λ e. h x y (in_window p s t x y a b c d e))))

  pub over-abs : (f : ℕ → ℕ → ℤ) (g : ℕ → ℕ → ℕ) → ((x y : ℕ) → InWindow p s t x y → nat_abs (f x y) ≤ g x y) → nat_abs (Σℤ p s t f) ≤ Σ p s t g
  unfolding over fold_rect
  over-abs f g h =
      sum-abs _ _ _ _
      (λ x a b. sum-abs _ _ _ _
      (λ y c d. live-two (pos 0) 0 p (λ u v. nat_abs u ≤ v) f g x y (omega arith) (λ e. h x y (in_window p s t x y a b c d e))))

  pub over-term : (f : ℕ → ℕ → ℕ) (x y : ℕ) → InWindow p s t x y → f x y ≤ Σ p s t f
  unfolding over fold_rect
  over-term f x y h =
      subst (λ (n : ℕ). n ≤ Σ p s t f) (live-read 0 p f x y h.read)
      (le_trans (sum-term (live 0 p f x) (t - p.set.radius) (span p.set.radius t p.set.height) y (omega arith) (in_window-bottom h))
      (sum-term (λ u. sum (live 0 p f u) (t - p.set.radius) (span p.set.radius t p.set.height)) (s - p.set.radius)
      (span p.set.radius s p.set.width) x (omega arith) (in_window-right h)))

  pub over-termℤ : (f : ℕ → ℕ → ℤ) → ((x y : ℕ) → InWindow p s t x y → pos 0 ≤ℤ f x y) → (x y : ℕ) → InWindow p s t x y → f x y ≤ℤ Σℤ p s t f
  unfolding over fold_rect
  over-termℤ f k x y h =
      subst (λ (n : ℤ). n ≤ℤ Σℤ p s t f) (live-read (pos 0) p f x y h.read)
      (≤_trans
      (sum-termℤ (live (pos 0) p f x) (t - p.set.radius) (span p.set.radius t p.set.height) y
      (λ v c d. light x v (λ e. k x v (in_window p s t x v (omega arith) (in_window-right h) c d e))) (omega arith) (in_window-bottom h))
      (sum-termℤ (λ u. sumℤ (live (pos 0) p f u) (t - p.set.radius) (span p.set.radius t p.set.height)) (s - p.set.radius)
      (span p.set.radius s p.set.width) x
      (λ u a b. sum_nonneg (live (pos 0) p f u) _ _ (λ v c d. light u v (λ e. k u v (in_window p s t u v a b c d e)))) (omega arith)
      (in_window-right h)))
    where
      light : (u v : ℕ) → (dead p u v ≡ false → pos 0 ≤ℤ f u v) → pos 0 ≤ℤ live (pos 0) p f u v
      light u v q = live-one (pos 0) p (λ w. pos 0 ≤ℤ w) f u v (≤ℤ_refl (pos 0)) q

  -- the number of pixels: at most those of the rectangle
  pub pixel_count-fits : pixel_count p s t ≤ span p.set.radius s p.set.width * span p.set.radius t p.set.height
  unfolding pixel_count over fold_rect
  pixel_count-fits =
      le_trans
      (sum-le _ (λ x. span p.set.radius t p.set.height) _ _
      (λ x a b. le_trans
      (sum-le _ (λ y. 1) _ _ (λ y c d. live-one 0 p (λ q. q ≤ 1) (λ u v. 1) x y (omega arith) (λ e. omega arith)))
      (le_of_eq (sum-const 1 _ _ ∙ native.Mathlib.Nat.mul-one _))))
      (le_of_eq (sum-const (span p.set.radius t p.set.height) _ _))

  sized : Σ p s t (λ x y. 1) ≡ pixel_count p s t
  unfolding pixel_count
  sized = refl

  pub over-constantℤ : (c : ℤ) → Σℤ p s t (λ x y. c) ≡ pos (pixel_count p s t) *ℤ c
  over-constantℤ c =
      over-in_window ◌+ℤ◌ (pos 0) int_sums p s t _ _ (λ x y h. sym (Rattle.ints.specs.Ring.mul-one c))
      ∙ over-scale c (λ x y. pos 1) ∙ ap (λ (k : ℤ). c *ℤ k) (over-pos (λ x y. 1))
      ∙ ap (λ (k : ℕ). c *ℤ pos k) sized ∙ lib.IntN.*ℤ_comm c (pos (pixel_count p s t))

  pub over-constant : (c : ℕ) → Σ p s t (λ x y. c) ≡ pixel_count p s t * c
  over-constant c = ap nat_abs (sym (over-pos (λ x y. c)) ∙ over-constantℤ (pos c))

  -- a window with no reading sums up nothing
  pub over-empty : {A : Type 0} (◌⊕◌ : A → A → A) (z : A) → AdditionLaws ◌⊕◌ z → (f : ℕ → ℕ → A) → pixel_count p s t ≡ 0 → over ◌⊕◌ z p s t f ≡ z
  unfolding pixel_count
  over-empty ◌⊕◌ z laws f e =
      over-in_window ◌⊕◌ z laws p s t f (λ x y. z) (λ x y h. absurd (omega (arith, over-term (λ u v. 1) x y h, e))) ∙ over_none ◌⊕◌ z laws p s t
