-- Bounds on an accepted frame's numbers: n, S, Q, V, the weights, U, T, the balance and the weighted sum of differences.
-- Assumes nothing.
use mathlib.Core.Path.{◌≡◌, sym, subst}
use mathlib.Core.Bool.{Bool, true, false, ◌&&◌}
use Prim.Native.Nat.{ℕ, ◌+◌, ◌*◌, ◌^◌, ◌≤◌, ◌<◌}
use native.Mathlib.Nat.{le_refl, le_trans, le_of_eq, mul-le-mul}
use native.Mathlib.Omega.{arith}
use lib.Dec.{leb, eqb}
use lib.IntN.{ℤ, pos, negsuc, nat_abs, ◌-ℤ◌, ◌*ℤ◌}
use Rattle.ints.specs.Order.{add_parts, diff-parts, pos_part-neg, neg_part-neg, <-to-≤}
use Rattle.ints.specs.Linear.{ints}
use Rattle.ints.specs.Bound.{abs-add-le, abs-sub-le, abs-mul-le, abs-mul, abs-le, abs-le-nonneg}
use Rattle.std.specs.Prelude.{if◌then◌else◌}
use Rattle.spec.specs.Base.{indicator, distance}
use Rattle.spec.specs.declared.Settings.{Settings}
use Rattle.spec.specs.Frame.{Frame, level, guide, table, heaviest}
use Rattle.spec.specs.Window.{span, Σ, Σℤ, pixel_count, guide_sum, square_sum, in_cell, count, InWindow}
use Rattle.spec.specs.Weight.{scaled_variance, guided_weight, own_weight, weight, variance, deviation, slope, offset}
use Rattle.spec.specs.Median.{total_weight, cumulative, balance, differences}
use Rattle.spec.specs.Window.{level_sum}
use Rattle.spec.proofs.Sums.{over-le, over-abs, over-constant, pixel_count-fits}
use Rattle.spec.specs.Checks.{SettingsLimits}
use Rattle.spec.proofs.Limits.{FrameLimits, Pixel}
use Rattle.spec.proofs.Plans.{smoothing-of}
use Rattle.spec.proofs.Own.{own-table, weight-table, table_weight-high, weight-guided, variance-nonneg}
use Rattle.spec.proofs.Levels.{level_weight, cell, balance-signed}

span-high : (r c n : ℕ) → span r c n ≤ 2 * r + 1
unfolding span
span-high r c n = omega arith

-- ---- n, S, Q
pub pixel_count-nodes : (p : Frame) (s t : ℕ) → pixel_count p s t ≤ (2 * p.set.radius + 1) * (2 * p.set.radius + 1)
pixel_count-nodes p s t =
    le_trans (pixel_count-fits p s t)
    (mul-le-mul (span-high p.set.radius s p.set.width) (span-high p.set.radius t p.set.height))

pub pixel_count-high : {p : Frame} {s t : ℕ} → Pixel p s t → pixel_count p s t ≤ 961
pixel_count-high {p} {s} {t} k =
    let r : 2 * p.set.radius + 1 ≤ 31 = omega (arith, k.good.sound.radius_high) in
    le_trans (pixel_count-nodes p s t) (mul-le-mul r r)

guide-high : {p : Frame} {s t : ℕ} → Pixel p s t → (x y : ℕ) → InWindow p s t x y → guide p x y ≤ 255
guide-high k x y h = omega (arith, k.good.guide-low x y h.wide h.high, k.good.sound.guides_high)

-- a sum of naturals of which each is at most B
pub over-high : {p : Frame} {s t : ℕ} → Pixel p s t → (f : ℕ → ℕ → ℕ) (B : ℕ) → ((x y : ℕ) → InWindow p s t x y → f x y ≤ B) → Σ p s t f ≤ 961 * B
over-high {p} {s} {t} k f B h =
    le_trans (over-le p s t f (λ x y. B) h) (le_trans (le_of_eq (over-constant p s t B)) (mul-le-mul (pixel_count-high k) (le_refl B)))

pub guide_sum-high : {p : Frame} {s t : ℕ} → Pixel p s t → guide_sum p s t ≤ 245055
unfolding guide_sum
guide_sum-high {p} k = over-high k (λ x y. guide p x y) 255 (guide-high k)

pub square_sum-high : {p : Frame} {s t : ℕ} → Pixel p s t → square_sum p s t ≤ 62489025
unfolding square_sum
square_sum-high {p} k = over-high k (λ x y. guide p x y * guide p x y) 65025 (λ x y h. mul-le-mul (guide-high k x y h) (guide-high k x y h))

-- a number or 0
pub if-high : (b : Bool) (n B : ℕ) → n ≤ B → (if b then n else 0) ≤ B
if-high true n B h = h
if-high false n B h = omega arith

pub guides_of-high : {p : Frame} {s t : ℕ} → Pixel p s t → (i : ℕ) → level_sum p s t (guide p) i ≤ 245055
unfolding level_sum
guides_of-high {p} k i = over-high k _ 255 (λ x y h. if-high (eqb (level p x y) i) (guide p x y) 255 (guide-high k x y h))

pub count_high : {p : Frame} {s t : ℕ} → Pixel p s t → (i f : ℕ) → count p s t i f ≤ 961
unfolding count
count_high {p} k i f = over-high k (in_cell p i f) 1 (λ x y h. one (eqb (level p x y) i && eqb (guide p x y) f))
  where
    one : (b : Bool) → indicator b ≤ 1
    one true = le_refl 1
    one false = omega arith

-- ---- sums of integers of which each is at most B in size
pub over-size : (p : Frame) (s t : ℕ) (f : ℕ → ℕ → ℤ) (B : ℕ) → ((x y : ℕ) → InWindow p s t x y → nat_abs (f x y) ≤ B) →
    nat_abs (Σℤ p s t f) ≤ pixel_count p s t * B
over-size p s t f B h = le_trans (over-abs p s t f (λ x y. B) h) (le_of_eq (over-constant p s t B))

if-abs : (b : Bool) (w : ℤ) (B : ℕ) → nat_abs w ≤ B → nat_abs (if b then w else pos 0) ≤ B
if-abs true w B h = h
if-abs false w B h = omega arith

sign-abs : (b : Bool) (w : ℤ) (B : ℕ) → nat_abs w ≤ B → nat_abs ((if b then pos 1 else negsuc 0) *ℤ w) ≤ B
sign-abs true w B h = omega (arith, abs-mul (pos 1) w)
sign-abs false w B h = omega (arith, abs-mul (negsuc 0) w)

pub cell-abs : {p : Frame} {s t : ℕ} → Pixel p s t → (c f : ℕ) → nat_abs (cell p s t c f) ≤ 961
unfolding cell
cell-abs {p} {s} {t} k c f =
    le_trans
    (over-size p s t _ 1 (λ x y h. if-abs (eqb (guide p x y) f) (if leb (level p x y) c then pos 1 else negsuc 0) 1 (one (leb (level p x y) c))))
    (omega (arith, pixel_count-high k))
  where
    one : (b : Bool) → nat_abs (if b then pos 1 else negsuc 0) ≤ 1
    one true = le_refl 1
    one false = le_refl 1

-- a sum over the window of numbers of which each is at most C in size
window-size : {p : Frame} {s t : ℕ} → Pixel p s t → (f : ℕ → ℕ → ℤ) (C : ℕ) → ((x y : ℕ) → InWindow p s t x y → nat_abs (f x y) ≤ C) →
    nat_abs (Σℤ p s t f) ≤ 961 * C
window-size {p} {s} {t} k f C h = le_trans (over-size p s t f C h) (mul-le-mul (pixel_count-high k) (le_refl C))

-- T, U and the balance, where no weight of the frame's guides is more than B in size
module _ {p : Frame} {s t : ℕ} (k : Pixel p s t) (B : ℕ) (low : (g : ℕ) → g < p.set.guides → nat_abs (weight p s t g) ≤ B) where
  weight-size : (x y : ℕ) → InWindow p s t x y → nat_abs (weight p s t (guide p x y)) ≤ B
  weight-size x y h = low (guide p x y) (k.good.guide-low x y h.wide h.high)

  pub total-abs : nat_abs (total_weight p s t) ≤ 961 * B
  unfolding total_weight
  total-abs = window-size k _ B weight-size

  pub cumulative-abs : (i : ℕ) → nat_abs (cumulative p s t i) ≤ 961 * B
  unfolding cumulative
  cumulative-abs i = window-size k _ B (λ x y h. if-abs (leb (level p x y) i) (weight p s t (guide p x y)) B (weight-size x y h))

  pub level-abs : (i : ℕ) → nat_abs (level_weight p s t i) ≤ 961 * B
  unfolding level_weight
  level-abs i = window-size k _ B (λ x y h. if-abs (eqb (level p x y) i) (weight p s t (guide p x y)) B (weight-size x y h))

  pub balance-abs : (c : ℕ) → nat_abs (balance p s t c) ≤ 961 * B
  balance-abs c =
      subst (λ (z : ℤ). nat_abs z ≤ 961 * B) (sym (balance-signed p s t c))
      (window-size k _ B (λ x y h. sign-abs (leb (level p x y) c) (weight p s t (guide p x y)) B (weight-size x y h)))

-- what the answer minimises, where no own weight is more than B in size
pub differences-abs : {p : Frame} {s t : ℕ} → Pixel p s t → (B : ℕ) → ((g : ℕ) → g < p.set.guides → nat_abs (own_weight p s t g) ≤ B)
    → (i : ℕ) → i < p.set.levels → nat_abs (differences p s t i) ≤ 961 * (B * 1023)
unfolding differences
differences-abs {p} {s} {t} k B low i l =
    window-size k _ (B * 1023)
    (λ x y h. abs-mul-le (own_weight p s t (guide p x y)) (pos (distance (level p x y) i))
    (low (guide p x y) (k.good.guide-low x y h.wide h.high))
    (omega (arith, k.good.level-low x y h.wide h.high, k.good.sound.levels_high)))

-- ---- the weights
diff-abs : (a b B : ℕ) → a ≤ B → b ≤ B → nat_abs (pos a -ℤ pos b) ≤ B
diff-abs a b B h l =
    abs-le {z = pos a -ℤ pos b}
    (omega (arith, ints, diff-parts (pos a) (pos b), pos_part-neg (pos B), neg_part-neg (pos B), pos_part-neg (pos b), neg_part-neg (pos b)))
    (omega (arith, ints, diff-parts (pos a) (pos b)))

pub deviation-abs : {p : Frame} {s t : ℕ} → Pixel p s t → (g : ℕ) → g ≤ 255 → nat_abs (pos (pixel_count p s t * g) -ℤ pos (guide_sum p s t)) ≤ 245055
deviation-abs {p} {s} {t} k g h = diff-abs (pixel_count p s t * g) (guide_sum p s t) 245055 (mul-le-mul (pixel_count-high k) h) (guide_sum-high k)

pub variance-abs : {p : Frame} {s t : ℕ} → Pixel p s t → 1 ≤ p.set.smoothing → p.set.smoothing ≤ 65025 → nat_abs (variance p s t) ≤ 120103906050
unfolding variance scaled_variance
variance-abs {p} {s} {t} k e h =
    let n = pixel_count p s t in
    let a : n * square_sum p s t ≤ 60051953025 = mul-le-mul (pixel_count-high k) (square_sum-high k) in
    let c : n * n * p.set.smoothing ≤ 60051953025 = mul-le-mul (mul-le-mul (pixel_count-high k) (pixel_count-high k)) h in
    let u = pos (n * square_sum p s t) -ℤ pos (guide_sum p s t * guide_sum p s t) in
    abs-le-nonneg (variance-nonneg p s t)
    (omega
    (arith, ints, add_parts u (pos (n * n * p.set.smoothing)), diff-parts (pos (n * square_sum p s t)) (pos (guide_sum p s t * guide_sum p s t))))

-- kind 2: check 4's limit on the smoothing bounds them
pub guided-abs : {p : Frame} {s t : ℕ} → Pixel p s t → p.set.kind ≡ 2 → (g : ℕ) → g < p.set.guides → nat_abs (weight p s t g) ≤ 180155859075
unfolding guided_weight variance
guided-abs {p} {s} {t} k two g l =
    let e = smoothing-of k.good two in
    let f : guide p s t ≤ 255 = omega (arith, k.good.guide-low s t k.in-column k.in-row, k.good.sound.guides_high) in
    subst (λ (z : ℤ). nat_abs z ≤ 180155859075) (sym (weight-guided k g two))
    (abs-add-le (variance p s t)
    ((pos (pixel_count p s t * guide p s t) -ℤ pos (guide_sum p s t)) *ℤ (pos (pixel_count p s t * g) -ℤ pos (guide_sum p s t)))
    (variance-abs k e.0 e.1)
    (abs-mul-le (pos (pixel_count p s t * guide p s t) -ℤ pos (guide_sum p s t)) (pos (pixel_count p s t * g) -ℤ pos (guide_sum p s t))
    (deviation-abs k (guide p s t) f) (deviation-abs k g (omega (arith, k.good.sound.guides_high)))))

-- kind 1: the table's 16 bits do
pub own-abs : (p : Frame) (s t : ℕ) → p.set.kind ≡ 1 → ((f g : ℕ) → table p f g ≤ heaviest) → (g : ℕ) → nat_abs (own_weight p s t g) ≤ heaviest
own-abs p s t one low g = subst (λ (z : ℤ). nat_abs z ≤ heaviest) (sym (own-table p s t g one)) (low (guide p s t) g)

pub table-abs : (p : Frame) (s t : ℕ) → p.set.kind ≡ 1 → ((f g : ℕ) → table p f g ≤ heaviest) → (g : ℕ) → nat_abs (weight p s t g) ≤ heaviest
table-abs p s t one low g =
    subst (λ (z : ℤ). nat_abs z ≤ heaviest) (sym (weight-table p s t g one)) (table_weight-high p s t g heaviest (omega arith) (low (guide p s t) g))

-- kind 2's two coefficients
pub slope-abs : {p : Frame} {s t : ℕ} → Pixel p s t → nat_abs (slope p s t) ≤ 235497855
unfolding slope deviation
slope-abs {p} {s} {t} k =
    abs-mul-le (pos (pixel_count p s t)) (pos (pixel_count p s t * guide p s t) -ℤ pos (guide_sum p s t)) (pixel_count-high k)
    (deviation-abs k (guide p s t) (omega (arith, k.good.guide-low s t k.in-column k.in-row, k.good.sound.guides_high)))

pub offset-abs : {p : Frame} {s t : ℕ} → Pixel p s t → 1 ≤ p.set.smoothing → p.set.smoothing ≤ 65025 → nat_abs (offset p s t) ≤ 180155859075
unfolding offset deviation
offset-abs {p} {s} {t} k e h =
    let f : guide p s t ≤ 255 = omega (arith, k.good.guide-low s t k.in-column k.in-row, k.good.sound.guides_high) in
    abs-sub-le (variance p s t) (pos (guide_sum p s t) *ℤ (pos (pixel_count p s t * guide p s t) -ℤ pos (guide_sum p s t))) (variance-abs k e h)
    (abs-mul-le (pos (guide_sum p s t)) (pos (pixel_count p s t * guide p s t) -ℤ pos (guide_sum p s t)) (guide_sum-high k)
    (deviation-abs k (guide p s t) f))

-- ---- for readers: the sums of an accepted file's window. In kind 1 T is below 2^26, 2U and the balance below 2^27, what the answer minimises below
-- 2^36; in kind 2 T, U and the balance are below 2^48, 2U below 2^49
pub record SumsBelow (p : Frame) (s t T U B : ℕ) : Type 0 where
  pub total : nat_abs (total_weight p s t) < T
  pub twice : (i : ℕ) → 2 * nat_abs (cumulative p s t i) < U
  pub balances : (i : ℕ) → nat_abs (balance p s t i) < B

module _ {p : Frame} {s t : ℕ} (k : Pixel p s t) where
  module _ (one : p.set.kind ≡ 1) (low : (f g : ℕ) → table p f g ≤ heaviest) where
    weights : (g : ℕ) → g < p.set.guides → nat_abs (weight p s t g) ≤ heaviest
    weights g h = table-abs p s t one low g

    pub table-sums : SumsBelow p s t (2 ^ 26) (2 ^ 27) (2 ^ 27)
    table-sums = record {
      total = omega (arith, total-abs k heaviest weights);
      twice = λ i. omega (arith, cumulative-abs k heaviest weights i);
      balances = λ i. omega (arith, balance-abs k heaviest weights i);
    }

    pub table-differences : (i : ℕ) → i < p.set.levels → nat_abs (differences p s t i) < 2 ^ 36
    table-differences i h = omega (arith, differences-abs k heaviest (λ g _. own-abs p s t one low g) i h)

  pub guided-sums : p.set.kind ≡ 2 → SumsBelow p s t (2 ^ 48) (2 ^ 49) (2 ^ 48)
  guided-sums two = record {
    total = omega (arith, total-abs k 180155859075 (guided-abs k two));
    twice = λ i. omega (arith, cumulative-abs k 180155859075 (guided-abs k two) i);
    balances = λ i. omega (arith, balance-abs k 180155859075 (guided-abs k two) i);
  }
