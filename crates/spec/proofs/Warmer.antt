-- Warmer in, never colder out: where no weight is negative, raising levels never lowers an answer. And frames that are alike but for the levels of
-- their readings: they weigh alike.
-- Assumes nothing.
use mathlib.Core.Path.{◌≡◌, refl, sym, ap, ap₂, ◌∙◌, subst, fun_ext}
use mathlib.Core.Bool.{Bool, true, false, true≢false}
use Prim.Native.Nat.{ℕ, ◌+◌, ◌-◌, ◌*◌, ◌≤◌, ◌<◌}
use native.Mathlib.Nat.{le_refl}
use native.Mathlib.Omega.{arith}
use native.Mathlib.Decide.{dec_le, dec_lt}
use lib.Dec.{leb, eqb}
use lib.IntN.{ℤ, pos, ◌+ℤ◌, ◌*ℤ◌}
use lib.Signed.{◌≤ℤ◌, le_z, ≤ℤ_refl}
use borrow.Author.Tests.{le-leb, lt-leb}
use Rattle.ints.specs.Order.{≤_trans, mul-mono-l, litℤ≤, 0≤pos}
use Rattle.std.specs.Prelude.{if◌then◌else◌}
use Rattle.spec.specs.Base.{first, fold_rect}
use Rattle.spec.specs.declared.Settings.{Settings}
use Rattle.spec.specs.Frame.{Frame, level, dead, guide, table, no_reading}
use Rattle.spec.specs.Window.{span, live, over, Σℤ, pixel_count, empty, guide_sum, square_sum, InWindow}
use Rattle.spec.specs.Weight.{own_weight, own_total, weightless, weight}
use Rattle.spec.specs.Median.{total_weight, cumulative, median, answer, NoneNegative}
use Rattle.spec.proofs.Ranges.{AdditionLaws, fold_same, nat_sums, int_sums}
use Rattle.spec.proofs.First.{First, first-is}
use Rattle.spec.proofs.Sums.{in_window, over-in_window, over-mono}
use Rattle.spec.specs.Checks.{SettingsLimits}
use Rattle.spec.proofs.Limits.{FrameLimits, Pixel}
use Rattle.spec.proofs.Own.{weight-own, weight-one}
use Rattle.spec.proofs.Totals.{le-le_z, le_z-le}

-- ---- the first level that passes

-- a test that passes wherever another does passes first no later
pub first-earlier : (a b : ℕ → Bool) (n : ℕ) → ((i : ℕ) → b i ≡ true → a i ≡ true) → first a n ≤ first b n
first-earlier a b n h = go (dec_lt (first b n) (first a n))
  where
    go : Dec (first b n < first a n) → first a n ≤ first b n
    go (yes l) =
        absurd (true≢false (sym (h (first b n) ((first-is b n).passes (omega (arith, (first-is a n).within)))) ∙ (first-is a n).before (first b n) l))
    go (no l) = omega arith

-- ---- any sum that keeps an order, with any weights that are not negative
module _ (total : (ℕ → ℕ → ℤ) → ℤ) (In : ℕ → ℕ → Type 0)
    (ordered : (f g : ℕ → ℕ → ℤ) → ((x y : ℕ) → In x y → f x y ≤ℤ g x y) → total f ≤ℤ total g) where
  -- the sum of the weights of level i or below, where pixels have the levels v
  abbrev pub weight_to : (ℕ → ℕ → ℤ) → (ℕ → ℕ → ℕ) → ℕ → ℤ
  weight_to w v i = total (λ x y. if leb (v x y) i then w x y else pos 0)

  -- the lowest of n levels at which it reaches half
  abbrev pub half_level : (ℕ → ℕ → ℤ) → (ℕ → ℕ → ℕ) → ℕ → ℕ
  half_level w v n = first (λ i. le_z (total w) (pos 2 *ℤ weight_to w v i)) n

  module _ (w : ℕ → ℕ → ℤ) (v u : ℕ → ℕ → ℕ) (light : (x y : ℕ) → In x y → pos 0 ≤ℤ w x y) (warmer : (x y : ℕ) → In x y → v x y ≤ u x y) where
    -- fewer pixels are at a level or below
    pub weight-warmer : (i : ℕ) → weight_to w u i ≤ℤ weight_to w v i
    weight-warmer i = ordered _ _ (λ x y h. go (v x y) (u x y) (w x y) (warmer x y h) (light x y h) (dec_le (u x y) i) (dec_le (v x y) i))
      where
        go : (a b : ℕ) (z : ℤ) → a ≤ b → pos 0 ≤ℤ z → Dec (b ≤ i) → Dec (a ≤ i) → (if leb b i then z else pos 0) ≤ℤ (if leb a i then z else pos 0)
        go a b z l n (yes h) e = rw (le-leb b i h, le-leb a i (omega arith)) (≤ℤ_refl z)
        go a b z l n (no h) (yes e) = rw (lt-leb b i (omega arith), le-leb a i e) n
        go a b z l n (no h) (no e) = rw (lt-leb b i (omega arith), lt-leb a i (omega arith)) (≤ℤ_refl (pos 0))

    pub half-warmer : (n : ℕ) → half_level w v n ≤ half_level w u n
    half-warmer n =
        first-earlier _ _ n (λ i e. le-le_z (≤_trans (le_z-le (total w) (pos 2 *ℤ weight_to w u i) e) (mul-mono-l (pos 2) (litℤ≤ tt) (weight-warmer i))))

-- ---- frames that are alike
-- in all but the levels of their readings, inside the picture
pub record AlikeFrames (p q : Frame) : Type 0 where
  pub settings : q.set ≡ p.set
  pub guides : (x y : ℕ) → x < p.set.width → y < p.set.height → guide q x y ≡ guide p x y
  pub tables : (f g : ℕ) → f < p.set.guides → g < p.set.guides → table q f g ≡ table p f g
  pub dead : (x y : ℕ) → x < p.set.width → y < p.set.height → dead q x y ≡ dead p x y

-- a number of the window's columns or rows is one of the picture's
in-picture : (r c size k : ℕ) → c - r ≤ k → k < c - r + span r c size → k < size
unfolding span
in-picture r c size k a b = omega arith

-- their windows have the same pixels
module _ {A : Type 0} (◌⊕◌ : A → A → A) (z : A) (laws : AdditionLaws ◌⊕◌ z) {p q : Frame} (a : AlikeFrames p q) (s t : ℕ) where
  pub alike-over : (f g : ℕ → ℕ → A) → ((x y : ℕ) → InWindow p s t x y → f x y ≡ g x y) → over ◌⊕◌ z q s t f ≡ over ◌⊕◌ z p s t g
  unfolding over fold_rect live
  alike-over f g h =
      ap
      (λ (k : Settings). fold_rect ◌⊕◌ z (live z q f) (s - k.radius) (span k.radius s k.width) (t - k.radius) (span k.radius t k.height))
      a.settings
      ∙ fold_same ◌⊕◌ z laws _ _ _ _
      (λ x b c. fold_same ◌⊕◌ z laws _ _ _ _
      (λ y d e. go x y (a.dead x y (in-picture _ _ _ _ b c) (in-picture _ _ _ _ d e)) (dead p x y) refl
      (λ r. h x y (in_window p s t x y b c d e r))))
    where
      go : (x y : ℕ) → dead q x y ≡ dead p x y → (b : Bool) → dead p x y ≡ b → (dead p x y ≡ false → f x y ≡ g x y)
          → (if dead q x y then z else f x y) ≡ (if dead p x y then z else g x y)
      go x y e true r k = rw (e, r) refl
      go x y e false r k = rw (e, r) (k r)

module _ {p q : Frame} (a : AlikeFrames p q) (s t : ℕ) where
  pub alike-count : pixel_count q s t ≡ pixel_count p s t
  unfolding pixel_count
  alike-count = alike-over ◌+◌ 0 nat_sums a s t _ _ (λ x y h. refl)

  pub alike-empty : empty q s t ≡ empty p s t
  unfolding empty
  alike-empty = ap (λ (n : ℕ). eqb n 0) alike-count

  pub alike-guides : guide_sum q s t ≡ guide_sum p s t
  unfolding guide_sum
  alike-guides = alike-over ◌+◌ 0 nat_sums a s t _ _ (λ x y h. a.guides x y h.wide h.high)

  pub alike-squares : square_sum q s t ≡ square_sum p s t
  unfolding square_sum
  alike-squares = alike-over ◌+◌ 0 nat_sums a s t _ _ (λ x y h. ap (λ (n : ℕ). n * n) (a.guides x y h.wide h.high))

-- they weigh alike
module _ {p q : Frame} {s t : ℕ} (k : Pixel p s t) (a : AlikeFrames p q) where
  pub alike-own : (g : ℕ) → g < p.set.guides → own_weight q s t g ≡ own_weight p s t g
  unfolding own_weight
  alike-own g h =
      let kinds : q.set.kind ≡ p.set.kind = ap (λ (c : Settings). c.kind) a.settings in
      let smooth : q.set.smoothing ≡ p.set.smoothing = ap (λ (c : Settings). c.smoothing) a.settings in
      let centre : guide q s t ≡ guide p s t = a.guides s t k.in-column k.in-row in
      let own : table q (guide p s t) g ≡ table p (guide p s t) g = a.tables (guide p s t) g (k.good.guide-low s t k.in-column k.in-row) h in
      rw (alike-count a s t, alike-guides a s t, alike-squares a s t, centre, own, kinds, smooth) refl

  pub own-pixel : (x y : ℕ) → InWindow p s t x y → own_weight q s t (guide q x y) ≡ own_weight p s t (guide p x y)
  own-pixel x y h = rw (a.guides x y h.wide h.high) (alike-own (guide p x y) (k.good.guide-low x y h.wide h.high))

  pub alike-own-total : own_total q s t ≡ own_total p s t
  unfolding own_total
  alike-own-total = alike-over ◌+ℤ◌ (pos 0) int_sums a s t _ _ own-pixel

  pub alike-weightless : weightless q s t ≡ weightless p s t
  unfolding weightless
  alike-weightless = rw (alike-empty a s t, alike-own-total) refl

  pub alike-weight : (g : ℕ) → g < p.set.guides → weight q s t g ≡ weight p s t g
  unfolding weight
  alike-weight g h = rw (alike-weightless, alike-own g h) refl

  weight-pixel : (x y : ℕ) → InWindow p s t x y → weight q s t (guide q x y) ≡ weight p s t (guide p x y)
  weight-pixel x y h = rw (a.guides x y h.wide h.high) (alike-weight (guide p x y) (k.good.guide-low x y h.wide h.high))

  pub alike-total : total_weight q s t ≡ total_weight p s t
  unfolding total_weight
  alike-total = alike-over ◌+ℤ◌ (pos 0) int_sums a s t _ _ weight-pixel

  alike-cumulative : (i : ℕ) → cumulative q s t i ≡ Σℤ p s t (λ x y. if leb (level q x y) i then weight p s t (guide p x y) else pos 0)
  unfolding cumulative
  alike-cumulative i =
      alike-over ◌+ℤ◌ (pos 0) int_sums a s t _ _ (λ x y h. ap (λ (w : ℤ). if leb (level q x y) i then w else pos 0) (weight-pixel x y h))

  -- both medians by the weights of the first
  alike-median : median q s t
      ≡ half_level (Σℤ p s t) (InWindow p s t) (over-mono p s t) (λ x y. weight p s t (guide p x y)) (level q) p.set.levels
  unfolding median total_weight
  alike-median =
      ap₂ first (fun_ext (λ i. ap₂ le_z alike-total (ap (λ (u : ℤ). pos 2 *ℤ u) (alike-cumulative i))))
      (ap (λ (c : Settings). c.levels) a.settings)

  -- no own weight is negative in the one where none is in the other
  pub alike-none : NoneNegative p s t → NoneNegative q s t
  alike-none light x y h = subst (λ (z : ℤ). pos 0 ≤ℤ z) (sym (own-pixel x y inside)) (light x y inside)
    where
      radii : q.set.radius ≡ p.set.radius
      radii = ap (λ (c : Settings). c.radius) a.settings

      wide : x < p.set.width
      wide = subst (λ (c : Settings). x < c.width) a.settings h.wide

      high : y < p.set.height
      high = subst (λ (c : Settings). y < c.height) a.settings h.high

      inside : InWindow p s t x y
      inside =
          record {
            left = omega (arith, radii, h.left);
            right = omega (arith, radii, h.right);
            wide = wide;
            top = omega (arith, radii, h.top);
            bottom = omega (arith, radii, h.bottom);
            high = high;
            read = sym (a.dead x y wide high) ∙ h.read;
          }

own-median : (p : Frame) (s t : ℕ)
    → median p s t ≡ half_level (Σℤ p s t) (InWindow p s t) (over-mono p s t) (λ x y. weight p s t (guide p x y)) (level p) p.set.levels
unfolding median total_weight cumulative
own-median p s t = refl

-- ---- warmer in, never colder out
pub record Warmer (p q : Frame) : Type 0 where
  pub alike : AlikeFrames p q
  pub levels : (x y : ℕ) → x < p.set.width → y < p.set.height → level p x y ≤ level q x y

-- the weights that are counted with are not negative either: a hollow window's are 1
counted-light : (p : Frame) (s t : ℕ) → NoneNegative p s t → (x y : ℕ) → InWindow p s t x y → pos 0 ≤ℤ weight p s t (guide p x y)
counted-light p s t light x y h = go (weightless p s t) refl
  where
    go : (b : Bool) → weightless p s t ≡ b → pos 0 ≤ℤ weight p s t (guide p x y)
    go true e = subst (λ (z : ℤ). pos 0 ≤ℤ z) (sym (weight-one p s t (guide p x y) e)) 0≤pos
    go false e = subst (λ (z : ℤ). pos 0 ≤ℤ z) (sym (weight-own p s t (guide p x y) e)) (light x y h)

pub warmer-median : {p q : Frame} {s t : ℕ} → Pixel p s t → Warmer p q → NoneNegative p s t → median p s t ≤ median q s t
warmer-median {p} {q} {s} {t} k h light =
    let w : ℕ → ℕ → ℤ = λ x y. weight p s t (guide p x y) in
    let low : half_level (Σℤ p s t) (InWindow p s t) (over-mono p s t) w (level p) p.set.levels
    ≤ half_level (Σℤ p s t) (InWindow p s t) (over-mono p s t) w (level q) p.set.levels =
    half-warmer (Σℤ p s t) (InWindow p s t) (over-mono p s t) w (level p) (level q) (counted-light p s t light)
    (λ x y i. h.levels x y i.wide i.high) p.set.levels in
    omega (arith, own-median p s t, alike-median k h.alike, low)

-- of any window, hollow or without a reading too
pub warmer-answer : {p q : Frame} {s t : ℕ} → Pixel p s t → Warmer p q → NoneNegative p s t → answer p s t ≤ answer q s t
unfolding answer
warmer-answer {p} {q} {s} {t} k h light = rw (alike-empty h.alike s t) (go (empty p s t))
  where
    go : (b : Bool) → (if b then no_reading else median p s t) ≤ (if b then no_reading else median q s t)
    go true = le_refl no_reading
    go false = warmer-median k h light

-- ---- alike, and with the same levels in the picture: the same answers
module _ {p q : Frame} {s t : ℕ} (k : Pixel p s t) (a : AlikeFrames p q)
    (same : (x y : ℕ) → x < p.set.width → y < p.set.height → level q x y ≡ level p x y) where
  pub same-median : median q s t ≡ median p s t
  same-median =
      alike-median k a
      ∙ ap (λ (test : ℕ → Bool). first test p.set.levels)
      (fun_ext (λ i. ap (λ (u : ℤ). le_z (Σℤ p s t (λ x y. weight p s t (guide p x y))) (pos 2 *ℤ u))
      (over-in_window ◌+ℤ◌ (pos 0) int_sums p s t _ _
      (λ x y h. ap (λ (n : ℕ). if leb n i then weight p s t (guide p x y) else pos 0) (same x y h.wide h.high)))))
      ∙ sym (own-median p s t)

  pub same_answer : answer q s t ≡ answer p s t
  unfolding answer
  same_answer = rw (alike-empty a s t, same-median) refl
