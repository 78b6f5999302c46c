-- The weight of a level; U goes up by it, level by level, to T; and it is a sum by guides, or, in kind 2, of the level's count and guide sum.
-- Assumes nothing.
use mathlib.Core.Path.{◌≡◌, refl, sym, ap, ap₂, ◌∙◌, fun_ext}
use mathlib.Core.Bool.{Bool, true, false, ◌&&◌}
use Prim.Native.Nat.{ℕ, zero, suc, ◌-◌, ◌*◌, ◌≤◌, ◌<◌}
use native.Mathlib.Omega.{arith}
use native.Mathlib.Decide.{dec_le, ℕ_discrete}
use lib.Dec.{leb, eqb}
use lib.ListN.{get_or}
use lib.IntN.{ℤ, pos, negsuc, ◌+ℤ◌, ◌-ℤ◌, ◌*ℤ◌, +ℤ_idl, +ℤ_idr, zero-*ℤ, *ℤ-zero, suc_ℤ-*ℤ, *ℤ_comm}
use borrow.Author.Tests.{eq-eqb, ne_eqb, le-leb, lt-leb}
use Rattle.ints.specs.Ring.{mul-one}
use Rattle.ints.specs.Polynomial.{◌⊕◌, ◌⊖◌, ◌⊗◌, opposite, #◌, ◌≐◌, solve1, solve6}
use Rattle.std.specs.Prelude.{if◌then◌else◌}
use Rattle.spec.specs.Base.{sum, sumℤ}
use Rattle.spec.specs.declared.Settings.{Settings}
use Rattle.spec.specs.Frame.{Frame, level, guide}
use Rattle.spec.specs.Window.{Σℤ, count, InWindow}
use Rattle.spec.specs.Weight.{weight, slope, offset}
use Rattle.spec.specs.Median.{total_weight, cumulative, balance}
use Rattle.spec.specs.Joint.{balance_box_at}
use Rattle.spec.specs.Window.{level_sum}
use Rattle.spec.proofs.Ranges.{AdditionLaws, fold_same, int_sums}
use Rattle.spec.proofs.Histogram.{times, pick-inner, fold-pick, over-fold, over-count}
use Rattle.spec.proofs.First.{get_d_tabulate}
use Rattle.spec.proofs.Sums.{sum-none, sum-suc, over-in_window, over_add, over-scale, over-pos}
use Rattle.spec.specs.Checks.{SettingsLimits}
use Rattle.spec.proofs.Limits.{FrameLimits, Pixel}
use Rattle.spec.proofs.Own.{weight-linear}

-- the weight of level i in the window at (s, t)
unfoldable pub level_weight : Frame → ℕ → ℕ → ℕ → ℤ
level_weight p s t i = Σℤ p s t (λ x y. if eqb (level p x y) i then weight p s t (guide p x y) else pos 0)

-- ---- U from level to level
split_level : (v i : ℕ) (w : ℤ) → (if leb v (suc i) then w else pos 0) ≡ (if leb v i then w else pos 0) +ℤ (if eqb v (suc i) then w else pos 0)
split_level v i w = go (dec_le v i) (ℕ_discrete v (suc i))
  where
    go : Dec (v ≤ i) → Dec (v ≡ suc i) → (if leb v (suc i) then w else pos 0) ≡ (if leb v i then w else pos 0) +ℤ (if eqb v (suc i) then w else pos 0)
    go (yes a) d = rw (le-leb v (suc i) (omega arith), le-leb v i a, ne_eqb v (suc i) (λ e. omega arith)) (sym (+ℤ_idr w))
    go (no a) (yes e) = rw (le-leb v (suc i) (omega arith), lt-leb v i (omega arith), eq-eqb v (suc i) e) (sym (+ℤ_idl w))
    go (no a) (no e) = rw (lt-leb v (suc i) (omega arith), lt-leb v i (omega arith), ne_eqb v (suc i) e) refl

first-level : (v : ℕ) (w : ℤ) → (if leb v 0 then w else pos 0) ≡ (if eqb v 0 then w else pos 0)
first-level v w = go (ℕ_discrete v 0)
  where
    go : Dec (v ≡ 0) → (if leb v 0 then w else pos 0) ≡ (if eqb v 0 then w else pos 0)
    go (yes e) = rw (le-leb v 0 (omega arith), eq-eqb v 0 e) refl
    go (no e) = rw (lt-leb v 0 (omega arith), ne_eqb v 0 e) refl

module _ (p : Frame) (s t : ℕ) where
  pub cumulative-zero : cumulative p s t 0 ≡ level_weight p s t 0
  unfolding cumulative level_weight
  cumulative-zero = over-in_window ◌+ℤ◌ (pos 0) int_sums p s t _ _ (λ x y h. first-level (level p x y) (weight p s t (guide p x y)))

  pub cumulative-next : (i : ℕ) → cumulative p s t (suc i) ≡ cumulative p s t i +ℤ level_weight p s t (suc i)
  unfolding cumulative level_weight
  cumulative-next i =
      over-in_window ◌+ℤ◌ (pos 0) int_sums p s t _ _ (λ x y h. split_level (level p x y) i (weight p s t (guide p x y)))
      ∙ over_add p s t (λ x y. if leb (level p x y) i then weight p s t (guide p x y) else pos 0)
      (λ x y. if eqb (level p x y) (suc i) then weight p s t (guide p x y) else pos 0)

  -- where every level is at most i
  pub cumulative-all : (i : ℕ) → ((x y : ℕ) → InWindow p s t x y → level p x y ≤ i) → cumulative p s t i ≡ total_weight p s t
  unfolding cumulative total_weight
  cumulative-all i h = over-in_window ◌+ℤ◌ (pos 0) int_sums p s t _ _ (λ x y k. rw (le-leb (level p x y) i (h x y k)) refl)

pub cumulative-last : {p : Frame} {s t : ℕ} → Pixel p s t → cumulative p s t (p.set.levels - 1) ≡ total_weight p s t
cumulative-last {p} {s} {t} k =
    cumulative-all p s t (p.set.levels - 1) (λ x y h. omega (arith, k.good.level-low x y h.wide h.high h.read))

-- ---- by guides: the joint way
pub times-is : (n : ℕ) (x : ℤ) → times ◌+ℤ◌ (pos 0) n x ≡ pos n *ℤ x
unfolding times
times-is zero x = sym (zero-*ℤ x)
times-is (suc n) x = ap (λ (q : ℤ). q +ℤ x) (times-is n x) ∙ sym (suc_ℤ-*ℤ (pos n) x)

pub level-joint : {p : Frame} {s t : ℕ} → Pixel p s t → (i : ℕ)
    → level_weight p s t i ≡ sumℤ (λ f. pos (count p s t i f) *ℤ weight p s t f) 0 p.set.guides
unfolding level_weight
level-joint {p} {s} {t} k i =
    over-in_window ◌+ℤ◌ (pos 0) int_sums p s t _ _
    (λ x y h. sym
    (pick-inner ◌+ℤ◌ (pos 0) int_sums (weight p s t) (eqb (level p x y) i) (guide p x y) p.set.guides
    (k.good.guide-low x y h.wide h.high)))
    ∙ over-fold ◌+ℤ◌ (pos 0) int_sums p s t (λ f x y. if eqb (level p x y) i && eqb (guide p x y) f then weight p s t f else pos 0) p.set.guides
    ∙ ap (λ (q : ℕ → ℤ). sumℤ q 0 p.set.guides)
    (fun_ext (λ f. over-count ◌+ℤ◌ (pos 0) int_sums p s t i f (weight p s t f) ∙ times-is (count p s t i f) (weight p s t f)))

-- ---- kind 2: by the level's count and guide sum
linear-part : (b : Bool) (c d w : ℤ) (g : ℕ) → w ≡ c *ℤ pos g +ℤ d
    → (if b then w else pos 0) ≡ c *ℤ pos (if b then g else 0) +ℤ d *ℤ pos (if b then 1 else 0)
linear-part true c d w g e = e ∙ ap (λ (q : ℤ). c *ℤ pos g +ℤ q) (sym (mul-one d))
linear-part false c d w g e = sym (ap₂ (λ (x y : ℤ). x +ℤ y) (*ℤ-zero c) (*ℤ-zero d))

pub level-linear : {p : Frame} {s t : ℕ} → Pixel p s t → (i : ℕ) → p.set.kind ≡ 2
    → level_weight p s t i ≡ slope p s t *ℤ pos (level_sum p s t (guide p) i) +ℤ offset p s t *ℤ pos (level_sum p s t (λ x y. 1) i)
unfolding level_weight level_sum
level-linear {p} {s} {t} k i e =
    over-in_window ◌+ℤ◌ (pos 0) int_sums p s t _ _
    (λ x y h. linear-part (eqb (level p x y) i) (slope p s t) (offset p s t) (weight p s t (guide p x y)) (guide p x y)
    (weight-linear k (guide p x y) e))
    ∙ over_add p s t (λ x y. slope p s t *ℤ pos (if eqb (level p x y) i then guide p x y else 0))
    (λ x y. offset p s t *ℤ pos (if eqb (level p x y) i then 1 else 0))
    ∙ ap₂ (λ (x y : ℤ). x +ℤ y)
    (over-scale p s t (slope p s t) (λ x y. pos (if eqb (level p x y) i then guide p x y else 0)) ∙ ap (λ (q : ℤ). slope p s t *ℤ q)
    (over-pos p s t (λ x y. if eqb (level p x y) i then guide p x y else 0)))
    (over-scale p s t (offset p s t) (λ x y. pos (if eqb (level p x y) i then 1 else 0)) ∙ ap (λ (q : ℤ). offset p s t *ℤ q)
    (over-pos p s t (λ x y. if eqb (level p x y) i then 1 else 0)))

-- so the cumulative weight is linear in the levels' guide sums and counts
module _ {p : Frame} {s t : ℕ} (k : Pixel p s t) (two : p.set.kind ≡ 2) where
  abbrev sums : ℕ → ℕ
  sums = level_sum p s t (guide p)

  abbrev counts : ℕ → ℕ
  counts = level_sum p s t (λ x y. 1)

  pub cumulative-linear : (i : ℕ) → cumulative p s t i ≡ slope p s t *ℤ pos (sum sums 0 (suc i)) +ℤ offset p s t *ℤ pos (sum counts 0 (suc i))
  cumulative-linear zero =
      let g : sums 0 ≡ sum sums 0 1 = omega (arith, sum-suc sums 0, sum-none sums) in
      let f : counts 0 ≡ sum counts 0 1 = omega (arith, sum-suc counts 0, sum-none counts) in
      cumulative-zero p s t ∙ level-linear k 0 two ∙ ap₂ (λ (x y : ℕ). slope p s t *ℤ pos x +ℤ offset p s t *ℤ pos y) g f
  cumulative-linear (suc i) =
      cumulative-next p s t i ∙ ap₂ ◌+ℤ◌ (cumulative-linear i) (level-linear k (suc i) two)
      ∙ solve6 (λ c d g f x y. (c ⊗ g ⊕ d ⊗ f) ⊕ (c ⊗ x ⊕ d ⊗ y) ≐ c ⊗ (g ⊕ x) ⊕ d ⊗ (f ⊕ y)) refl (slope p s t) (offset p s t)
      (pos (sum sums 0 (suc i))) (pos (sum counts 0 (suc i))) (pos (sums (suc i))) (pos (counts (suc i)))
      ∙ sym (ap₂ (λ (x y : ℕ). slope p s t *ℤ pos x +ℤ offset p s t *ℤ pos y) (sum-suc sums (suc i)) (sum-suc counts (suc i)))

-- ---- the balance by the box
-- cell f of the box at the cut c
unfoldable pub cell : Frame → ℕ → ℕ → ℕ → ℕ → ℤ
cell p s t c f = Σℤ p s t (λ x y. if eqb (guide p x y) f then (if leb (level p x y) c then pos 1 else negsuc 0) else pos 0)

pub box-cell : (p : Frame) (s t c f : ℕ) → f < 256 → get_or (balance_box_at p s t c) f (pos 0) ≡ cell p s t c f
unfolding balance_box_at cell
box-cell p s t c f h = get_d_tabulate 256 _ f (pos 0) h

-- the balance is the sum of the window's weights, those at the cut or below taken up and those above taken off
signed : (b : Bool) (w : ℤ) → pos 2 *ℤ (if b then w else pos 0) -ℤ w ≡ (if b then pos 1 else negsuc 0) *ℤ w
signed true w = solve1 (λ x. # 2 ⊗ x ⊖ x ≐ # 1 ⊗ x) refl w
signed false w = solve1 (λ x. # 2 ⊗ # 0 ⊖ x ≐ opposite (# 1) ⊗ x) refl w

pub balance-signed : (p : Frame) (s t c : ℕ)
    → balance p s t c ≡ Σℤ p s t (λ x y. (if leb (level p x y) c then pos 1 else negsuc 0) *ℤ weight p s t (guide p x y))
unfolding balance cumulative total_weight
balance-signed p s t c =
    ap₂ (λ (a b : ℤ). a +ℤ b) (sym (over-scale p s t (pos 2) (λ x y. if leb (level p x y) c then weight p s t (guide p x y) else pos 0)))
    (solve1 (λ a. opposite a ≐ opposite (# 1) ⊗ a) refl (Σℤ p s t (λ x y. weight p s t (guide p x y))) ∙ sym
    (over-scale p s t (negsuc 0) (λ x y. weight p s t (guide p x y))))
    ∙ sym
    (over_add p s t (λ x y. pos 2 *ℤ (if leb (level p x y) c then weight p s t (guide p x y) else pos 0))
    (λ x y. negsuc 0 *ℤ weight p s t (guide p x y)))
    ∙ over-in_window ◌+ℤ◌ (pos 0) int_sums p s t _ _
    (λ x y h. ap (λ (q : ℤ). pos 2 *ℤ (if leb (level p x y) c then weight p s t (guide p x y) else pos 0) +ℤ q)
    (solve1 (λ a. opposite (# 1) ⊗ a ≐ opposite a) refl (weight p s t (guide p x y)))
    ∙ signed (leb (level p x y) c) (weight p s t (guide p x y)))

pull : (b : Bool) (u w : ℤ) → (if b then u *ℤ w else pos 0) ≡ w *ℤ (if b then u else pos 0)
pull true u w = *ℤ_comm u w
pull false u w = sym (*ℤ-zero w)

-- over n guide indices, if each guide is below n: M of them, or the box's 256
pub balance-box : (p : Frame) (s t c n : ℕ) → ((x y : ℕ) → InWindow p s t x y → guide p x y < n)
    → balance p s t c ≡ sumℤ (λ f. cell p s t c f *ℤ weight p s t f) 0 n
unfolding cell
balance-box p s t c n k =
    balance-signed p s t c
    ∙ over-in_window ◌+ℤ◌ (pos 0) int_sums p s t _ _
    (λ x y h. sym
    (fold-pick ◌+ℤ◌ (pos 0) int_sums (λ f. (if leb (level p x y) c then pos 1 else negsuc 0) *ℤ weight p s t f) (guide p x y) n (k x y h)))
    ∙ over-fold ◌+ℤ◌ (pos 0) int_sums p s t
    (λ f x y. if eqb (guide p x y) f then (if leb (level p x y) c then pos 1 else negsuc 0) *ℤ weight p s t f else pos 0) n
    ∙ ap (λ (q : ℕ → ℤ). sumℤ q 0 n)
    (fun_ext
    (λ f. over-in_window ◌+ℤ◌ (pos 0) int_sums p s t _ _
    (λ x y h. pull (eqb (guide p x y) f) (if leb (level p x y) c then pos 1 else negsuc 0) (weight p s t f))
    ∙ over-scale p s t (weight p s t f) (λ x y. if eqb (guide p x y) f then (if leb (level p x y) c then pos 1 else negsuc 0) else pos 0)
    ∙ *ℤ_comm (weight p s t f) (cell p s t c f)))

-- for readers: the box carries the balance at its cut point, by its own list of 256 cells
pub balance-list : {p : Frame} {s t : ℕ} → Pixel p s t → (c n : ℕ) → p.set.guides ≤ n → n ≤ 256
    → balance p s t c ≡ sumℤ (λ f. get_or (balance_box_at p s t c) f (pos 0) *ℤ weight p s t f) 0 n
balance-list {p} {s} {t} k c n h l =
    balance-box p s t c n (λ x y q. omega (arith, k.good.guide-low x y q.wide q.high))
    ∙ fold_same ◌+ℤ◌ (pos 0) int_sums _ _ 0 n (λ f a b. ap (λ (q : ℤ). q *ℤ weight p s t f) (sym (box-cell p s t c f (omega arith))))
