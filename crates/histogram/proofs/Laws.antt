-- Laws of the histogram: a pixel's share, a pixel more or less, and what its places hold for a window.
-- Assumes nothing.
use mathlib.Core.Path.{◌≡◌, refl, sym, ap, ◌∙◌}
use mathlib.Core.Logic.{⊎_elim}
use mathlib.Core.Bool.{Bool, true, false}
use mathlib.Core.List.{List}
use Prim.Native.Nat.{ℕ, ◌+◌, ◌-◌, ◌≤◌, ◌<◌}
use native.Mathlib.Omega.{arith}
use lib.Dec.{eqb, ltb}
use lib.ListN.{length, get_or, set, length-set}
use lib.Seq.{get_or-set_same, get_or-set_other}
use borrow.Author.Tests.{eq-eqb, ne_eqb, lt-ltb, le-ltb}
use Rattle.ints.specs.Order.{eq-or-ne}
use Rattle.spec.specs.declared.Plan.{Plan}
use Rattle.std.specs.Prelude.{if◌then◌else◌}
use Rattle.spec.specs.Frame.{Frame, level, guide, frame_with}
use Rattle.spec.specs.Checks.{Pictured}
use Rattle.spec.specs.Window.{Σ, level_sum}
use Rattle.spec.proofs.Plans.{facts, pixel-of}
use Rattle.spec.proofs.Bounds.{over-high}
use Rattle.pixels.specs.Additive.{changed, Fits}
use Rattle.pixels.proofs.AdditiveLaws.{changed-none}
use Rattle.histogram.specs.Histogram.{share, Changed, Histogram}

-- ---- a pixel's share
module _ (l i f : ℕ) where
  pub share-count : (k : ℕ) → k < l → share l k i f ≡ (if eqb i k then 1 else 0)
  unfolding share
  share-count k h = rw (lt-ltb k l h) refl

  pub share-sum : (j : ℕ) → share l (l + j) i f ≡ (if eqb i j then f else 0)
  unfolding share
  share-sum j =
      let e : l + j - l ≡ j = omega arith in
      rw (le-ltb (l + j) l (omega arith), e) refl

  pub share-le : (k : ℕ) → share l k i f ≤ 1 + f
  unfolding share
  share-le k = go (ltb k l) (eqb i k) (eqb i (k - l))
    where
      go : (p q r : Bool) → (if p then (if q then 1 else 0) else (if r then f else 0)) ≤ 1 + f
      go true true r = omega arith
      go true false r = omega arith
      go false q true = omega arith
      go false q false = omega arith

  module _ (hi : i < l) where
    pub own-count : share l i i f ≡ 1
    own-count = share-count i hi ∙ rw (eq-eqb i i refl) refl

    pub own-sum : share l (l + i) i f ≡ f
    own-sum = share-sum i ∙ rw (eq-eqb i i refl) refl

    no-share : (k : ℕ) → (k ≡ i → ⊥) → (k ≡ l + i → ⊥) → share l k i f ≡ 0
    unfolding share
    no-share k n m = go (ltb k l) refl
      where
        go : (p : Bool) → ltb k l ≡ p → (if p then (if eqb i k then 1 else 0) else (if eqb i (k - l) then f else 0)) ≡ 0
        go true e = rw (ne_eqb i k (λ q. n (sym q))) refl
        go false e =
            let h : l ≤ k = borrow.Author.Tests.ltb-false k l e in
            rw (ne_eqb i (k - l) (λ q. m (omega arith))) refl

-- ---- a pixel
module _ (w : Bool) (l i f : ℕ) (xs : List ℕ) (hi : i < l) (long : l + l ≤ length xs) where
  apart : l + i ≡ i → ⊥
  apart e = omega arith

  abbrev v : ℕ
  v = changed w (get_or xs i 0) 1

  pub sum-asks : Fits 4294967296 w (get_or xs (l + i) 0) f → (l + i < length (set xs i v)) × (Fits 4294967296 w (get_or (set xs i v) (l + i) 0) f)
  sum-asks h = (rw (length-set xs i v) (omega arith), rw (get_or-set_other xs i (l + i) v 0 apart) h)

  pub pixel-changed : Changed w l i f xs (set (set xs i v) (l + i) (changed w (get_or (set xs i v) (l + i) 0) f))
  pixel-changed = record { long = length-set (set xs i v) (l + i) _ ∙ length-set xs i v; cells = each }
    where
      u : ℕ
      u = changed w (get_or (set xs i v) (l + i) 0) f

      ys : List ℕ
      ys = set (set xs i v) (l + i) u

      at_count : get_or ys i 0 ≡ changed w (get_or xs i 0) (share l i i f)
      at_count =
          get_or-set_other (set xs i v) (l + i) i u 0 (λ e. apart (sym e)) ∙ get_or-set_same xs i v 0 (omega arith) ∙ ap (changed w (get_or xs i 0))
          (sym (own-count l i f hi))

      at_sum : get_or ys (l + i) 0 ≡ changed w (get_or xs (l + i) 0) (share l (l + i) i f)
      at_sum =
          get_or-set_same (set xs i v) (l + i) u 0 (rw (length-set xs i v) (omega arith)) ∙ ap (λ (q : ℕ). changed w q f)
          (get_or-set_other xs i (l + i) v 0 apart)
          ∙ ap (changed w (get_or xs (l + i) 0)) (sym (own-sum l i f hi))

      each : (k : ℕ) → get_or ys k 0 ≡ changed w (get_or xs k 0) (share l k i f)
      each k = ⊎_elim (λ e. rw e at_count) (λ n. ⊎_elim (λ e. rw e at_sum) (other n) (eq-or-ne k (l + i))) (eq-or-ne k i)
        where
          other : (k ≡ i → ⊥) → (k ≡ l + i → ⊥) → get_or ys k 0 ≡ changed w (get_or xs k 0) (share l k i f)
          other n m =
              get_or-set_other (set xs i v) (l + i) k u 0 m ∙ get_or-set_other xs i k v 0 n ∙ sym
              (ap (changed w (get_or xs k 0)) (no-share l i f hi k n m) ∙ changed-none w (get_or xs k 0))

-- ---- the window's numbers
module _ {b vs : List ℕ} {z : Plan} (pl : Pictured b vs z) where
  abbrev L : ℕ
  L = z.levels

  pub levels-same : L ≡ (frame_with b vs).set.levels
  levels-same = (facts pl).levels

  -- the window's number at a place
  abbrev held : ℕ → ℕ → ℕ → ℕ
  held s t q = Σ (frame_with b vs) s t (λ x y. share L q (level (frame_with b vs) x y) (guide (frame_with b vs) x y))

  pub place_of : {s t : ℕ} {xs : List ℕ} → Histogram (frame_with b vs) s t xs → (q : ℕ) → q < L + L → get_or xs q 0 ≡ held s t q
  place_of {s} {t} v q l =
      v.cells q (rw levels-same at l) ∙ ap (λ (m : ℕ). Σ (frame_with b vs) s t
      (λ x y. share m q (level (frame_with b vs) x y) (guide (frame_with b vs) x y)))
      (sym levels-same)

  pub histogram-of : {s t : ℕ} {xs : List ℕ} → L + L ≤ length xs → ((q : ℕ) → q < L + L → get_or xs q 0 ≡ held s t q)
      → Histogram (frame_with b vs) s t xs
  histogram-of {s} {t} long e = record {
    long = rw levels-same at long;
    cells =
        λ q l. e q (rw levels-same l) ∙ ap (λ (m : ℕ). Σ (frame_with b vs) s t
        (λ x y. share m q (level (frame_with b vs) x y) (guide (frame_with b vs) x y)))
        levels-same;
  }

  pub held_high : {s t : ℕ} → s < z.width → t < z.height → (q : ℕ) → held s t q ≤ 246016
  held_high hs ht q =
      let k = pixel-of pl hs ht in
      over-high k _ 256
      (λ x y w. omega (
        arith,
        share-le L (level (frame_with b vs) x y) (guide (frame_with b vs) x y) q,
        k.good.guide-low x y w.wide w.high,
        k.good.sound.guides_high,
      ))

-- ---- what the places hold: the window's counts and guide sums, level by level
module _ {p : Frame} {s t : ℕ} {xs : List ℕ} (v : Histogram p s t xs) (i : ℕ) (h : i < p.set.levels) where
  pub count_at : get_or xs i 0 ≡ level_sum p s t (λ x y. 1) i
  unfolding level_sum
  count_at = v.cells i (omega arith) ∙ ap (Σ p s t) (λ j x y. share-count p.set.levels (level p x y) (guide p x y) i h j)

  pub sum-at : get_or xs (p.set.levels + i) 0 ≡ level_sum p s t (guide p) i
  unfolding level_sum
  sum-at = v.cells (p.set.levels + i) (omega arith) ∙ ap (Σ p s t) (λ j x y. share-sum p.set.levels (level p x y) (guide p x y) i j)
