-- A sum over the window is a sum over its joint counts: of F at each level and guide, as many times as the window has pixels of the two.
-- Assumes nothing.
use mathlib.Core.Path.{◌≡◌, refl, sym, ap, ap₂, ◌∙◌, fun_ext}
use mathlib.Core.Bool.{Bool, true, false, ◌&&◌}
use Prim.Native.Nat.{ℕ, zero, suc, ◌+◌, ◌-◌, ◌≤◌, ◌<◌}
use native.Mathlib.Nat.{add-zero, add-suc}
use native.Mathlib.Omega.{arith}
use native.Mathlib.Decide.{ℕ_discrete}
use lib.Dec.{eqb}
use borrow.Author.Tests.{eq-eqb, ne_eqb}
use Rattle.std.specs.Prelude.{if◌then◌else◌}
use Rattle.spec.specs.Base.{indicator, fold, fold_rect}
use Rattle.spec.specs.Frame.{Frame, level, guide, dead}
use Rattle.spec.specs.Window.{live, span, over, count, in_cell}
use Rattle.spec.proofs.Ranges.{AdditionLaws, fold-none, fold_same, fold_rect-turn}

module _ {A : Type 0} (◌⊕◌ : A → A → A) (z : A) where
  infixl 6 ◌⊕◌
  -- n times x
  unfoldable pub times : ℕ → A → A
  times zero x = z
  times (suc n) x = times n x ⊕ x

module _ {A : Type 0} (◌⊕◌ : A → A → A) (z : A) (laws : AdditionLaws ◌⊕◌ z) where
  infixl 6 ◌⊕◌
  pub times-add : (m n : ℕ) (x : A) → times ◌⊕◌ z (m + n) x ≡ times ◌⊕◌ z m x ⊕ times ◌⊕◌ z n x
  unfolding times
  times-add m zero x = ap (λ (k : ℕ). times ◌⊕◌ z k x) (add-zero m) ∙ sym (laws.idr _)
  times-add m (suc n) x =
      ap (λ (k : ℕ). times ◌⊕◌ z k x) (add-suc m n) ∙ ap (λ (q : A). q ⊕ x) (times-add m n x) ∙ laws.assoc _ _ _

  pub times-fold : (g : ℕ → ℕ) (c : A) (a n : ℕ) → fold ◌⊕◌ z (λ k. times ◌⊕◌ z (g k) c) a n ≡ times ◌⊕◌ z (fold ◌+◌ 0 g a n) c
  unfolding fold times
  times-fold g c a zero = refl
  times-fold g c a (suc n) =
      ap (λ (q : A). q ⊕ times ◌⊕◌ z (g (a + n)) c) (times-fold g c a n) ∙ sym (times-add (fold ◌+◌ 0 g a n) (g (a + n)) c)

  pub times-one : (b : Bool) (c : A) → (if b then c else z) ≡ times ◌⊕◌ z (indicator b) c
  unfolding times
  times-one true c = sym (laws.idl c)
  times-one false c = refl

  -- the sum over the places below n that picks out v
  pick-none : (F : ℕ → A) (v n : ℕ) → n ≤ v → fold ◌⊕◌ z (λ i. if eqb v i then F i else z) 0 n ≡ z
  unfolding fold
  pick-none F v zero h = refl
  pick-none F v (suc n) h =
      rw (ne_eqb v (0 + n) (λ e. omega arith)) (laws.idr _ ∙ pick-none F v n (omega arith))

  pub fold-pick : (F : ℕ → A) (v n : ℕ) → v < n → fold ◌⊕◌ z (λ i. if eqb v i then F i else z) 0 n ≡ F v
  unfolding fold
  fold-pick F v zero h = absurd (omega arith)
  fold-pick F v (suc n) h = go (ℕ_discrete v n) (λ l. fold-pick F v n l)
    where
      go : Dec (v ≡ n) → (v < n → fold ◌⊕◌ z (λ i. if eqb v i then F i else z) 0 n ≡ F v)
          → fold ◌⊕◌ z (λ i. if eqb v i then F i else z) 0 n ⊕ (if eqb v (0 + n) then F (0 + n) else z) ≡ F v
      go (yes e) ih =
          let d : v ≡ 0 + n = omega arith in
          rw (eq-eqb v (0 + n) d) (ap₂ ◌⊕◌ (pick-none F v n (omega arith)) (ap F (sym d)) ∙ laws.idl _)
      go (no e) ih = rw (ne_eqb v (0 + n) (λ d. e (omega arith))) (laws.idr _ ∙ ih (omega arith))

  pub pick-inner : (F : ℕ → A) (b : Bool) (g m : ℕ) → g < m → fold ◌⊕◌ z (λ f. if b && eqb g f then F f else z) 0 m ≡ (if b then F g else z)
  pick-inner F true g m h = fold-pick F g m h
  pick-inner F false g m h = fold-none ◌⊕◌ z laws 0 m

  pub pick-both : (F : ℕ → ℕ → A) (v g l m : ℕ) → v < l → g < m
      → fold ◌⊕◌ z (λ i. fold ◌⊕◌ z (λ f. if eqb v i && eqb g f then F i f else z) 0 m) 0 l ≡ F v g
  pick-both F v g l m hv hg =
      ap (λ (q : ℕ → A). fold ◌⊕◌ z q 0 l) (fun_ext (λ i. pick-inner (F i) (eqb v i) g m hg)) ∙ fold-pick (λ i. F i g) v l hv

  -- two sums, either way round
  pub turn : (f : ℕ → ℕ → A) (x nx y ny : ℕ) → fold ◌⊕◌ z (λ a. fold ◌⊕◌ z (f a) y ny) x nx ≡ fold ◌⊕◌ z (λ b. fold ◌⊕◌ z (λ a. f a b) x nx) y ny
  unfolding fold_rect
  turn f x nx y ny = fold_rect-turn ◌⊕◌ z laws f x nx y ny

  inside : (p : Frame) (G : ℕ → ℕ → ℕ → A) (n x y : ℕ)
      → live z p (λ u v. fold ◌⊕◌ z (λ i. G i u v) 0 n) x y ≡ fold ◌⊕◌ z (λ i. live z p (G i) x y) 0 n
  unfolding live
  inside p G n x y = go (dead p x y)
    where
      go : (b : Bool) → (if b then z else fold ◌⊕◌ z (λ i. G i x y) 0 n) ≡ fold ◌⊕◌ z (λ i. if b then z else G i x y) 0 n
      go true = sym (fold-none ◌⊕◌ z laws 0 n)
      go false = refl

  pub over-fold : (p : Frame) (s t : ℕ) (G : ℕ → ℕ → ℕ → A) (n : ℕ)
      → over ◌⊕◌ z p s t (λ x y. fold ◌⊕◌ z (λ i. G i x y) 0 n) ≡ fold ◌⊕◌ z (λ i. over ◌⊕◌ z p s t (G i)) 0 n
  unfolding over fold_rect
  over-fold p s t G n =
      ap (λ (q : ℕ → A). fold ◌⊕◌ z q (s - p.set.radius) (span p.set.radius s p.set.width))
      (fun_ext
      (λ x. ap (λ (q : ℕ → A). fold ◌⊕◌ z q (t - p.set.radius) (span p.set.radius t p.set.height)) (fun_ext (λ y. inside p G n x y))
      ∙ turn (λ y i. live z p (G i) x y) (t - p.set.radius) (span p.set.radius t p.set.height) 0 n))
      ∙ turn (λ x i. fold ◌⊕◌ z (live z p (G i) x) (t - p.set.radius) (span p.set.radius t p.set.height)) _ _ 0 n

  one : (p : Frame) (i f : ℕ) (c : A) (x y : ℕ)
      → live z p (λ u v. if eqb (level p u v) i && eqb (guide p u v) f then c else z) x y ≡ times ◌⊕◌ z (live 0 p (in_cell p i f) x y) c
  unfolding live times
  one p i f c x y = go (dead p x y)
    where
      go : (b : Bool) →
          (if b then z else (if eqb (level p x y) i && eqb (guide p x y) f then c else z)) ≡ times ◌⊕◌ z (if b then 0 else in_cell p i f x y) c
      go true = refl
      go false = times-one (eqb (level p x y) i && eqb (guide p x y) f) c

  pub over-count : (p : Frame) (s t i f : ℕ) (c : A)
      → over ◌⊕◌ z p s t (λ x y. if eqb (level p x y) i && eqb (guide p x y) f then c else z) ≡ times ◌⊕◌ z (count p s t i f) c
  unfolding over fold_rect count
  over-count p s t i f c =
      ap (λ (q : ℕ → A). fold ◌⊕◌ z q (s - p.set.radius) (span p.set.radius s p.set.width))
      (fun_ext (λ x. ap (λ (q : ℕ → A). fold ◌⊕◌ z q (t - p.set.radius) (span p.set.radius t p.set.height))
      (fun_ext (λ y. one p i f c x y))
      ∙ times-fold (live 0 p (in_cell p i f) x) c _ _))
      ∙ times-fold (λ x. fold ◌+◌ 0 (live 0 p (in_cell p i f) x) (t - p.set.radius) (span p.set.radius t p.set.height)) c _ _

  pub over-same : (p : Frame) (s t : ℕ) (f g : ℕ → ℕ → A)
      → ((x y : ℕ) → x < p.set.width → y < p.set.height → dead p x y ≡ false → f x y ≡ g x y)
      → over ◌⊕◌ z p s t f ≡ over ◌⊕◌ z p s t g
  unfolding over fold_rect span live
  over-same p s t f g h =
      fold_same ◌⊕◌ z laws _ _ _ _
      (λ x a b. fold_same ◌⊕◌ z laws _ _ _ _ (λ y c d. go x y (omega arith) (omega arith) (dead p x y) refl))
    where
      go : (x y : ℕ) → x < p.set.width → y < p.set.height → (b : Bool) → dead p x y ≡ b → (if b then z else f x y) ≡ (if b then z else g x y)
      go x y u v true e = refl
      go x y u v false e = h x y u v e

  -- the window's sum of F, by its joint counts
  pub over-joint : (p : Frame) (s t : ℕ) (F : ℕ → ℕ → A)
      → ((x y : ℕ) → x < p.set.width → y < p.set.height → dead p x y ≡ false → level p x y < p.set.levels)
      → ((x y : ℕ) → x < p.set.width → y < p.set.height → guide p x y < p.set.guides)
      → over ◌⊕◌ z p s t (λ x y. F (level p x y) (guide p x y))
      ≡ fold ◌⊕◌ z (λ i. fold ◌⊕◌ z (λ f. times ◌⊕◌ z (count p s t i f) (F i f)) 0 p.set.guides) 0 p.set.levels
  over-joint p s t F hl hg =
      over-same p s t _ _
      (λ x y a b e. sym (pick-both F (level p x y) (guide p x y) p.set.levels p.set.guides (hl x y a b e) (hg x y a b)))
      ∙ over-fold p s t (λ i x y. fold ◌⊕◌ z (λ f. if eqb (level p x y) i && eqb (guide p x y) f then F i f else z) 0 p.set.guides)
      p.set.levels
      ∙ ap (λ (q : ℕ → A). fold ◌⊕◌ z q 0 p.set.levels)
      (fun_ext (λ i. over-fold p s t (λ f x y. if eqb (level p x y) i && eqb (guide p x y) f then F i f else z) p.set.guides
      ∙ ap (λ (q : ℕ → A). fold ◌⊕◌ z q 0 p.set.guides) (fun_ext (λ f. over-count p s t i f (F i f)))))
