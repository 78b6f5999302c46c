-- Sums over ranges and windows, for any operation that is associative, commutative and has a unit: a range splits at either end,
-- and a window that moves by one loses and gains one column, clipped at both boards.
-- Assumes nothing.
use mathlib.Core.Path.{◌≡◌, refl, sym, ap, ap₂, ◌∙◌}
use mathlib.Core.Bool.{Bool, true, false}
use Prim.Native.Nat.{ℕ, zero, suc, ◌+◌, ◌-◌, ◌≤◌, ◌<◌, min}
use native.Mathlib.Nat.{add-zero, zero-add, add-suc, suc-add, add_assoc, add_comm}
use native.Mathlib.Omega.{arith}
use lib.Dec.{leb, ltb}
use borrow.Author.Tests.{ltb-true, ltb-false, leb-true, leb-false}
use lib.IntN.{pos, ◌+ℤ◌, +ℤ_idl, +ℤ_idr, +ℤ_assoc, +ℤ_comm}
use Rattle.std.specs.Prelude.{if◌then◌else◌}
use Rattle.spec.specs.Base.{fold, fold_rect}
use Rattle.spec.specs.Frame.{Frame}
use Rattle.spec.specs.Window.{span, live, over, in_column, in_row}

module _ {A : Type 0} (◌⊕◌ : A → A → A) (z : A) where
  infixl 6 ◌⊕◌
  pub record AdditionLaws : Type 0 where
    pub idl : (x : A) → z ⊕ x ≡ x
    pub idr : (x : A) → x ⊕ z ≡ x
    pub assoc : (x y w : A) → (x ⊕ y) ⊕ w ≡ x ⊕ (y ⊕ w)
    pub comm : (x y : A) → x ⊕ y ≡ y ⊕ x

  -- what a window of radius r among size columns loses and gains as its centre goes from c to c + 1
  unfoldable pub lost : (ℕ → A) → ℕ → ℕ → A
  lost f r c = if leb r c then f (c - r) else z

  unfoldable pub gained : (ℕ → A) → ℕ → ℕ → ℕ → A
  gained f r c size = if ltb (c + r + 1) size then f (c + r + 1) else z

module _ {A : Type 0} (◌⊕◌ : A → A → A) (z : A) (laws : AdditionLaws ◌⊕◌ z) where
  infixl 6 ◌⊕◌
  -- at the left end
  pub fold-left : (f : ℕ → A) (a n : ℕ) → fold ◌⊕◌ z f a (suc n) ≡ f a ⊕ fold ◌⊕◌ z f (suc a) n
  unfolding fold
  fold-left f a zero = laws.idl (f (a + 0)) ∙ ap f (add-zero a) ∙ sym (laws.idr (f a))
  fold-left f a (suc n) = ap₂ ◌⊕◌ (fold-left f a n) (ap f (add-suc a n ∙ sym (suc-add a n))) ∙ laws.assoc _ _ _

  -- from lo up to hi
  pub range-top : (f : ℕ → A) (lo hi : ℕ) → lo ≤ hi → fold ◌⊕◌ z f lo (suc hi - lo) ≡ fold ◌⊕◌ z f lo (hi - lo) ⊕ f hi
  unfolding fold
  range-top f lo hi h =
      let e : suc hi - lo ≡ suc (hi - lo) = omega arith in
      let d : lo + (hi - lo) ≡ hi = omega arith in
      rw e (ap (λ (k : ℕ). fold ◌⊕◌ z f lo (hi - lo) ⊕ f k) d)

  pub range-bottom : (f : ℕ → A) (lo hi : ℕ) → lo < hi → fold ◌⊕◌ z f lo (hi - lo) ≡ f lo ⊕ fold ◌⊕◌ z f (suc lo) (hi - suc lo)
  range-bottom f lo hi h =
      let e : hi - lo ≡ suc (hi - suc lo) = omega arith in
      rw e (fold-left f lo (hi - suc lo))

  -- the window's end
  top : (f : ℕ → A) (r c size : ℕ) (b : Bool) → c + 1 < size → ltb (c + r + 1) size ≡ b
      → fold ◌⊕◌ z f (c - r) (min size (c + 1 + r + 1) - (c - r)) ≡ fold ◌⊕◌ z f (c - r) (min size (c + r + 1) - (c - r)) ⊕ gained ◌⊕◌ z f r c size
  unfolding gained
  top f r c size true h e =
      let k : c + r + 1 < size = ltb-true _ _ e in
      let d : min size (c + 1 + r + 1) ≡ suc (c + r + 1) = omega arith in
      let g : min size (c + r + 1) ≡ c + r + 1 = omega arith in
      rw (d, g, e) (range-top f (c - r) (c + r + 1) (omega arith))
  top f r c size false h e =
      let k : size ≤ c + r + 1 = ltb-false _ _ e in
      let d : min size (c + 1 + r + 1) ≡ size = omega arith in
      let g : min size (c + r + 1) ≡ size = omega arith in
      rw (d, g, e) (sym (laws.idr _))

  -- the window's begin
  bottom : (f : ℕ → A) (r c hi : ℕ) (b : Bool) → c + 1 < hi → leb r c ≡ b
      → fold ◌⊕◌ z f (c - r) (hi - (c - r)) ≡ lost ◌⊕◌ z f r c ⊕ fold ◌⊕◌ z f (c + 1 - r) (hi - (c + 1 - r))
  unfolding lost
  bottom f r c hi true h e =
      let k : r ≤ c = leb-true _ _ e in
      let d : c + 1 - r ≡ suc (c - r) = omega arith in
      rw (d, e) (range-bottom f (c - r) hi (omega arith))
  bottom f r c hi false h e =
      let k : c < r = leb-false _ _ e in
      let d : c + 1 - r ≡ c - r = omega arith in
      rw (d, e) (sym (laws.idl _))

  -- the window one to the right, and what was lost, is the old window, and what was gained
  pub window-right : (f : ℕ → A) (r c size : ℕ) → c + 1 < size
      → fold ◌⊕◌ z f (c + 1 - r) (span r (c + 1) size) ⊕ lost ◌⊕◌ z f r c ≡ fold ◌⊕◌ z f (c - r) (span r c size) ⊕ gained ◌⊕◌ z f r c size
  unfolding span
  window-right f r c size h =
      laws.comm _ _ ∙ sym (bottom f r c (min size (c + 1 + r + 1)) (leb r c) (omega arith) refl) ∙ top f r c size (ltb (c + r + 1) size) h refl

  -- a range as a whole: two parts, a sum of two functions, of nothing, of equal functions; and a rectangle either way round
  pub fold-parts : (f : ℕ → A) (a m n : ℕ) → fold ◌⊕◌ z f a (m + n) ≡ fold ◌⊕◌ z f a m ⊕ fold ◌⊕◌ z f (a + m) n
  unfolding fold
  fold-parts f a m zero = ap (λ (k : ℕ). fold ◌⊕◌ z f a k) (add-zero m) ∙ sym (laws.idr _)
  fold-parts f a m (suc n) =
      ap (λ (k : ℕ). fold ◌⊕◌ z f a k) (add-suc m n) ∙ ap₂ ◌⊕◌ (fold-parts f a m n) (ap f (sym (add_assoc a m n))) ∙ laws.assoc _ _ _

  pub fold-both : (f g : ℕ → A) (a n : ℕ) → fold ◌⊕◌ z (λ k. f k ⊕ g k) a n ≡ fold ◌⊕◌ z f a n ⊕ fold ◌⊕◌ z g a n
  unfolding fold
  fold-both f g a zero = sym (laws.idl z)
  fold-both f g a (suc n) = ap (λ (x : A). x ⊕ (f (a + n) ⊕ g (a + n))) (fold-both f g a n) ∙ cross _ _ _ _
    where
      cross : (x y u v : A) → (x ⊕ y) ⊕ (u ⊕ v) ≡ (x ⊕ u) ⊕ (y ⊕ v)
      cross x y u v =
          laws.assoc x y (u ⊕ v) ∙ ap (λ (q : A). x ⊕ q) (sym (laws.assoc y u v) ∙ ap (λ (q : A). q ⊕ v) (laws.comm y u) ∙ laws.assoc u y v)
          ∙ sym (laws.assoc x u (y ⊕ v))

  pub fold-none : (a n : ℕ) → fold ◌⊕◌ z (λ k. z) a n ≡ z
  unfolding fold
  fold-none a zero = refl
  fold-none a (suc n) = laws.idr _ ∙ fold-none a n

  pub fold_same : (f g : ℕ → A) (a n : ℕ) → ((k : ℕ) → a ≤ k → k < a + n → f k ≡ g k) → fold ◌⊕◌ z f a n ≡ fold ◌⊕◌ z g a n
  unfolding fold
  fold_same f g a zero h = refl
  fold_same f g a (suc n) h =
      ap₂ ◌⊕◌ (fold_same f g a n (λ k x y. h k x (omega (arith, add-suc a n)))) (h (a + n) (omega arith) (omega arith))

  pub fold_rect-turn : (f : ℕ → ℕ → A) (x nx y ny : ℕ) → fold_rect ◌⊕◌ z f x nx y ny ≡ fold_rect ◌⊕◌ z (λ t s. f s t) y ny x nx
  unfolding fold fold_rect
  fold_rect-turn f x zero y ny = sym (fold-none y ny)
  fold_rect-turn f x (suc nx) y ny =
      ap (λ (q : A). q ⊕ fold ◌⊕◌ z (λ t. f (x + nx) t) y ny) (fold_rect-turn f x nx y ny) ∙ sym
      (fold-both (λ t. fold ◌⊕◌ z (λ s. f s t) x nx) (λ t. f (x + nx) t) y ny)

  -- ---- the window of a frame, one column to the right, one row down. Left and up are the same equations, read from the other window

  pub over-right : (p : Frame) (s t : ℕ) (f : ℕ → ℕ → A) → s + 1 < p.set.width
      → over ◌⊕◌ z p (s + 1) t f ⊕ lost ◌⊕◌ z (in_column ◌⊕◌ z p t f) p.set.radius s
      ≡ over ◌⊕◌ z p s t f ⊕ gained ◌⊕◌ z (in_column ◌⊕◌ z p t f) p.set.radius s p.set.width
  unfolding over fold_rect in_column
  over-right p s t f h =
      window-right (λ x. fold ◌⊕◌ z (live z p f x) (t - p.set.radius) (span p.set.radius t p.set.height)) p.set.radius s
      p.set.width h

  pub over-down : (p : Frame) (s t : ℕ) (f : ℕ → ℕ → A) → t + 1 < p.set.height
      → over ◌⊕◌ z p s (t + 1) f ⊕ lost ◌⊕◌ z (in_row ◌⊕◌ z p s f) p.set.radius t
      ≡ over ◌⊕◌ z p s t f ⊕ gained ◌⊕◌ z (in_row ◌⊕◌ z p s f) p.set.radius t p.set.height
  unfolding over fold_rect in_row
  over-down p s t f h =
      ap (λ (q : A). q ⊕ lost ◌⊕◌ z (in_row ◌⊕◌ z p s f) p.set.radius t) (fold_rect-turn (live z p f) _ _ _ _)
      ∙ window-right (λ y. fold ◌⊕◌ z (λ x. live z p f x y) (s - p.set.radius) (span p.set.radius s p.set.width)) p.set.radius t
      p.set.height h
      ∙ ap (λ (q : A). q ⊕ gained ◌⊕◌ z (in_row ◌⊕◌ z p s f) p.set.radius t p.set.height) (sym (fold_rect-turn (live z p f) _ _ _ _))

pub nat_sums : AdditionLaws ◌+◌ 0
nat_sums = record { idl = zero-add; idr = add-zero; assoc = add_assoc; comm = add_comm }

pub int_sums : AdditionLaws ◌+ℤ◌ (pos 0)
int_sums = record { idl = +ℤ_idl; idr = +ℤ_idr; assoc = +ℤ_assoc; comm = +ℤ_comm }
