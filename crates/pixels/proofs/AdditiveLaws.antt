-- Laws of every store that adds up shares of pixels: one pixel more, one column more, room along a list, and a step of the window.
-- Assumes nothing.
use mathlib.Core.Path.{◌≡◌, refl, sym, ap, ◌∙◌, subst}
use mathlib.Core.Bool.{Bool, true, false}
use mathlib.Core.List.{List}
use Prim.Native.Nat.{ℕ, zero, suc, ◌+◌, ◌-◌, ◌*◌, ◌≤◌, ◌<◌}
use native.Mathlib.Nat.{add-zero, add-suc, add_assoc, zero-add, le_refl, le_trans, le_of_eq}
use native.Mathlib.Numerals.{add-one}
use native.Mathlib.Omega.{arith}
use lib.IntN.{ℤ, pos, nat_abs, ◌+ℤ◌, ◌-ℤ◌, +ℤ_idr, +ℤ_assoc}
use Rattle.ints.specs.Bound.{abs-add, abs-sub-le}
use Rattle.ints.specs.Polynomial.{◌⊕◌, ◌⊖◌, ◌≐◌, solve2, solve3}
use Rattle.spec.specs.declared.Plan.{Plan}
use Rattle.spec.specs.Base.{fold}
use Rattle.spec.specs.Frame.{level, guide, frame_with}
use Rattle.spec.specs.Checks.{Pictured}
use Rattle.spec.specs.Window.{span, over}
use Rattle.spec.proofs.Ranges.{AdditionLaws, nat_sums, int_sums}
use Rattle.spec.proofs.Sums.{sum-abs, sum-const}
use Rattle.window.specs.declared.line.Line.{Line}
use Rattle.window.specs.declared.line.Step.{Step}
use Rattle.window.specs.Line.{column_line, Adjacent, step_of, line_fold}
use Rattle.window.proofs.LineLaws.{fold-none, fold_more, columns-law, step-law}
use Rattle.pixels.specs.declared.Pixel.{Pixel}
use Rattle.pixels.specs.Pixels.{count_of, level_in, guide_in, pixel_fold_to, pixel_fold, columns_fold, LinePixels}
use Rattle.pixels.specs.Additive.{changed, changedℤ, Fits, PassedTo, Exchanged, SharesExchangeable, window_sum}

-- ---- a number that changes
pub changed-none : (w : Bool) (a : ℕ) → changed w a 0 ≡ a
unfolding changed
changed-none true a = add-zero a
changed-none false a = omega arith

pub changed-next : (w : Bool) (a m n : ℕ) → changed w (changed w a m) n ≡ changed w a (m + n)
unfolding changed
changed-next true a m n = add_assoc a m n
changed-next false a m n = omega arith

pub fits-down : (limit : ℕ) (w : Bool) (a n : ℕ) → w ≡ false → Fits limit w a n → n ≤ a
fits-down limit w a n e h = rw e at h

pub fits_next : (limit : ℕ) (w : Bool) (a m n l : ℕ) → Fits limit w a l → m + n ≤ l → Fits limit w (changed w a m) n
unfolding changed
fits_next limit true a m n l h k = omega arith
fits_next limit false a m n l h k = omega arith

pub changed-noneℤ : (w : Bool) (a : ℤ) → changedℤ w a (pos 0) ≡ a
unfolding changedℤ
changed-noneℤ true a = +ℤ_idr a
changed-noneℤ false a = +ℤ_idr a

pub changed-nextℤ : (w : Bool) (a m n : ℤ) → changedℤ w (changedℤ w a m) n ≡ changedℤ w a (m +ℤ n)
unfolding changedℤ
changed-nextℤ true a m n = +ℤ_assoc a m n
changed-nextℤ false a m n = solve3 (λ a m n. (a ⊖ m) ⊖ n ≐ a ⊖ (m ⊕ n)) refl a m n

pub changed-abs : (w : Bool) (a n : ℤ) → nat_abs (changedℤ w a n) ≤ nat_abs a + nat_abs n
unfolding changedℤ
changed-abs true a n = abs-add a n
changed-abs false a n = abs-sub-le a n (le_refl (nat_abs a)) (le_refl (nat_abs n))

-- what the laws below need of the numbers
module _ {A : Type 0} (◌⊕◌ : A → A → A) (o : A) (change : Bool → A → A → A) where
  infixl 6 ◌⊕◌
  pub record Numbers : Type 0 where
    pub sums : AdditionLaws ◌⊕◌ o
    pub none : (w : Bool) (a : A) → change w a o ≡ a
    pub next : (w : Bool) (a m n : A) → change w (change w a m) n ≡ change w a (m ⊕ n)
    pub cancel : (a b n : A) → a ⊕ n ≡ b ⊕ n → a ≡ b

pub naturals : Numbers ◌+◌ 0 changed
naturals = record { sums = nat_sums; none = changed-none; next = changed-next; cancel = λ a b n e. omega arith }

pub integers : Numbers ◌+ℤ◌ (pos 0) changedℤ
integers = record {
  sums = int_sums;
  none = changed-noneℤ;
  next = changed-nextℤ;
  cancel = λ a b n e. sym (less-back a n) ∙ ap (λ (q : ℤ). q -ℤ n) e ∙ less-back b n;
}
  where
    less-back : (a n : ℤ) → (a +ℤ n) -ℤ n ≡ a
    less-back a n = solve2 (λ a n. (a ⊕ n) ⊖ n ≐ a) refl a n

-- ---- along a list, for any operation
module _ {A : Type 0} (◌⊕◌ : A → A → A) (o : A) (p : List Pixel) (h : ℕ → ℕ → A) where
  infixl 6 ◌⊕◌
  pub pixels-none : pixel_fold_to ◌⊕◌ o p h 0 ≡ o
  unfolding pixel_fold_to fold
  pixels-none = refl

  pub pixels-next : (k : ℕ) → pixel_fold_to ◌⊕◌ o p h (suc k) ≡ pixel_fold_to ◌⊕◌ o p h k ⊕ h (level_in p k) (guide_in p k)
  unfolding pixel_fold_to fold
  pixels-next k = ap (λ (j : ℕ). pixel_fold_to ◌⊕◌ o p h k ⊕ h (level_in p j) (guide_in p j)) (zero-add k)

  pub pixels-more : (k : ℕ) → pixel_fold_to ◌⊕◌ o p h (k + 1) ≡ pixel_fold_to ◌⊕◌ o p h k ⊕ h (level_in p k) (guide_in p k)
  pixels-more k = ap (pixel_fold_to ◌⊕◌ o p h) (add-one k) ∙ pixels-next k

-- ---- column by column, for any operation
module _ {A : Type 0} (◌⊕◌ : A → A → A) (o : A) (b vs : List ℕ) (z : Plan) (x t : ℕ) (h : ℕ → ℕ → A) where
  infixl 6 ◌⊕◌
  pub columns-none : columns_fold ◌⊕◌ o b vs z x t h 0 ≡ o
  columns-none = fold-none ◌⊕◌ o _ x

  -- a column that was read into the list p
  pub columns-more : (n : ℕ) (p : List Pixel) {d : Line} → d ≡ column_line z (x + n) t → pixel_fold ◌⊕◌ o p h ≡ line_fold ◌⊕◌ o b vs d h
      → columns_fold ◌⊕◌ o b vs z x t h (n + 1) ≡ columns_fold ◌⊕◌ o b vs z x t h n ⊕ pixel_fold ◌⊕◌ o p h
  columns-more n p ed e =
      fold_more ◌⊕◌ o _ x n ∙ ap (λ (q : A). columns_fold ◌⊕◌ o b vs z x t h n ⊕ q) (sym (e ∙ ap (λ (y : Line). line_fold ◌⊕◌ o b vs y h) ed))

  -- the window's columns are the window
  pub columns-window : Pictured b vs z → (s : ℕ) {n : ℕ} → x ≡ s - z.radius → n ≡ span z.radius s z.width
      → columns_fold ◌⊕◌ o b vs z x t h n ≡ over ◌⊕◌ o (frame_with b vs) s t (λ x y. h (level (frame_with b vs) x y) (guide (frame_with b vs) x y))
  columns-window pl s ex en = rw (ex, en) (sym (columns-law ◌⊕◌ o pl h s t))

-- ---- for plain sums
module _ (p : List Pixel) (h : ℕ → ℕ → ℕ) where
  abbrev along : ℕ → ℕ
  along n = pixel_fold_to ◌+◌ 0 p h n

  mono : (k n : ℕ) → along k ≤ along (k + n)
  mono k zero = rw (add-zero k) (omega arith)
  mono k (suc n) = rw (add-suc k n) (omega (arith, mono k n, pixels-next ◌+◌ 0 p h (k + n)))

  pub upto : (k n : ℕ) → k ≤ n → along k ≤ along n
  upto k n l = let e : k + (n - k) ≡ n = omega arith in subst (λ (m : ℕ). along k ≤ along m) e (mono k (n - k))

  -- n pixels with at most top each
  module _ (top n : ℕ) (low : (k : ℕ) → k < n → h (level_in p k) (guide_in p k) ≤ top) where
    pub high : (m : ℕ) → m ≤ n → along m ≤ m * top
    high zero l = rw (pixels-none ◌+◌ 0 p h) (omega arith)
    high (suc m) l = rw (native.Mathlib.Nat.suc-mul m top) (omega (arith, high m (omega arith), pixels-next ◌+◌ 0 p h m, low m l))

-- ---- for integers: n pixels with at most top each
pub high-abs : (p : List Pixel) (h : ℕ → ℕ → ℤ) (top n : ℕ) → ((k : ℕ) → k < n → nat_abs (h (level_in p k) (guide_in p k)) ≤ top) →
    nat_abs (pixel_fold_to ◌+ℤ◌ (pos 0) p h n) ≤ n * top
unfolding pixel_fold_to
high-abs p h top n low = le_trans (sum-abs _ (λ k. top) 0 n (λ k x y. low k (omega arith))) (le_of_eq (sum-const top 0 n))

-- ---- the store
module _ {A : Type 0} {◌⊕◌ : A → A → A} {o : A} {change : Bool → A → A → A} (laws : Numbers ◌⊕◌ o change) {Q : Type 0} (share : Q → ℕ → ℕ → A) where
  infixl 6 ◌⊕◌
  pub passed_none : (w : Bool) (p : List Pixel) (c : Q → A) → PassedTo ◌⊕◌ o share change w p 0 c c
  passed_none w p c = record { cells = λ q. sym (ap (change w (c q)) (pixels-none ◌⊕◌ o p (share q)) ∙ laws.none w (c q)) }

  pub passed-next : {w : Bool} {p : List Pixel} {k : ℕ} {c c₁ c₂ : Q → A} → PassedTo ◌⊕◌ o share change w p k c c₁
      → ((q : Q) → c₂ q ≡ change w (c₁ q) (share q (level_in p k) (guide_in p k))) → PassedTo ◌⊕◌ o share change w p (k + 1) c c₂
  passed-next {w} {p} {k} {c} g e = record {
    cells = λ q. e q ∙ ap (λ (a : A). change w a (share q (level_in p k) (guide_in p k))) (g.cells q) ∙ laws.next w (c q) _ _
        ∙ ap (change w (c q)) (sym (pixels-more ◌⊕◌ o p (share q) k));
  }

  -- ---- a step of the window, whose lines were read into the lists e and l
  module _ {b vs : List ℕ} {z : Plan} (pl : Pictured b vs z) {s t s' t' : ℕ} (adj : Adjacent z s t s' t') {d : Step} (ed : d ≡ step_of z s t s' t')
      (e l : List Pixel)
      (re : (h : ℕ → ℕ → A) → pixel_fold ◌⊕◌ o e h ≡ line_fold ◌⊕◌ o b vs d.entering h) (rl : (h : ℕ → ℕ → A) →
      pixel_fold ◌⊕◌ o l h ≡ line_fold ◌⊕◌ o b vs d.leaving h) where
    pub window-step : (q : Q) →
        window_sum ◌⊕◌ o share (frame_with b vs) s' t' q ⊕ pixel_fold ◌⊕◌ o l (share q)
        ≡ window_sum ◌⊕◌ o share (frame_with b vs) s t q ⊕ pixel_fold ◌⊕◌ o e
        (share q)
    window-step q =
        ap (λ (y : A). window_sum ◌⊕◌ o share (frame_with b vs) s' t' q ⊕ y) (rl (share q))
        ∙ (rw ed (step-law ◌⊕◌ o pl (share q) laws.sums adj))
        ∙ ap (λ (y : A). window_sum ◌⊕◌ o share (frame_with b vs) s t q ⊕ y) (sym (re (share q)))

    -- a number that was the old window's is the new one's
    pub slid : {c c' : Q → A} → Exchanged ◌⊕◌ o share e l c c' → (q : Q) → c q ≡ window_sum ◌⊕◌ o share (frame_with b vs) s t q →
        c' q ≡ window_sum ◌⊕◌ o share (frame_with b vs) s' t' q
    slid x q here =
        laws.cancel _ _ (pixel_fold ◌⊕◌ o l (share q)) (x.cells q ∙ ap (λ (y : A). y ⊕ pixel_fold ◌⊕◌ o e (share q)) here ∙ sym (window-step q))

-- ---- natural numbers: room
module _ {Q : Type 0} (share : Q → ℕ → ℕ → ℕ) where
  -- a number that has room for all the list's pixels, or has them to lose, has it for the next one
  pub room_next : {w : Bool} {p : List Pixel} {k : ℕ} {c c₁ : Q → ℕ} → PassedTo ◌+◌ 0 share changed w p k c c₁ → (limit : ℕ) → k < count_of p → (q : Q)
      → Fits limit w (c q) (pixel_fold ◌+◌ 0 p (share q)) → Fits limit w (c₁ q) (share q (level_in p k) (guide_in p k))
  room_next {w} {p} {k} {c} g limit l q h =
      subst (λ (a : ℕ). Fits limit w a (share q (level_in p k) (guide_in p k))) (sym (g.cells q))
      (fits_next limit w (c q) _ _ _ h (omega (arith, pixels-next ◌+◌ 0 p (share q) k, upto p (share q) (suc k) (count_of p) l)))

  -- one list in, another out
  module _ {limit : ℕ} {e l : List Pixel} {c : Q → ℕ} (x : SharesExchangeable share limit e l c) {c₁ : Q → ℕ}
      (g : PassedTo ◌+◌ 0 share changed true e (count_of e) c c₁) where
    pub leave_fits : (q : Q) → Fits limit false (c₁ q) (pixel_fold ◌+◌ 0 l (share q))
    unfolding changed
    leave_fits q = omega (arith, g.cells q, x.there q)

    pub exchanged : {c₂ : Q → ℕ} → PassedTo ◌+◌ 0 share changed false l (count_of l) c₁ c₂ → Exchanged ◌+◌ 0 share e l c c₂
    unfolding changed
    exchanged o = record { cells = λ q. omega (arith, o.cells q, g.cells q, x.there q) }

  module _ {b vs : List ℕ} {z : Plan} (pl : Pictured b vs z) {s t s' t' : ℕ} (adj : Adjacent z s t s' t') {d : Step} (ed : d ≡ step_of z s t s' t')
      {e l : List Pixel} (re : LinePixels b vs z d.entering e) (rl : LinePixels b vs z d.leaving l) where
    pub stepped : (q : Q) →
        window_sum ◌+◌ 0 share (frame_with b vs) s' t' q + pixel_fold ◌+◌ 0 l (share q)
        ≡ window_sum ◌+◌ 0 share (frame_with b vs) s t q + pixel_fold ◌+◌ 0 e
        (share q)
    stepped = window-step naturals share pl adj ed e l re.sum rl.sum

    -- what leaves is there
    pub leaving-there : {c : Q → ℕ} → ((q : Q) → c q ≡ window_sum ◌+◌ 0 share (frame_with b vs) s t q) → (q : Q) →
        pixel_fold ◌+◌ 0 l (share q) ≤ c q + pixel_fold ◌+◌ 0 e (share q)
    leaving-there here q = omega (arith, here q, stepped q)

-- ---- integers: one list in, another out
pub exchangedℤ : {Q : Type 0} (share : Q → ℕ → ℕ → ℤ) {e l : List Pixel} {c c₁ c₂ : Q → ℤ} → PassedTo ◌+ℤ◌ (pos 0) share changedℤ true e (count_of e) c c₁
    → PassedTo ◌+ℤ◌ (pos 0) share changedℤ false l (count_of l) c₁ c₂ → Exchanged ◌+ℤ◌ (pos 0) share e l c c₂
unfolding changedℤ
exchangedℤ share {e} {l} {c} g o = record {
  cells = λ q.
      let n = pixel_fold ◌+ℤ◌ (pos 0) l (share q) in
      ap (λ (y : ℤ). y +ℤ n) (o.cells q ∙ ap (λ (y : ℤ). y -ℤ n) (g.cells q)) ∙ solve2 (λ a n. (a ⊖ n) ⊕ n ≐ a) refl
      (c q +ℤ pixel_fold ◌+ℤ◌ (pos 0) e (share q)) n;
}
