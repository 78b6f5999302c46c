-- A block of levels whose pixels, were each as heavy as a pixel can be, would not lift the cumulative weight to half: no level of it does.
-- Assumes nothing.
use mathlib.Core.Path.{◌≡◌, refl, sym, ap, ap₂, ◌∙◌, subst, subst₂}
use mathlib.Core.Bool.{false}
use mathlib.Core.List.{List}
use Prim.Native.Nat.{ℕ, zero, suc, ◌+◌, ◌-◌, ◌≤◌, ◌<◌}
use native.Mathlib.Nat.{add-suc, add-zero}
use native.Mathlib.Numerals.{add-one}
use native.Mathlib.Omega.{arith}
use lib.IntN.{ℤ, pos, negsuc, ◌+ℤ◌, ◌*ℤ◌}
use lib.ListN.{length, get_or}
use lib.Signed.{◌≤ℤ◌, ◌<ℤ◌, ≤ℤ_refl}
use mir.Syntax.{w64}
use Rattle.ints.specs.Order.{add_parts, mul-parts, mul-mono-l, +-mono, ≤_trans, ≤-of-eq, pos-≤, 0≤pos}
use Rattle.ints.specs.Linear.{ints}
use Rattle.ints.specs.Machine.{read_back, read-bounded}
use Rattle.ints.specs.Polynomial.{◌⊕◌, ◌⊗◌, ◌≐◌, solve3, solve6}
use Rattle.spec.proofs.Totals.{lt-le_z}
use Rattle.window_weights.specs.declared.coefficients.Coefficients.{Coefficients}
use Rattle.level_search.specs.declared.Tally.{Tally}
use Rattle.window_weights.specs.Coefficients.{weight_of, reaches_half}
use Rattle.level_search.specs.Search.{sum_to, passes, TallyTo, FailTo}
use Rattle.level_search.specs.Block.{Heaviest, Light}
use Rattle.level_search.proofs.SearchLaws.{tally, sum_to-more}

-- ---- sums of a block
sum_to-add : (xs : List ℕ) (i n : ℕ) → sum_to xs i ≤ sum_to xs (i + n)
sum_to-add xs i zero = omega (arith, ap (sum_to xs) (add-zero i))
sum_to-add xs i (suc n) = omega (arith, sum_to-add xs i n, sum_to-more xs (i + n), ap (sum_to xs) (add-one (i + n) ∙ sym (add-suc i n)))

pub sum_to-le : (xs : List ℕ) {i n : ℕ} → i ≤ n → sum_to xs i ≤ sum_to xs n
sum_to-le xs {i} {n} h = let e : i + (n - i) ≡ n = omega arith in omega (arith, sum_to-add xs i (n - i), ap (sum_to xs) e)

pub tally-block : {counts sums : List ℕ} {i : ℕ} {a : Tally} (x y : ℕ) → TallyTo counts sums i a → x + sum_to counts i ≡ sum_to counts (i + 16) →
    y + sum_to sums i ≡ sum_to sums (i + 16)
    → TallyTo counts sums (i + 16) (tally (a.count + x) (a.sum + y))
tally-block x y t e d = record { count = omega (arith, t.count); sum = omega (arith, t.sum) }

-- ---- no level of a light block reaches half
weigh-more : (k : Coefficients) (n s x y : ℕ) → weight_of k (n + x) (s + y) ≡ weight_of k n s +ℤ weight_of k x y
weigh-more k n s x y =
    solve6 (λ c d n s x y. c ⊗ (s ⊕ y) ⊕ d ⊗ (n ⊕ x) ≐ (c ⊗ s ⊕ d ⊗ n) ⊕ (c ⊗ y ⊕ d ⊗ x)) refl k.slope k.offset (pos n) (pos s) (pos x) (pos y)

grow : (a b x y p q : ℤ) → (b +ℤ x) ≤ℤ (a +ℤ y) → p ≤ℤ q → (b +ℤ p +ℤ x) ≤ℤ (a +ℤ (y +ℤ q))
grow a b x y p q h l = omega (arith, ints, add_parts b x, add_parts a y, add_parts b p, add_parts (b +ℤ p) x, add_parts y q, add_parts a (y +ℤ q))

still-short : (a u x y n t : ℤ) → (a +ℤ x) ≤ℤ (u +ℤ y) → y ≤ℤ (n +ℤ x) → (pos 2 *ℤ (u +ℤ n)) <ℤ t → (pos 2 *ℤ a) <ℤ t
still-short a u x y n t h l m =
    omega (arith, ints, add_parts a x, add_parts u y, add_parts n x, add_parts u n, mul-parts (pos 2) (u +ℤ n), mul-parts (pos 2) a)

module _ {k : Coefficients} {counts sums : List ℕ} {w : ℤ} (v : Heaviest k counts sums w) where
  abbrev at : ℕ → ℤ
  at i = weight_of k (sum_to counts i) (sum_to sums i)

  at_more : (i : ℕ) → at (i + 1) ≡ at i +ℤ weight_of k (get_or counts i 0) (get_or sums i 0)
  at_more i =
      ap₂ (weight_of k) (sum_to-more counts i) (sum_to-more sums i) ∙ weigh-more k (sum_to counts i) (sum_to sums i) (get_or counts i 0) (get_or sums i 0)

  -- the pixels of the levels below i at w each
  abbrev most : ℕ → ℤ
  most i = w *ℤ pos (sum_to counts i)

  most-both : (n x : ℕ) → w *ℤ pos (n + x) ≡ w *ℤ pos n +ℤ w *ℤ pos x
  most-both n x = solve3 (λ w n x. w ⊗ (n ⊕ x) ≐ w ⊗ n ⊕ w ⊗ x) refl w (pos n) (pos x)

  most-more : (i : ℕ) → most (i + 1) ≡ most i +ℤ w *ℤ pos (get_or counts i 0)
  most-more i = ap (λ (n : ℕ). w *ℤ pos n) (sum_to-more counts i) ∙ most-both (sum_to counts i) (get_or counts i 0)

  -- the levels i to i + d - 1 weigh at most w for each of their pixels
  range : (i d : ℕ) → i + d ≤ length counts → (at (i + d) +ℤ most i) ≤ℤ (at i +ℤ most (i + d))
  range i zero h = subst (λ (n : ℕ). (at n +ℤ most i) ≤ℤ (at i +ℤ most n)) (sym (add-zero i)) (≤ℤ_refl (at i +ℤ most i))
  range i (suc d) h =
      subst (λ (n : ℕ). (at n +ℤ most i) ≤ℤ (at i +ℤ most n)) (add-one (i + d) ∙ sym (add-suc i d))
      (subst₂ (λ (x y : ℤ). (x +ℤ most i) ≤ℤ (at i +ℤ y)) (sym (at_more (i + d))) (sym (most-more (i + d)))
      (grow (at i) (at (i + d)) (most i) (most (i + d)) _ _ (range i d (omega arith)) (v.level (i + d) (omega arith))))

  pub light-fails : {i : ℕ} {a : Tally} → TallyTo counts sums i a → Light k w counts i a.count a.sum → (j : ℕ) → i ≤ j → j < i + 16 →
      passes k counts sums j ≡ false
  unfolding passes reaches_half
  light-fails {i} {a} t l j h m =
      let e : i + (suc j - i) ≡ suc j = omega arith in
      let d : sum_to counts (i + 16) ≡ (sum_to counts (i + 16) - sum_to counts i) + sum_to counts i =
      omega (arith, sum_to-le counts {i = i} {n = i + 16} (omega arith)) in
      let r : (at (suc j) +ℤ most i) ≤ℤ (at i +ℤ most (suc j)) =
      subst (λ (q : ℕ). (at q +ℤ most i) ≤ℤ (at i +ℤ most q)) e (range i (suc j - i) (omega (arith, l.whole))) in
      let y : most (suc j) ≤ℤ (w *ℤ pos (sum_to counts (i + 16) - sum_to counts i) +ℤ most i) =
      ≤_trans (mul-mono-l w v.not_negative (pos-≤ (sum_to-le counts {i = suc j} {n = i + 16} (omega arith))))
      (≤-of-eq (ap (λ (q : ℕ). w *ℤ pos q) d ∙ most-both (sum_to counts (i + 16) - sum_to counts i) (sum_to counts i))) in
      lt-le_z
      (still-short (at (suc j)) (at i) (most i) (most (suc j)) (w *ℤ pos (sum_to counts (i + 16) - sum_to counts i)) k.total r y
      (rw (t.count, t.sum) at l.short))

  pub fail-block : {i : ℕ} {a : Tally} → TallyTo counts sums i a → Light k w counts i a.count a.sum → FailTo k counts sums i → FailTo k counts sums (i + 16)
  fail-block {i} t l f = record { fails = λ j h. go j h (native.Mathlib.Decide.dec_lt j i) }
    where
      go : (j : ℕ) → j < i + 16 → Dec (j < i) → passes k counts sums j ≡ false
      go j h (yes b) = f.fails j b
      go j h (no b) = light-fails t l j (omega arith) h

-- ---- between its ends the formula gives no more than at the larger one
pub formula-below : (c d w : ℤ) {g m : ℕ} → g ≤ m → d ≤ℤ w → (c *ℤ pos m +ℤ d) ≤ℤ w → (c *ℤ pos g +ℤ d) ≤ℤ w
formula-below (pos a) d w {g} {m} h u v = ≤_trans (+-mono (mul-mono-l {a = pos g} {b = pos m} (pos a) 0≤pos (pos-≤ h)) (≤ℤ_refl d)) v
formula-below (negsuc a) d w {g} {m} h u v = omega (arith, ints, mul-parts (negsuc a) (pos g), add_parts (negsuc a *ℤ pos g) d)

-- ---- as a call hands it on
pub handed-on : {k : Coefficients} {counts sums : List ℕ} {w : ℤ} → Heaviest k counts sums w → Heaviest k counts sums (read_back w64 w)
handed-on v = rw (read-bounded w64 240207812100 v.small tt) v
