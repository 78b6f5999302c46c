-- The loops over the lengths, the limits and the files, each by what is left of its list.
-- Assumes nothing.
use Prim.Native.Nat.{ℕ, zero, suc, ◌+◌, ◌-◌, ◌≤◌, ◌<◌}
use mathlib.Core.Path.{◌≡◌, refl, sym, ap, ◌∙◌}
use mathlib.Core.Bool.{Bool, true, false, true≢false, not, ◌||◌}
use mathlib.Core.List.{List, [], ◌∷◌}
use native.Mathlib.Decide.{ℕ_discrete}
use native.Mathlib.Numerals.{add-one}
use native.Mathlib.Omega.{arith}
use lib.Dec.{ltb, eqb}
use Rattle.std.specs.List.{list_any}
use lib.ListN.{length, get_or, drop}
use lib.Seq.{drop-cons}
use borrow.Author.Tests.{lt-ltb, le-ltb, ltb-false, eq-eqb, ne_eqb, eqb-true, not-false}
use Rattle.spec.specs.Refusal.{Outcome, accepted, fires}
use Rattle.spec.specs.Cameras.{total, any_above, bad_batch}
use Rattle.spec.proofs.Checks.{neither}
use Rattle.spec.proofs.Outcomes.{or_else}

-- a verdict that fires is not accepted; docs/CHANGES.md names this
pub fires-not : {o : Outcome} → fires o ≡ true → o ≡ accepted → ⊥
fires-not f e = true≢false (sym f ∙ ap fires e)

-- what is left of a list, one number on
pub left_step : (xs : List ℕ) (i : ℕ) → i < length xs → drop i xs ≡ get_or xs i 0 ∷ drop (i + 1) xs
left_step xs i h = drop-cons xs i 0 h ∙ ap (λ (n : ℕ). get_or xs i 0 ∷ drop n xs) (sym (add-one i))

pub left-none : (xs : List ℕ) (i : ℕ) → length xs ≤ i → drop i xs ≡ []
left-none xs i h = go xs i h
  where
    go : (xs : List ℕ) (i : ℕ) → length xs ≤ i → drop i xs ≡ []
    go [] zero h = refl
    go [] (suc i) h = refl
    go (x ∷ xs) zero h = absurd (omega arith)
    go (x ∷ xs) (suc i) h = go xs i (omega arith)

-- what is left of a sum
pub total_left : (xs : List ℕ) (i : ℕ) → i < length xs → total (drop i xs) ≡ get_or xs i 0 + total (drop (i + 1) xs)
unfolding total
total_left xs i h = rw (left_step xs i h) refl

pub total_end : (xs : List ℕ) (i : ℕ) → length xs ≤ i → total (drop i xs) ≡ 0
unfolding total
total_end xs i h = rw (left-none xs i h) refl

-- ---- a number above the most
pub above_listed : (most : ℕ) (xs : List ℕ) → list_any (ltb most) xs ≡ any_above most xs
unfolding any_above
above_listed most [] = refl
above_listed most (x ∷ xs) = ap (λ (b : Bool). ltb most x || b) (above_listed most xs)

-- docs/TRACE.md names these
module _ (most : ℕ) (xs : List ℕ) (i : ℕ) where
  pub above-here : i < length xs → most < get_or xs i 0 → any_above most (drop i xs) ≡ true
  unfolding any_above
  above-here h l = rw (left_step xs i h, lt-ltb most (get_or xs i 0) l) refl

  pub above-later : i < length xs → get_or xs i 0 ≤ most → any_above most (drop i xs) ≡ any_above most (drop (i + 1) xs)
  unfolding any_above
  above-later h l = rw (left_step xs i h, le-ltb most (get_or xs i 0) l) refl

  pub above-none : length xs ≤ i → any_above most (drop i xs) ≡ false
  unfolding any_above
  above-none h = rw (left-none xs i h) refl

-- ---- lengths taken off: docs/TRACE.md and docs/PORT.md name these
same_or_not : (a b c d : ℕ) → (a ≡ b → c ≡ d) → (c ≡ d → a ≡ b) → eqb a b ≡ eqb c d
same_or_not a b c d f g = go (ℕ_discrete a b)
  where
    go : Dec (a ≡ b) → eqb a b ≡ eqb c d
    go (yes e) = eq-eqb a b e ∙ sym (eq-eqb c d (f e))
    go (no n) = ne_eqb a b n ∙ sym (ne_eqb c d (λ e. n (g e)))

module _ (xs : List ℕ) (i left : ℕ) where
  pub off-more : i < length xs → get_or xs i 0 ≤ left → eqb (total (drop i xs)) left ≡ eqb (total (drop (i + 1) xs)) (left - get_or xs i 0)
  unfolding total
  off-more h l = rw (left_step xs i h)
      (same_or_not (get_or xs i 0 + total (drop (i + 1) xs)) left (total (drop (i + 1) xs)) (left - get_or xs i 0) (λ e. omega arith) (λ e. omega arith))

  pub off-short : i < length xs → left < get_or xs i 0 → eqb (total (drop i xs)) left ≡ false
  unfolding total
  off-short h l = rw (left_step xs i h) (ne_eqb (get_or xs i 0 + total (drop (i + 1) xs)) left (λ e. omega arith))

  pub off-end : length xs ≤ i → eqb (total (drop i xs)) left ≡ eqb left 0
  unfolding total
  off-end h = rw (left-none xs i h) (same_or_not 0 left left 0 (λ e. sym e) (λ e. sym e))

-- ---- check 15
module _ (b lengths limits : List ℕ) where
  -- test by test: docs/TRACE.md and docs/PORT.md name these
  pub bad-count : 8 < length lengths → true ≡ bad_batch b lengths limits
  unfolding bad_batch
  bad-count h = sym (ap (λ (x : Bool). x || (not (eqb (total lengths) (length b)) || any_above 4096 limits)) (lt-ltb 8 (length lengths) h))

  pub bad_sum : length lengths ≤ 8 → {r : Bool} → r ≡ eqb (total lengths) (length b) → not r ≡ true → true ≡ bad_batch b lengths limits
  unfolding bad_batch
  bad_sum h e n =
      or_else (ltb 8 (length lengths)) _ (le-ltb 8 (length lengths) h)
      (sym (ap (λ (x : Bool). x || any_above 4096 limits) (ap not (sym e) ∙ n)))

  -- what is known where it does not fire
  pub record BatchGood : Type 0 where
    pub few : length lengths ≤ 8
    pub sum : total lengths ≡ length b
    pub limits-low : any_above 4096 limits ≡ false

  pub batch-good : bad_batch b lengths limits ≡ false → BatchGood
  unfolding bad_batch
  batch-good e =
      let x = neither (ltb 8 (length lengths)) (not (eqb (total lengths) (length b)) || any_above 4096 limits) e in
      let y = neither (not (eqb (total lengths) (length b))) (any_above 4096 limits) x.1 in
      record { few = ltb-false _ _ x.0; sum = eqb-true _ _ (not-false _ y.0); limits-low = y.1 }
