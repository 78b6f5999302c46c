-- What a grant does, and what holds after any number of them.
-- Assumes nothing.
use Prim.Native.Nat.{ℕ, zero, suc, ◌+◌, ◌-◌, ◌*◌, ◌≤◌, ◌<◌}
use mathlib.Core.Path.{◌≡◌, refl, sym, ap, ◌∙◌, subst}
use mathlib.Core.Logic.{◌⊎◌, inl, inr, ⊎_elim}
use mathlib.Core.List.{List, [], ◌∷◌, ◌++◌}
use native.Mathlib.Nat.{mod-lt}
use native.Mathlib.Decide.{ℕ_discrete, dec_lt}
use native.Mathlib.Numerals.{add-one}
use native.Mathlib.Omega.{arith}
use lib.ListN.{length, get_or, take, set, replicate, length-set, length-replicate, get_or-replicate, get_or-eq_default}
use lib.Seq.{get_or-set_same, get_or-set_other, take-suc}
use borrow.Author.Tests.{lt-ltb, le-ltb, ltb-true}
use Rattle.spec.specs.declared.Round.{Round}
use Rattle.spec.specs.Schedule.{opening, unfinished, looked, passed_over, serve, grant, grants, periods}
use Rattle.spec.specs.Cameras.{total}
use Rattle.spec.proofs.First.{First, first-is, first-unique}
use Rattle.schedule.specs.Tallies.{SizesFit, TalliesCounted}

-- ---- sums of a list
pub total-set : (xs : List ℕ) (k : ℕ) → k < length xs → total (set xs k (get_or xs k 0 + 1)) ≡ total xs + 1
unfolding total
total-set [] k h = absurd (omega arith)
total-set (x ∷ xs) zero h = omega arith
total-set (x ∷ xs) (suc k) h = let e = total-set xs k (omega arith) in omega arith

pub total-low : (xs : List ℕ) → ((k : ℕ) → get_or xs k 0 ≤ 262144) → total xs ≤ length xs * 262144
unfolding total
total-low [] h = omega arith
total-low (x ∷ xs) h = omega (arith, h 0, total-low xs (λ k. h (suc k)))

pub total-zeros : (n : ℕ) → total (replicate n 0) ≡ 0
unfolding total
total-zeros zero = refl
total-zeros (suc n) = omega (arith, total-zeros n)

-- ---- one grant
module _ (sizes : List ℕ) where
  pub over-is : (x : Round) → First (λ j. unfinished sizes x (looked x j)) 8 (passed_over sizes x)
  unfolding passed_over
  over-is x = first-is _ 8

  pub over-unique : (x : Round) (j : ℕ) → First (λ j. unfinished sizes x (looked x j)) 8 j → j ≡ passed_over sizes x
  unfolding passed_over
  over-unique x j h = sym (first-unique _ 8 j h)

  -- what a look at one file after the other finds
  pub over_found : (x : Round) (j : ℕ) → j < 8 → get_or x.tallies (looked x j) 0 < get_or sizes (looked x j) 0
      → ((i : ℕ) → i < j → get_or sizes (looked x i) 0 ≤ get_or x.tallies (looked x i) 0) → j ≡ passed_over sizes x
  unfolding unfinished
  over_found x j h u b = over-unique x j (record { within = omega arith; passes = λ _. lt-ltb _ _ u; before = λ i l. le-ltb _ _ (b i l) })

  pub over_none : (x : Round) → ((i : ℕ) → i < 8 → get_or sizes (looked x i) 0 ≤ get_or x.tallies (looked x i) 0) → passed_over sizes x ≡ 8
  unfolding unfinished
  over_none x b = sym (over-unique x 8 (record { within = omega arith; passes = λ l. absurd (omega arith); before = λ i l. le-ltb _ _ (b i l) }))

  pub grant-serves : (x : Round) → passed_over sizes x < 8 → grant sizes x ≡ serve (looked x (passed_over sizes x)) x
  unfolding grant
  grant-serves x h = rw (lt-ltb (passed_over sizes x) 8 h) refl

  pub grant-none : (x : Round) → 8 ≤ passed_over sizes x → grant sizes x ≡ x
  unfolding grant
  grant-none x h = rw (le-ltb (passed_over sizes x) 8 h) refl

  -- the same by what the code found
  pub served-by : (x : Round) (j : ℕ) → j ≡ passed_over sizes x → j < 8 → serve (looked x j) x ≡ grant sizes x
  served-by x j e l = ap (λ (i : ℕ). serve (looked x i) x) e ∙ sym (grant-serves x (rw e at l))

  -- it serves a file that has a pixel left, or none
  pub by-grant : (x : Round) → ((passed_over sizes x < 8) ×
      (get_or x.tallies (looked x (passed_over sizes x)) 0 < get_or sizes (looked x (passed_over sizes x)) 0))
      ⊎ (8 ≤ passed_over sizes x)
  unfolding unfinished
  by-grant x = go (dec_lt (passed_over sizes x) 8)
    where
      go : Dec (passed_over sizes x < 8) → ((passed_over sizes x < 8) ×
          (get_or x.tallies (looked x (passed_over sizes x)) 0 < get_or sizes (looked x (passed_over sizes x)) 0))
          ⊎ (8 ≤ passed_over sizes x)
      go (yes l) = inl (l, ltb-true _ _ ((over-is x).passes l))
      go (no l) = inr (omega arith)

  pub looked-low : (x : Round) (j : ℕ) → looked x j < 8
  looked-low x j = mod-lt (x.next + j) (omega arith)

  pub tallies-grant : (x : Round) → TalliesCounted sizes x → TalliesCounted sizes (grant sizes x)
  tallies-grant x s = ⊎_elim serves none (by-grant x)
    where
      none : 8 ≤ passed_over sizes x → TalliesCounted sizes (grant sizes x)
      none h = subst (TalliesCounted sizes) (sym (grant-none x h)) s

      served : (k : ℕ) → k < 8 → get_or x.tallies k 0 < get_or sizes k 0 → TalliesCounted sizes (serve k x)
      served k l u =
          record {
            long = length-set x.tallies k _ ∙ s.long;
            next_low = omega arith;
            within = λ i. at i (ℕ_discrete i k);
            counted = omega (arith, s.counted, total-set x.tallies k (omega (arith, s.long)));
          }
        where
          at : (i : ℕ) → Dec (i ≡ k) → get_or (set x.tallies k (get_or x.tallies k 0 + 1)) i 0 ≤ get_or sizes i 0
          at i (yes e) = rw e (omega (arith, get_or-set_same x.tallies k (get_or x.tallies k 0 + 1) 0 (omega (arith, s.long))))
          at i (no e) = omega (arith, get_or-set_other x.tallies k i (get_or x.tallies k 0 + 1) 0 e, s.within i)

      serves : (passed_over sizes x < 8) × (get_or x.tallies (looked x (passed_over sizes x)) 0 < get_or sizes (looked x (passed_over sizes x)) 0)
          → TalliesCounted sizes (grant sizes x)
      serves h = subst (TalliesCounted sizes) (sym (grant-serves x h.0)) (served _ (looked-low x (passed_over sizes x)) h.1)

  pub tallies-grants : (m : ℕ) (x : Round) → TalliesCounted sizes x → TalliesCounted sizes (grants sizes m x)
  unfolding grants
  tallies-grants zero x s = s
  tallies-grants (suc m) x s = tallies-grants m (grant sizes x) (tallies-grant x s)

  pub tallies-periods : (limits : List ℕ) (x : Round) → TalliesCounted sizes x → TalliesCounted sizes (periods sizes limits x)
  unfolding periods
  tallies-periods [] x s = s
  tallies-periods (m ∷ limits) x s = tallies-periods limits (grants sizes m x) (tallies-grants m x s)

  pub tallies-opening : TalliesCounted sizes opening
  tallies-opening =
      record {
        long = length-replicate {A = ℕ} 8 0;
        next_low = omega arith;
        within = λ k. none k (dec_lt k 8);
        counted = sym (total-zeros 8);
      }
    where
      none : (k : ℕ) → Dec (k < 8) → get_or (replicate 8 0) k 0 ≤ get_or sizes k 0
      none k (yes l) = omega (arith, get_or-replicate {A = ℕ} 8 k 0 0 l)
      none k (no l) = omega (arith, get_or-eq_default {A = ℕ} (replicate 8 0) 0 {n = k} (omega (arith, length-replicate {A = ℕ} 8 0)))

  -- so few that they are no sum that a number could not hold
  pub granted-low : (x : Round) → SizesFit sizes → TalliesCounted sizes x → x.granted ≤ 2097152
  granted-low x f s = omega (arith, s.counted, s.long, total-low x.tallies (λ k. omega (arith, s.within k, f.low k)))

  -- ---- a list of grants, from its end
  pub grants-zero : (x : Round) → grants sizes 0 x ≡ x
  unfolding grants
  grants-zero x = refl

  pub grants-more : (m : ℕ) (x : Round) → grants sizes (suc m) x ≡ grant sizes (grants sizes m x)
  unfolding grants
  grants-more zero x = refl
  grants-more (suc m) x = grants-more m (grant sizes x)

  -- a loop of grants: one more, and the last
  pub grants-next : (i : ℕ) (from x y : Round) → x ≡ grants sizes i from → y ≡ grant sizes x → y ≡ grants sizes (i + 1) from
  grants-next i from x y e g =
      g ∙ ap (grant sizes) e ∙ sym (grants-more i from) ∙ ap (λ (n : ℕ). grants sizes n from) (sym (add-one i))

  -- docs/TRACE.md names this
  pub grants-end : (i m : ℕ) (from x : Round) → x ≡ grants sizes i from → i ≤ m → m ≤ i → x ≡ grants sizes m from
  grants-end i m from x e l h = let n : i ≡ m = omega arith in e ∙ ap (λ (k : ℕ). grants sizes k from) n

  pub grants-stay : (m : ℕ) (x : Round) → grant sizes x ≡ x → grants sizes m x ≡ x
  unfolding grants
  grants-stay zero x e = refl
  grants-stay (suc m) x e = ap (grants sizes m) e ∙ grants-stay m x e

  pub grants-add : (m k : ℕ) (x : Round) → grants sizes (m + k) x ≡ grants sizes k (grants sizes m x)
  unfolding grants
  grants-add zero k x = ap (λ (n : ℕ). grants sizes n x) (native.Mathlib.Nat.zero-add k)
  grants-add (suc m) k x = ap (λ (n : ℕ). grants sizes n x) (native.Mathlib.Nat.suc-add m k) ∙ grants-add m k (grant sizes x)

  -- a grant that is not counted is none
  pub grant-uncounted : (x : Round) → (grant sizes x).granted ≡ x.granted → grant sizes x ≡ x
  grant-uncounted x e =
      ⊎_elim (λ h. let g = ap (λ (y : Round). y.granted) (grant-serves x h.0) in absurd (omega arith)) (λ h. grant-none x h) (by-grant x)

  -- once a grant is none, so is each after it
  pub grants-early : (i m : ℕ) (x y : Round) → i ≤ m → y ≡ grants sizes i x → grant sizes y ≡ y → y ≡ grants sizes m x
  grants-early i m x y l e q =
      let n : m ≡ i + (m - i) = omega arith in
      sym (ap (λ (k : ℕ). grants sizes k x) n ∙ grants-add i (m - i) x ∙ ap (grants sizes (m - i)) (sym e) ∙ grants-stay (m - i) y q)

  pub periods-more : (limits : List ℕ) (m : ℕ) (x : Round) → periods sizes (limits ++ (m ∷ [])) x ≡ grants sizes m (periods sizes limits x)
  unfolding periods
  periods-more [] m x = refl
  periods-more (n ∷ limits) m x = periods-more limits m (grants sizes n x)

  -- one more period of a list
  pub periods-next : (limits : List ℕ) (i : ℕ) (x : Round) → i < length limits
      → periods sizes (take (i + 1) limits) x ≡ grants sizes (get_or limits i 0) (periods sizes (take i limits) x)
  periods-next limits i x l = rw (add-one i, take-suc limits i 0 l) (periods-more (take i limits) (get_or limits i 0) x)

  pub periods-none : (limits : List ℕ) (x : Round) → periods sizes (take 0 limits) x ≡ x
  unfolding periods
  periods-none limits x = refl
