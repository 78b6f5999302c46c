-- Document 02, ask 9: an unfinished file is served within every eight grants, the periods are one list of grants, and all grants are made while a
-- file is unfinished.
-- Assumes nothing.
use Prim.Native.Nat.{ℕ, zero, suc, ◌+◌, ◌-◌, ◌%◌, ◌≤◌, ◌<◌, min}
use mathlib.Core.Path.{◌≡◌, refl, sym, ap, ◌∙◌, subst}
use mathlib.Core.Logic.{◌⊎◌, inl, inr, ⊎_elim}
use mathlib.Core.Bool.{true, false, true≢false}
use mathlib.Core.List.{List, [], ◌∷◌}
use native.Mathlib.Decide.{ℕ_discrete, dec_le, dec_lt}
use native.Mathlib.Omega.{arith}
use lib.Dec.{ltb}
use lib.ListN.{length, get_or, set}
use lib.Seq.{get_or-set_other}
use borrow.Author.Tests.{ltb-false}
use Rattle.spec.specs.declared.Round.{Round}
use Rattle.spec.specs.Schedule.{opening, unfinished, looked, passed_over, serve, grant, grants, periods}
use Rattle.spec.specs.Cameras.{total}
use Rattle.schedule.specs.Tallies.{SizesFit, TalliesCounted}
use Rattle.schedule.proofs.Grants.{over-is, grant-serves, grant-none, by-grant, tallies-grant, tallies-opening, grants-add}

-- ---- two lists of which one is no more than the other
pub total_mono : (a b : List ℕ) → length a ≡ length b → ((k : ℕ) → get_or a k 0 ≤ get_or b k 0) → total a ≤ total b
unfolding total
total_mono [] [] e h = omega arith
total_mono [] (y ∷ b) e h = absurd (omega arith)
total_mono (x ∷ a) [] e h = absurd (omega arith)
total_mono (x ∷ a) (y ∷ b) e h = omega (arith, h 0, total_mono a b (omega arith) (λ k. h (suc k)))

pub total-less : (a b : List ℕ) → length a ≡ length b → ((k : ℕ) → get_or a k 0 ≤ get_or b k 0) → (k : ℕ) → get_or a k 0 < get_or b k 0 → total a < total b
unfolding total
total-less [] [] e h k l = absurd (omega arith)
total-less [] (y ∷ b) e h k l = absurd (omega arith)
total-less (x ∷ a) [] e h k l = absurd (omega arith)
total-less (x ∷ a) (y ∷ b) e h zero l = omega (arith, total_mono a b (omega arith) (λ j. h (suc j)))
total-less (x ∷ a) (y ∷ b) e h (suc k) l = omega (arith, h 0, total-less a b (omega arith) (λ j. h (suc j)) k l)

module _ (sizes : List ℕ) where
  -- where the file after d others is unfinished, no more than d are passed over
  over-le : (x : Round) (d : ℕ) → d < 8 → unfinished sizes x (looked x d) ≡ true → passed_over sizes x ≤ d
  over-le x d h u = go (dec_le (passed_over sizes x) d)
    where
      go : Dec (passed_over sizes x ≤ d) → passed_over sizes x ≤ d
      go (yes l) = l
      go (no l) = absurd (true≢false (sym u ∙ (over-is sizes x).before d (omega arith)))

  -- the file that came after d others comes after d − j − 1 others, once j were passed over and the next was served
  looked-next : (x : Round) (d j : ℕ) → j < d → looked (serve (looked x j) x) (d - (j + 1)) ≡ looked x d
  looked-next x d j h = omega arith

  -- another file's grant leaves a file unfinished
  still : (x : Round) (k j : ℕ) → (j ≡ k → ⊥) → unfinished sizes x k ≡ true → unfinished sizes (serve j x) k ≡ true
  unfolding unfinished
  still x k j ne u =
      ap (λ (q : ℕ). ltb q (get_or sizes k 0)) (get_or-set_other x.tallies j k (get_or x.tallies j 0 + 1) 0 (λ e. ne (sym e))) ∙ u

  -- the next grant is file k's, or k is fewer turns away after it
  now-or-next : (x : Round) (d k : ℕ) → d < 8 → looked x d ≡ k → unfinished sizes x k ≡ true
      → (grant sizes x ≡ serve k x) ⊎ ((c : ℕ) × (c < d) × (looked (grant sizes x) c ≡ k) × (unfinished sizes (grant sizes x) k ≡ true))
  now-or-next x d k h t u = go (ℕ_discrete (looked x (passed_over sizes x)) k)
    where
      least : passed_over sizes x ≤ d
      least = over-le x d h (subst (λ (q : ℕ). unfinished sizes x q ≡ true) (sym t) u)

      g : grant sizes x ≡ serve (looked x (passed_over sizes x)) x
      g = grant-serves sizes x (omega (arith, least))

      go : Dec (looked x (passed_over sizes x) ≡ k)
          → (grant sizes x ≡ serve k x) ⊎ ((c : ℕ) × (c < d) × (looked (grant sizes x) c ≡ k) × (unfinished sizes (grant sizes x) k ≡ true))
      go (yes e) = inl (g ∙ ap (λ (q : ℕ). serve q x) e)
      go (no ne) =
          let less : passed_over sizes x < d = strict (dec_lt (passed_over sizes x) d) in
          inr (
            d - (passed_over sizes x + 1),
            omega (arith, less),
            ap (λ (y : Round). looked y (d - (passed_over sizes x + 1))) g ∙ looked-next x d (passed_over sizes x) less ∙ t,
            ap (λ (y : Round). unfinished sizes y k) g ∙ still x k _ ne u,
          )
        where
          strict : Dec (passed_over sizes x < d) → passed_over sizes x < d
          strict (yes l) = l
          strict (no l) = let e : passed_over sizes x ≡ d = omega (arith, least) in absurd (ne (ap (looked x) e ∙ t))

  -- a file that is d turns away is served within d + 1 grants
  within : (e : ℕ) (x : Round) (d k : ℕ) → d ≤ e → d < 8 → looked x d ≡ k → unfinished sizes x k ≡ true
      → (j : ℕ) × (j ≤ d) × (grant sizes (grants sizes j x) ≡ serve k (grants sizes j x))
  unfolding grants
  within zero x d k le h t u = ⊎_elim (λ s. (0, omega arith, s)) (λ q. absurd (omega (arith, q.1))) (now-or-next x d k h t u)
  within (suc e) x d k le h t u =
      ⊎_elim (λ s. (0, omega arith, s))
      (λ q. let r = within e (grant sizes x) q.0 k (omega (arith, q.1)) (omega (arith, q.1)) q.2 q.3 in
      (suc r.0, omega (arith, r.1, q.1), r.2)) (now-or-next x d k h t u)

  -- how many turns a file is away
  away : (x : Round) (k : ℕ) → k < 8 → (d : ℕ) × (d < 8) × (looked x d ≡ k)
  away x k h = ((k + (8 - x.next % 8)) % 8, omega arith, omega arith)

  -- an unfinished file gets one of the next eight grants, wherever the grants have come to
  pub fair : (x : Round) (k : ℕ) → k < 8 → unfinished sizes x k ≡ true
      → (j : ℕ) × (j < 8) × (grant sizes (grants sizes j x) ≡ serve k (grants sizes j x))
  fair x k l u =
      let a = away x k l in
      let r = within a.0 x a.0 k (omega arith) a.1 a.2 u in
      (r.0, omega (arith, r.1, a.1), r.2)

  -- ---- the periods are one list of grants
  pub periods-grants : (limits : List ℕ) (x : Round) → periods sizes limits x ≡ grants sizes (total limits) x
  unfolding periods total grants
  periods-grants [] x = refl
  periods-grants (m ∷ limits) x = periods-grants limits (grants sizes m x) ∙ sym (grants-add sizes m (total limits) x)

  -- ---- all of them are made while a file is unfinished
  finished-all : (x : Round) → 8 ≤ passed_over sizes x → (k : ℕ) → k < 8 → get_or sizes k 0 ≤ get_or x.tallies k 0
  unfolding unfinished
  finished-all x h k l =
      let a = away x k l in
      ltb-false _ _ (subst (λ (q : ℕ). ltb (get_or x.tallies q 0) (get_or sizes q 0) ≡ false) a.2
      ((over-is sizes x).before a.0 (omega (arith, a.1))))

  module _ (fit : SizesFit sizes) where
    grant-counted : (x : Round) → TalliesCounted sizes x → (grant sizes x).granted ≡ min (x.granted + 1) (total sizes)
    grant-counted x s = ⊎_elim one none (by-grant sizes x)
      where
        same-long : length x.tallies ≡ length sizes
        same-long = s.long ∙ sym fit.long

        one : (passed_over sizes x < 8) × (get_or x.tallies (looked x (passed_over sizes x)) 0 < get_or sizes (looked x (passed_over sizes x)) 0)
            → (grant sizes x).granted ≡ min (x.granted + 1) (total sizes)
        one h = omega (
          arith,
          ap (λ (y : Round). y.granted) (grant-serves sizes x h.0),
          s.counted,
          total-less x.tallies sizes same-long
              s.within _ h.1,
        )

        none : 8 ≤ passed_over sizes x → (grant sizes x).granted ≡ min (x.granted + 1) (total sizes)
        none h =
            omega (
              arith,
              ap (λ (y : Round). y.granted) (grant-none sizes x h),
              s.counted,
              total_mono x.tallies sizes same-long s.within,
              total_mono sizes x.tallies (sym same-long) (λ k. all k (dec_lt k 8)),
            )
          where
            all : (k : ℕ) → Dec (k < 8) → get_or sizes k 0 ≤ get_or x.tallies k 0
            all k (yes l) = finished-all x h k l
            all k (no l) = omega (arith, lib.ListN.get_or-eq_default {A = ℕ} sizes 0 {n = k} (omega (arith, fit.long)))

    grants-counted : (m : ℕ) (x : Round) → TalliesCounted sizes x → x.granted ≤ total sizes
        → (grants sizes m x).granted ≡ min (x.granted + m) (total sizes)
    unfolding grants
    grants-counted zero x s l = omega arith
    grants-counted (suc m) x s l =
        let g = grant-counted x s in
        let r = grants-counted m (grant sizes x) (tallies-grant sizes x s) (omega (arith, g)) in
        omega (arith, g, r)

    pub all-granted : (limits : List ℕ) → (periods sizes limits opening).granted ≡ min (total limits) (total sizes)
    all-granted limits =
        ap (λ (y : Round). y.granted) (periods-grants limits opening) ∙ grants-counted (total limits) opening (tallies-opening sizes) (omega arith)
        ∙ ap (λ (n : ℕ). min n (total sizes)) (native.Mathlib.Nat.zero-add (total limits))
