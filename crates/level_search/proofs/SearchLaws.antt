-- Searching along the levels: tallies from level to level, and where the first level that passes is.
-- Assumes nothing.
use mathlib.Core.Path.{◌≡◌, refl, sym, ap, ap₂, ◌∙◌, subst}
use mathlib.Core.Bool.{Bool, true, false, true≢false}
use mathlib.Core.List.{List}
use Prim.Native.Nat.{ℕ, zero, suc, ◌+◌, ◌-◌, ◌≤◌, ◌<◌}
use native.Mathlib.Nat.{zero-add}
use native.Mathlib.Numerals.{add-one}
use native.Mathlib.Omega.{arith}
use lib.ListN.{length, get_or, take, drop}
use Rattle.std.specs.List.{sum}
use Rattle.std.proofs.Math.Seq.{take-add}
use Rattle.std.proofs.lemmas.List.Sums.{sum_by_more, sum_by-append}
use Rattle.spec.proofs.First.{first-is, first-unique}
use Rattle.window_weights.specs.declared.coefficients.Coefficients.{Coefficients}
use Rattle.window_weights.specs.Coefficients.{reaches_half}
use Rattle.window.proofs.LineLaws.{fold-none, fold_more}
use Rattle.level_search.specs.declared.Tally.{Tally}
use Rattle.level_search.specs.Search.{sum_to, TallyTo, passes, first_level, LevelCells, ListsSearchable, Rising, FailTo}

abbrev pub tally : ℕ → ℕ → Tally
tally n s = record { count = n; sum = s }

-- ---- tallies
pub sum_to-none : (xs : List ℕ) → sum_to xs 0 ≡ 0
unfolding sum_to
sum_to-none xs = fold-none ◌+◌ 0 _ 0

pub sum_to-more : (xs : List ℕ) (i : ℕ) → sum_to xs (i + 1) ≡ sum_to xs i + get_or xs i 0
unfolding sum_to
sum_to-more xs i = fold_more ◌+◌ 0 _ 0 i ∙ ap (λ (j : ℕ). sum_to xs i + get_or xs j 0) (zero-add i)

-- the sum of the first n numbers of a list, and of n numbers from one on
pub sum-take : (xs : List ℕ) (n : ℕ) → n ≤ length xs → sum (take n xs) ≡ sum_to xs n
sum-take xs zero h = sym (sum_to-none xs)
sum-take xs (suc n) h =
    subst (λ (m : ℕ). sum (take m xs) ≡ sum_to xs m) (add-one n)
    (omega (arith, sum_by_more (λ (x : ℕ). x) xs n 0 (omega arith), sum-take xs n (omega arith), sum_to-more xs n))

pub sum-part : (xs : List ℕ) (i n : ℕ) → i + n ≤ length xs → sum (take n (drop i xs)) + sum_to xs i ≡ sum_to xs (i + n)
sum-part xs i n h =
    omega (
      arith,
      ap sum (take-add i n xs),
      sum_by-append (λ (x : ℕ). x) (take i xs) (take n (drop i xs)),
      sum-take xs i (omega arith),
      sum-take xs (i + n) h,
    )

module _ {counts sums : List ℕ} where
  pub tally_none : TallyTo counts sums 0 (tally 0 0)
  tally_none = record { count = sym (sum_to-none counts); sum = sym (sum_to-none sums) }

  pub tally-next : {a : Tally} {i : ℕ} → TallyTo counts sums i a → TallyTo counts sums (i + 1) (tally (a.count + get_or counts i 0) (a.sum + get_or sums i 0))
  tally-next {a} {i} t = record { count = omega (arith, t.count, sum_to-more counts i); sum = omega (arith, t.sum, sum_to-more sums i) }

  -- without the last level, of which there is one below
  pub tally-back : {a : Tally} {c : ℕ} → 0 < c → TallyTo counts sums (c + 1) a → TallyTo counts sums (c - 1 + 1) (tally (a.count - get_or counts c 0) (a.sum - get_or sums c 0))
  tally-back {a} {c} h t =
      let e : c - 1 + 1 ≡ c = omega arith in
      rw e (record { count = omega (arith, t.count, sum_to-more counts c); sum = omega (arith, t.sum, sum_to-more sums c) })

  pub tally-enough : {a : Tally} (c : ℕ) → TallyTo counts sums (c + 1) a → (get_or counts c 0 ≤ a.count) × (get_or sums c 0 ≤ a.sum)
  tally-enough {a} c t = (omega (arith, t.count, sum_to-more counts c), omega (arith, t.sum, sum_to-more sums c))

  -- a tally is small
  pub tally-small : LevelCells counts sums → {a : Tally} (n : ℕ) → n ≤ length counts → TallyTo counts sums n a → (a.count ≤ 961) × (a.sum ≤ 245055)
  tally-small q {a} n h t = (omega (arith, t.count, q.count_high n h), omega (arith, t.sum, q.sum_high n h))

  pub half_at : (k : Coefficients) {a : Tally} (i : ℕ) → TallyTo counts sums (i + 1) a → reaches_half k a.count a.sum ≡ passes k counts sums i
  unfolding passes
  half_at k {a} i t = ap₂ (reaches_half k) (t.count ∙ ap (sum_to counts) (add-one i)) (t.sum ∙ ap (sum_to sums) (add-one i))

  -- ---- where the first one is
  module _ {k : Coefficients} where
    pub fail_none : FailTo k counts sums 0
    fail_none = record { fails = λ j h. absurd (omega arith) }

    pub fail-next : {i : ℕ} → FailTo k counts sums i → passes k counts sums i ≡ false → FailTo k counts sums (i + 1)
    fail-next {i} f e = record { fails = λ j h. go j h (native.Mathlib.Decide.ℕ_discrete j i) }
      where
        go : (j : ℕ) → j < i + 1 → Dec (j ≡ i) → passes k counts sums j ≡ false
        go j h (yes d) = rw d e
        go j h (no d) = f.fails j (omega arith)

    pub first-here : {i : ℕ} → FailTo k counts sums i → i < length counts → passes k counts sums i ≡ true → i ≡ first_level k counts sums
    unfolding first_level
    first-here {i} f h e =
        sym (first-unique (passes k counts sums) (length counts) i (record { within = omega arith; passes = λ _. e; before = f.fails }))

    -- some level passes, so those that fall short are not all
    pub fail-inside : ListsSearchable k counts sums → {i : ℕ} → FailTo k counts sums i → i < length counts
    unfolding first_level
    fail-inside q {i} f = go (native.Mathlib.Decide.dec_lt (first_level k counts sums) i)
      where
        go : Dec (first_level k counts sums < i) → i < length counts
        go (yes h) =
            absurd (true≢false (sym ((first-is (passes k counts sums) (length counts)).passes q.some) ∙ f.fails (first_level k counts sums) h))
        go (no h) = omega (arith, q.some)

    -- and where all but the last do, it passes
    pub pass-last : ListsSearchable k counts sums → {i : ℕ} → length counts ≤ i + 1 → FailTo k counts sums i → passes k counts sums i ≡ true
    pass-last q {i} h f = go (passes k counts sums i) refl
      where
        go : (b : Bool) → passes k counts sums i ≡ b → passes k counts sums i ≡ true
        go true e = e
        go false e = absurd (omega (arith, fail-inside q (fail-next f e)))

    -- below a level that falls short every level does, where the cumulative weight never falls
    pub fail-below : Rising k counts sums → {c : ℕ} → c < length counts → passes k counts sums c ≡ false → FailTo k counts sums (c + 1)
    fail-below r {c} l e = record { fails = λ j h. go j h (passes k counts sums j) refl }
      where
        go : (j : ℕ) → j < c + 1 → (b : Bool) → passes k counts sums j ≡ b → passes k counts sums j ≡ false
        go j h true d = absurd (true≢false (sym (r.rises j c (omega arith) l d) ∙ e))
        go j h false d = d

-- ---- upward: the levels below i fall short
pub record Ascending (k : Coefficients) (counts sums : List ℕ) (from : ℕ) (a : Tally) (i : ℕ) : Type 0 where
  pub from_low : from ≤ i
  pub to : i < length counts
  pub tally : TallyTo counts sums i a
  pub fails : FailTo k counts sums i

-- ---- downward: the level passes
pub record Descending (k : Coefficients) (counts sums : List ℕ) (a : Tally) (c : ℕ) : Type 0 where
  pub tally : TallyTo counts sums (c + 1) a
  pub pass : passes k counts sums c ≡ true
