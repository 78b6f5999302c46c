-- The search along the levels, by the window's counts and guide sums as two lists.
-- Assumes nothing.
use Rattle.std.specs.Prelude.{◌≡◌, Bool, true, false, List, ℕ, suc, ◌+◌, ◌≤◌, ◌<◌, length, get_or}
use Rattle.spec.specs.Base.{sum, first}
use Rattle.window_weights.specs.declared.coefficients.Coefficients.{Coefficients}
use Rattle.window_weights.specs.Coefficients.{CoefficientsSmall, reaches_half}
use Rattle.level_search.specs.declared.Tally.{Tally}
use Rattle.level_search.specs.declared.search.Found.{Found}

-- the sum of the first n numbers
unfoldable pub sum_to : List ℕ → ℕ → ℕ
sum_to xs n = sum (λ i. get_or xs i 0) 0 n

-- the tally of the levels below n
pub record TallyTo (counts sums : List ℕ) (n : ℕ) (a : Tally) : Type 0 where
  pub count : a.count ≡ sum_to counts n
  pub sum : a.sum ≡ sum_to sums n

-- whether the cumulative weight of level i is at least half of the total
unfoldable pub passes : Coefficients → List ℕ → List ℕ → ℕ → Bool
passes coefficients counts sums i = reaches_half coefficients (sum_to counts (suc i)) (sum_to sums (suc i))

-- the answer
unfoldable pub first_level : Coefficients → List ℕ → List ℕ → ℕ
first_level coefficients counts sums = first (passes coefficients counts sums) (length counts)

-- as many guide sums as counts, and small ones
pub record LevelCells (counts sums : List ℕ) : Type 0 where
  pub long : length sums ≡ length counts
  pub levels : length counts ≤ 1024
  pub count_high : (n : ℕ) → n ≤ length counts → sum_to counts n ≤ 961
  pub sum_high : (n : ℕ) → n ≤ length counts → sum_to sums n ≤ 245055

-- what every search needs: that, and an answer
pub record ListsSearchable (coefficients : Coefficients) (counts sums : List ℕ) : Type 0 where
  pub cells : LevelCells counts sums
  pub small : CoefficientsSmall coefficients
  pub some : first_level coefficients counts sums < length counts

-- the cumulative weight never falls
pub record Rising (coefficients : Coefficients) (counts sums : List ℕ) : Type 0 where
  pub rises : (i j : ℕ) → i ≤ j → j < length counts → passes coefficients counts sums i ≡ true → passes coefficients counts sums j ≡ true

-- the answer, with the tally of the levels up to it
pub record FoundAt (coefficients : Coefficients) (counts sums : List ℕ) (f : Found) : Type 0 where
  pub level : f.level.0 ≡ first_level coefficients counts sums
  pub tally : TallyTo counts sums (f.level.0 + 1) f.tally

-- the levels below c fall short
pub record FailTo (coefficients : Coefficients) (counts sums : List ℕ) (c : ℕ) : Type 0 where
  pub fails : (j : ℕ) → j < c → passes coefficients counts sums j ≡ false
