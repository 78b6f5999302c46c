-- The lowest of some levels at which their sums reach half of a total.
-- Assumes nothing.
use Rattle.std.specs.Prelude.{◌≡◌, List, ℕ, suc, ◌+◌, ◌≤◌, ◌<◌, length, get_or, ℤ, pos, nat_abs, ◌*ℤ◌, ◌≤ℤ◌, ◌<ℤ◌}
use Rattle.spec.specs.Base.{sumℤ}
use Rattle.explain_half.specs.declared.Half.{Half}

-- the sum of the first i
unfoldable pub up_to : List ℤ → ℕ → ℤ
up_to xs i = sumℤ (λ k. get_or xs k (pos 0)) 0 i

-- at most 1,024 sums, none too large
pub record SumsSmall (xs : List ℤ) : Type 0 where
  pub few : length xs ≤ 1024
  pub each : (i : ℕ) → i < length xs → nat_abs (get_or xs i (pos 0)) ≤ 173129780571075

-- a whole block of 16 sums from place i on is 0
pub record Vacant (xs : List ℤ) (i : ℕ) : Type 0 where
  pub inside : i + 16 ≤ length xs
  pub zeros : (k : ℕ) → k < 16 → get_or xs (i + k) (pos 0) ≡ pos 0

-- all of them together reach half of the total, which is above 0, and no sum is too large
pub record HalfInReach (xs : List ℤ) (total : ℤ) : Type 0 where
  pub sums : SumsSmall xs
  pub small : (i : ℕ) → i ≤ length xs → nat_abs (up_to xs i) ≤ 173129780571075
  pub positive : pos 0 <ℤ total
  pub total_small : nat_abs total ≤ 173129780571075
  pub reaches : total ≤ℤ (pos 2 *ℤ up_to xs (length xs))

-- r's level reaches it and none below does
pub record HalfReached (xs : List ℤ) (total : ℤ) (r : Half) : Type 0 where
  pub inside : r.level.0 < length xs
  pub below : r.below ≡ up_to xs r.level.0
  pub reached : r.reached ≡ up_to xs (suc r.level.0)
  pub reaches : total ≤ℤ (pos 2 *ℤ r.reached)
  pub lowest : (i : ℕ) → i < r.level.0 → (pos 2 *ℤ up_to xs (suc i)) <ℤ total
