-- The search by blocks: where the first block whose end reaches half is.
-- Assumes nothing.
use mathlib.Core.Path.{◌≡◌, sym, ◌∙◌, subst}
use mathlib.Core.Bool.{true, false, true≢false}
use mathlib.Core.List.{List}
use Prim.Native.Nat.{ℕ, ◌+◌, ◌*◌, ◌≤◌, ◌<◌}
use native.Mathlib.Omega.{arith}
use native.Mathlib.Decide.{dec_lt}
use lib.ListN.{length}
use Rattle.spec.specs.Base.{first}
use Rattle.spec.proofs.First.{first-is}
use Rattle.window_weights.specs.declared.coefficients.Coefficients.{Coefficients}
use Rattle.level_search.specs.declared.Tally.{Tally}
use Rattle.level_search.specs.Search.{sum_to, TallyTo, FailTo, Rising, passes, first_level}
use Rattle.level_search.proofs.SearchLaws.{tally, tally_none, fail_none, fail-below}
use Rattle.level_search.proofs.BlockLaws.{tally-block}
use Rattle.levels.specs.Blocks.{FirstBlock}

-- the levels of the first b blocks fall short; their tally
pub record BlocksPassed (k : Coefficients) (counts sums : List ℕ) (b : ℕ) (a : Tally) : Type 0 where
  pub tally : TallyTo counts sums (b * 16) a
  pub fails : FailTo k counts sums (b * 16)

pub none_passed : (k : Coefficients) (counts sums : List ℕ) → BlocksPassed k counts sums 0 (tally 0 0)
none_passed k counts sums = record { tally = tally_none; fails = fail_none }

module _ {k : Coefficients} {counts sums : List ℕ} (r : Rising k counts sums) {b : ℕ} {a : Tally} (h : BlocksPassed k counts sums b a) where
  -- the tally through the block
  pub through : (x y : ℕ) → x + sum_to counts (b * 16) ≡ sum_to counts (b * 16 + 16) → y + sum_to sums (b * 16) ≡ sum_to sums (b * 16 + 16) →
      TallyTo counts sums (b * 16 + 15 + 1) (tally (a.count + x) (a.sum + y))
  through x y ex ey =
      let e : b * 16 + 15 + 1 ≡ b * 16 + 16 = omega arith in
      rw e (tally-block x y h.tally ex ey)

  -- a block whose end falls short is passed
  pub block-passed : {a' : Tally} → b * 16 + 16 < length counts → passes k counts sums (b * 16 + 15) ≡ false → TallyTo counts sums (b * 16 + 15 + 1) a' →
      BlocksPassed k counts sums (b + 1) a'
  block-passed {a'} l e t =
      let d : b * 16 + 15 + 1 ≡ (b + 1) * 16 = omega arith in
      record { tally = rw d at t; fails = subst (λ (j : ℕ). FailTo k counts sums j) d (fail-below r (omega arith) e) }

  first-low : (c : ℕ) → passes k counts sums c ≡ true → first_level k counts sums ≤ c
  unfolding first_level
  first-low c e = go (dec_lt c (first (passes k counts sums) (length counts)))
    where
      go : Dec (c < first (passes k counts sums) (length counts)) → first (passes k counts sums) (length counts) ≤ c
      go (yes y) = absurd (true≢false (sym e ∙ (first-is (passes k counts sums) (length counts)).before c y))
      go (no y) = omega arith

  -- the block whose end reaches half has the answer
  pub block-reaches : {n : ℕ} → b * 16 < length counts → passes k counts sums (b * 16 + 15) ≡ true →
      FirstBlock k counts sums (record { level = record { 0 = b * 16 }; tally = a; shifts = n })
  block-reaches l p =
      let m = first-low (b * 16 + 15) p in
      record { block = (b, omega arith); low = l; tally = h.tally; fails = h.fails; near = omega arith }
