-- What the store's moves ask and give, in the plan's terms.
-- Assumes nothing.
use mathlib.Core.Path.{◌≡◌, sym}
use mathlib.Core.Bool.{true, false}
use mathlib.Core.List.{List, ◌++◌}
use mathlib.Core.Logic.{inl, inr}
use Prim.Native.Nat.{ℕ, ◌+◌, ◌*◌, ◌≤◌, ◌<◌}
use native.Mathlib.Nat.{mul-le-mul}
use native.Mathlib.Omega.{arith}
use lib.ListN.{length, get_or, drop}
use Rattle.std.specs.Option.{ForSome}
use Rattle.spec.specs.declared.Plan.{Plan}
use Rattle.spec.specs.Frame.{frame_of}
use Rattle.spec.specs.Checks.{Planned}
use Rattle.spec.specs.Columns.{column_store}
use Rattle.spec.proofs.Plans.{facts}
use Rattle.window.specs.Line.{Adjacent, right, left, down, up}
use Rattle.window.proofs.PixelLaws.{plan-limits, levels_high}
use Rattle.columns.specs.declared.store.Exchange.{Exchange}
use Rattle.columns.specs.Blocks.{Put, Able, Swap, when_some, pair_d, row_d, blocks_size, exchange_of, Neighbours, enter_d, leave_d, InWidth, SideReady}
use Rattle.columns.proofs.ContentLaws.{holds-long}
use Rattle.columns.proofs.StoreLaws.{entering-low, leaving-low, enter-able, leave-able, rows-moved}
use Rattle.columns.proofs.SideLaws.{ready-counts, ready-guides, across-holds}

-- ---- which way a move goes
pub across-is : {z : Plan} {s t s' t' : ℕ} → Adjacent z s t s' t' → (s ≡ s' → ⊥) → Neighbours s s' z.width × (t' ≡ t) × (t < z.height)
across-is (right a e h k) n = (record { by_one = inl a; in_old = omega arith; in_new = h }, e, k)
across-is (left a e h k) n = (record { by_one = inr a; in_old = h; in_new = omega arith }, e, k)
across-is (down a e h k) n = absurd (n (sym a))
across-is (up a e h k) n = absurd (n (sym a))

pub along-is : {z : Plan} {s t s' t' : ℕ} → Adjacent z s t s' t' → s ≡ s' → (s < z.width) × Neighbours t t' z.height
along-is (right a e h k) n = absurd (omega arith)
along-is (left a e h k) n = absurd (omega arith)
along-is (down a e h k) n = (h, record { by_one = inl e; in_old = omega arith; in_new = k })
along-is (up a e h k) n = (h, record { by_one = inr e; in_old = k; in_new = omega arith })

module _ {b : List ℕ} {z : Plan} (pl : Planned b z) where
  pub size_in_lem : {n : ℕ} → blocks_size (frame_of b) ≤ n → 2 * (z.width * z.levels) + 2 * z.levels ≤ n
  size_in_lem h = let f = facts pl in rw (f.width, f.levels) h

  pub size_small : z.width * z.levels ≤ 1048576
  size_small = mul-le-mul {n₂ = 1024} (plan-limits pl).width (levels_high pl)

  module _ (s t : ℕ) (xs : List ℕ) (e : xs ≡ column_store (frame_of b) s t ++ drop (blocks_size (frame_of b)) xs) where
    pub held-long : 2 * (z.width * z.levels) + 2 * z.levels ≤ length xs
    held-long = size_in_lem (holds-long (frame_of b) s t xs e)

    -- ---- up and down
    module _ {t' : ℕ} (k : Neighbours t t' z.height) {d : Exchange} (ed : d ≡ exchange_of t t' z.radius z.height) where
      rows : Neighbours t t' (frame_of b).set.height
      rows = rw (facts pl).height at k

      pub row-enters : ((j : ℕ) → get_or xs j 0 < 4294967296)
          → (ForSome d.entering (λ y. y < z.height)) × Able true z.levels (λ m i. when_some d.entering (λ y. row_d (frame_of b) s y m i)) xs
      unfolding enter_d
      row-enters bits =
          let f = facts pl in
          rw (ed, f.radius, f.height, f.levels) (entering-low (frame_of b).set.radius rows, enter-able f.limits s rows xs e bits)

      pub row-leaves : (ys : List ℕ) → Put true z.levels (λ m i. when_some d.entering (λ y. row_d (frame_of b) s y m i)) xs ys
          → (ForSome d.leaving (λ y. y < z.height)) × Able false z.levels (λ m i. when_some d.leaving (λ y. row_d (frame_of b) s y m i)) ys
      unfolding enter_d leave_d
      row-leaves ys =
          let f = facts pl in
          rw (ed, f.radius, f.height, f.levels) (λ q. (leaving-low (frame_of b).set.radius rows, leave-able f.limits s rows xs e ys q))

      pub vertical-done : (ys zs : List ℕ) → Put true z.levels (λ m i. when_some d.entering (λ y. row_d (frame_of b) s y m i)) xs ys
          → Put false z.levels (λ m i. when_some d.leaving (λ y. row_d (frame_of b) s y m i)) ys zs →
          zs ≡ column_store (frame_of b) s t' ++ drop (blocks_size (frame_of b)) xs
      unfolding enter_d leave_d
      vertical-done ys zs =
          let f = facts pl in
          rw (ed, f.radius, f.height, f.levels) (λ q u. rows-moved f.limits s rows xs e ys zs q u)

    -- ---- left and right
    module _ {s' : ℕ} (k : Neighbours s s' z.width) {d : Exchange} (ed : d ≡ exchange_of s s' z.radius z.width) where
      sides : Neighbours s s' (frame_of b).set.width
      sides = rw (facts pl).width at k

      pub sides-in : InWidth z.width d
      sides-in = rw ed (record { entering = entering-low z.radius k; leaving = leaving-low z.radius k })

      pub sides-ready : SideReady z.width z.levels d xs
      sides-ready =
          let f = facts pl in
          rw (ed, f.radius, f.width, f.levels)
          (record { counts = ready-counts f.limits t sides xs e; guides = ready-guides f.limits t sides xs e })

      pub sideways-done : (ys : List ℕ)
          →
          Swap z.levels (pair_d z.width z.levels d.entering xs) (pair_d z.width z.levels d.leaving xs)
          xs ys
          → ys ≡ column_store (frame_of b) s' t ++ drop (blocks_size (frame_of b)) xs
      sideways-done ys v = let f = facts pl in across-holds f.limits t sides xs e ys (rw (ed, f.radius, f.width, f.levels) at v)
