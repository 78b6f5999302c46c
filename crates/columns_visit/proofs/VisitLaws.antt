-- The window's two blocks of the store as lists by level, and what a visit leaves.
-- Assumes nothing.
use mathlib.Core.Path.{◌≡◌, refl, sym, ap, ap₂, subst, ◌∙◌}
use mathlib.Core.Bool.{false}
use mathlib.Core.List.{List, ◌++◌}
use Prim.Native.Nat.{ℕ, ◌+◌, ◌*◌, ◌≤◌}
use native.Mathlib.Nat.{add-mul, mul_assoc}
use native.Mathlib.Omega.{arith}
use lib.ListN.{length, get_or, drop}
use Rattle.spec.specs.declared.Level.{Level}
use Rattle.spec.specs.declared.Plan.{Plan}
use Rattle.spec.specs.declared.Way.TheVariants.{Columns}
use Rattle.spec.specs.Frame.{Frame, frame_of}
use Rattle.spec.specs.Checks.{Planned}
use Rattle.spec.specs.Calls.{room_of}
use Rattle.spec.specs.Columns.{column_store}
use Rattle.spec.specs.Window.{empty}
use Rattle.spec.specs.Walk.{arrive}
use Rattle.spec.proofs.Lists.{part-long, part-cell}
use Rattle.spec.proofs.Own.{count-empty, count-read}
use Rattle.spec.proofs.Plans.{facts}
use Rattle.window.specs.declared.sums.Sums.{Sums}
use Rattle.window.specs.Sums.{SumsAt}
use Rattle.window.proofs.PixelLaws.{plan-limits, levels_high}
use Rattle.level_search.specs.declared.search.Found.{Found}
use Rattle.levels.specs.Answer.{Profiled, Answered}
use Rattle.levels.proofs.TallyLaws.{below-empty}
use Rattle.chain_nodes.specs.declared.FreeList.{FreeList}
use Rattle.columns.specs.Blocks.{blocks_size}
use Rattle.columns.proofs.ContentLaws.{holds-cell, holds-self, content-window, content-window-guide}
use Rattle.columns.proofs.MoveLaws.{held-long}
use Rattle.visit.specs.declared.Running.{Running}
use Rattle.visit.specs.declared.Visit.{Visit}
use Rattle.visit.specs.Visit.{answered, unread}
use Rattle.visit.proofs.Laws.{state-is, unread-state}
use Rattle.columns_visit.specs.Visit.{window_counts, window_guides, store_at, ColumnsVisited}

-- ---- the window's blocks are inside the store
places-in : (w l n : ℕ) → 2 * (w * l) + 2 * l ≤ n → 2 * w * l + l + l ≤ n
places-in w l n h = let a : 2 * w * l ≡ 2 * (w * l) = mul_assoc 2 w l in omega arith

module _ (p : Frame) (s t : ℕ) (xs ys : List ℕ) where
  -- the store's length and the room for it are one number
  pub made : ys ≡ column_store p s t ++ drop (blocks_size p) xs → ys ≡ store_at p s t xs
  unfolding room_of
  made e = e

  pub as-made : ys ≡ store_at p s t xs → ys ≡ column_store p s t ++ drop (blocks_size p) xs
  unfolding room_of
  as-made e = e

  pub made-self : ys ≡ column_store p s t ++ drop (blocks_size p) xs → ys ≡ store_at p s t ys
  unfolding room_of
  made-self e = holds-self p s t xs ys e

pub room-long : (p : Frame) {n : ℕ} → (room_of Columns p.set).numbers ≤ n → blocks_size p ≤ n
unfolding room_of
room-long p h = h

-- ---- what they hold
module _ {b : List ℕ} {z : Plan} (pl : Planned b z) (s t : ℕ) (xs : List ℕ) (e : xs ≡ store_at (frame_of b) s t xs) where
  held : xs ≡ column_store (frame_of b) s t ++ drop (blocks_size (frame_of b)) xs
  held = as-made (frame_of b) s t xs xs e

  pub store-places : (z.width ≤ 1024) × (z.levels ≤ 1024) × (2 * (z.width * z.levels) + 2 * z.levels ≤ length xs)
  store-places = ((plan-limits pl).width, levels_high pl, held-long pl s t xs held)

  abbrev at : ℕ
  at = 2 * z.width * z.levels

  part_end : at + z.levels + z.levels ≤ length xs
  part_end = places-in z.width z.levels (length xs) store-places.2

  abbrev p : Frame
  p = frame_of b

  first-place : (i : ℕ) → at + i ≡ 2 * p.set.width * p.set.levels + i
  first-place i = let f = facts pl in rw (f.width, f.levels) refl

  second-place : (i : ℕ) → at + z.levels + i ≡ (2 * p.set.width + 1) * p.set.levels + i
  second-place i =
      let f = facts pl in
      let d : (2 * z.width + 1) * z.levels ≡ 2 * z.width * z.levels + 1 * z.levels = add-mul (2 * z.width) 1 z.levels in
      let g : at + z.levels + i ≡ (2 * z.width + 1) * z.levels + i = omega arith in
      g ∙ ap₂ (λ (x y : ℕ). (2 * x + 1) * y + i) f.width f.levels

  pub window-cells : Profiled (frame_of b) s t (window_counts z xs) (window_guides z xs)
  window-cells =
      let f = facts pl in
      record {
        count_long = part-long xs at z.levels (omega (arith, part_end)) ∙ f.levels;
        sum_long = part-long xs (at + z.levels) z.levels part_end ∙ f.levels;
        count_cell = λ i h.
            part-cell xs at z.levels i (rw f.levels h) ∙ ap (λ (j : ℕ). get_or xs j 0) (first-place i)
            ∙ holds-cell (frame_of b) s t xs held (2 * (frame_of b).set.width) i (omega arith) h ∙ content-window (frame_of b) s t i;
        sum_cell = λ i h.
            part-cell xs (at + z.levels) z.levels i (rw f.levels h) ∙ ap (λ (j : ℕ). get_or xs j 0) (second-place i)
            ∙ holds-cell (frame_of b) s t xs held (2 * (frame_of b).set.width + 1) i (omega arith) h ∙ content-window-guide (frame_of b) s t i;
      }

-- ---- the answer makes the visit
abbrev pub running : Sums → Found → Running
running a f = record { sums = a; below = f.tally; free = record { head = 0; count = 0 } }

pub visited : (p : Frame) (s t c n : ℕ) (a : Sums) (f : Found) (v : Visit) (xs ys : List ℕ) → v ≡ answered s t f.level f.shifts (running a f) →
    SumsAt p s t a
    → Answered Columns p s t c n f → ys ≡ column_store p s t ++ drop (blocks_size p) xs → ColumnsVisited p (arrive Columns p s t c n) xs v ys
visited p s t c n a f v xs ys e q h m =
    subst (λ (v : Visit). ColumnsVisited p (arrive Columns p s t c n) xs v ys) (sym e)
    (record {
      state = state-is Columns p s t c n f.level f.shifts f.level (running a f) h.cut h.shifts h.answer;
      sums = q;
      below = h.below;
      store = made p s t xs ys m;
    })

-- ---- a window with no reading, and one with some
pub unread-visited : (p : Frame) (s t : ℕ) (cut : Level) (n : ℕ) (a : Sums) (free : FreeList) (v : Visit) (xs ys : List ℕ)
    → v ≡ unread s t cut n a free → SumsAt p s t a → a.count ≡ 0 → ys ≡ column_store p s t ++ drop (blocks_size p) xs
    → ColumnsVisited p (arrive Columns p s t cut.0 n) xs v ys
unread-visited p s t cut n a free v xs ys e q z m =
    let none = count-empty p s t (sym q.count ∙ z) in
    subst (λ (v : Visit). ColumnsVisited p (arrive Columns p s t cut.0 n) xs v ys) (sym e)
    (record {
      state = unread-state Columns p s t cut n a free none;
      sums = q;
      below = below-empty p s t (cut.0 + 1) none;
      store = made p s t xs ys m;
    })

pub some_read : (p : Frame) (s t : ℕ) (a : Sums) → SumsAt p s t a → (a.count ≡ 0 → ⊥) → empty p s t ≡ false
some_read p s t a q z = count-read p s t (omega (arith, q.count, z))
