-- Laws of kind 2's visit: the histogram as the search reads it, and the answer's place.
-- Assumes nothing.
use mathlib.Core.Path.{◌≡◌, sym, ap, ◌∙◌}
use mathlib.Core.Bool.{true, false}
use mathlib.Core.List.{List}
use Prim.Native.Nat.{ℕ, ◌+◌, ◌-◌, ◌*◌, ◌≤◌, ◌<◌}
use native.Mathlib.Nat.{zero-add}
use native.Mathlib.Omega.{arith}
use lib.ListN.{length, get_or, take, drop}
use Rattle.spec.specs.declared.Plan.{Plan}
use Rattle.spec.specs.declared.Way.{Way}
use Rattle.spec.specs.Frame.{Frame, frame_of}
use Rattle.spec.specs.Checks.{Planned}
use Rattle.spec.specs.Window.{empty}
use Rattle.spec.specs.Joint.{balance_box_at}
use lib.IntN.{ℤ}
use Rattle.spec.proofs.Lists.{part-long, part-cell}
use Rattle.spec.proofs.Plans.{facts, pixel-of}
use Rattle.spec.proofs.Totals.{median-low}
use Rattle.spec.proofs.Own.{count-empty, count-read}
use Rattle.spec.proofs.Walks.{arrive-cut, cut-read}
use Rattle.spec.specs.declared.Level.{Level}
use Rattle.spec.specs.declared.Way.TheVariants.{Joint, Coarse}
use Rattle.window.specs.declared.sums.Sums.{Sums}
use Rattle.window.specs.Sums.{SumsAt}
use Rattle.levels.proofs.TallyLaws.{below-empty}
use Rattle.visit.specs.Visit.{unread}
use Rattle.visit.proofs.Laws.{unread-state}
use Rattle.level_search.specs.declared.search.Found.{Found}
use Rattle.levels.specs.Answer.{Profiled, Answered}
use Rattle.histogram.specs.Histogram.{Histogram}
use Rattle.histogram.proofs.Laws.{count_at, sum-at}
use Rattle.joint_guided.specs.Guided.{counts_in, guide_sums_in, GuidedAt, GuidedVisited, BlocksVisited}

module _ {b : List ℕ} {z : Plan} (pl : Planned b z) where
  -- ---- the histogram, as the search reads it
  module _ {s t : ℕ} {ns : List ℕ} (v : Histogram (frame_of b) s t ns) where
    pub numbers_long : 2 * z.levels ≤ length ns
    numbers_long = omega (arith, v.long, (facts pl).levels)

    pub profiled : Profiled (frame_of b) s t (counts_in z.levels ns) (guide_sums_in z.levels ns)
    profiled =
        let f = facts pl in
        record {
          count_long = part-long ns 0 z.levels (omega (arith, numbers_long)) ∙ f.levels;
          sum_long = part-long ns z.levels z.levels (omega (arith, numbers_long)) ∙ f.levels;
          count_cell = λ i h. part-cell ns 0 z.levels i (rw f.levels h) ∙ ap (λ (j : ℕ). get_or ns j 0) (zero-add i) ∙ count_at v i h;
          sum_cell = λ i h. part-cell ns z.levels z.levels i (rw f.levels h) ∙ ap (λ (j : ℕ). get_or ns (j + i) 0) f.levels ∙ sum-at v i h;
        }

    -- as they are lent to a search
    pub profiled-parts : Profiled (frame_of b) s t (take z.levels ns) (take (2 * z.levels - z.levels) (drop z.levels ns))
    profiled-parts = let e : 2 * z.levels - z.levels ≡ z.levels = omega arith in rw e profiled

  -- ---- the answer is a level
  module _ {s t c n : ℕ} (hs : s < z.width) (ht : t < z.height) (read : empty (frame_of b) s t ≡ false) {way : Way} {f : Found}
      (h : Answered way (frame_of b) s t c n f) where
    pub answer-low : f.level.0 < z.levels
    answer-low =
        omega (arith, h.cut, arrive-cut way (frame_of b) s t c n, cut-read (frame_of b) s t c read, median-low (pixel-of pl hs ht), (facts pl).levels)

-- ---- by the number of pixels: a window with a reading, and one without
module _ (p : Frame) (s t : ℕ) {a : Sums} (v : SumsAt p s t a) where
  pub has-reading : (a.count ≡ 0 → ⊥) → empty p s t ≡ false
  has-reading n = count-read p s t (omega (arith, v.count, n))

  module _ (none : a.count ≡ 0) {ns : List ℕ} (h : Histogram p s t ns) (cut : Level) (n : ℕ) where
    no-reading : empty p s t ≡ true
    no-reading = count-empty p s t (sym v.count ∙ none)

    guided-unread : GuidedAt p s t cut.0 a (record { count = 0; sum = 0 }) ns
    guided-unread = record { sums = v; below = below-empty p s t (cut.0 + 1) no-reading; histogram = h }

    pub visited-unread : {bx : List ℤ} → bx ≡ balance_box_at p s t cut.0
        → GuidedVisited p s t cut.0 n (unread s t cut n a (record { head = 0; count = 0 })) bx ns
    visited-unread e = record {
      state = unread-state Joint p s t cut n a (record { head = 0; count = 0 }) no-reading;
      box = e;
      guided = guided-unread;
    }

    pub blocks-unread : BlocksVisited p s t cut.0 n (unread s t cut n a (record { head = 0; count = 0 })) ns
    blocks-unread = record {
      state = unread-state Coarse p s t cut n a (record { head = 0; count = 0 }) no-reading;
      guided = guided-unread;
    }
