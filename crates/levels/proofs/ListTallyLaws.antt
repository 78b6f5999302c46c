-- Tallies of lists, and over a step of the window.
-- Assumes nothing.
use mathlib.Core.Path.{◌≡◌, sym, ap₂, ◌∙◌}
use mathlib.Core.List.{List}
use Prim.Native.Nat.{ℕ, ◌+◌, ◌<◌}
use native.Mathlib.Nat.{le_trans, le_of_eq}
use native.Mathlib.Omega.{arith}
use lib.Dec.{ltb}
use Rattle.spec.proofs.Bounds.{if-high}
use Rattle.spec.specs.declared.Plan.{Plan}
use lib.ListN.{length}
use Rattle.spec.specs.Frame.{Frame, frame_with}
use Rattle.spec.specs.Checks.{Pictured}
use Rattle.spec.proofs.Limits
use Rattle.spec.proofs.Plans.{pixel-of}
use Rattle.window.specs.declared.line.Step.{Step}
use Rattle.window.specs.Line.{Adjacent, step_of}
use Rattle.window.proofs.FormLaws.{both-in}
use Rattle.pixels.specs.declared.Pixel.{Pixel}
use Rattle.pixels.specs.Pixels.{count_of, level_in, guide_in, pixel_fold, PixelsBelow, LinePixels}
use Rattle.pixels.proofs.SumLaws.{below-most}
use Rattle.pixels.proofs.AdditiveLaws.{pixels-none, pixels-more, stepped}
use Rattle.level_search.specs.declared.Tally.{Tally}
use Rattle.levels.specs.Tally.{below_sum, BelowAt, one_below, guide_below}
use Rattle.levels.specs.ListTally.{ListTally, Carriable, CarriedBy, Carries}
use Rattle.level_search.proofs.SearchLaws.{tally}
use Rattle.levels.proofs.TallyLaws.{below-count-high, below-guide-high}

pub tally_none : (p : List Pixel) (n : ℕ) → ListTally p n 0 (tally 0 0)
tally_none p n = record {
  count = sym (pixels-none ◌+◌ 0 p (one_below n));
  sum = sym (pixels-none ◌+◌ 0 p (guide_below n));
  count_high = omega arith;
  sum_high = omega arith;
}

-- one pixel more
pub tally-next : {p : List Pixel} → PixelsBelow 1024 256 p → {n k u w c s : ℕ} → k < count_of p → u ≡ one_below n (level_in p k) (guide_in p k) →
    w ≡ guide_below n (level_in p k) (guide_in p k) → ListTally p n k (tally c s) → ListTally p n (k + 1) (tally (c + u) (s + w))
tally-next {p} v {n} {k} h eu ew t = record {
  count = ap₂ ◌+◌ t.count eu ∙ sym (pixels-more ◌+◌ 0 p (one_below n) k);
  sum = ap₂ ◌+◌ t.sum ew ∙ sym (pixels-more ◌+◌ 0 p (guide_below n) k);
  count_high = omega (arith, t.count_high, eu, if-high (ltb (level_in p k) n) 1 1 (omega arith));
  sum_high = omega (arith, t.sum_high, ew, if-high (ltb (level_in p k) n) (guide_in p k) 255 (omega (arith, v.guide k h)));
}

-- ---- a step of the window
module _ {b vs : List ℕ} {z : Plan} (pl : Pictured b vs z) {s t s' t' : ℕ} (adj : Adjacent z s t s' t') {d : Step} (ed : d ≡ step_of z s t s' t')
    {e l : List Pixel} (re : LinePixels b vs z d.entering e) (rl : LinePixels b vs z d.leaving l) {n : ℕ} {a : Tally}
    (v : BelowAt (frame_with b vs) s t n a)
  where
    pub carriable : Carriable e l n a
    unfolding below_sum
    carriable =
        let k = pixel-of pl (both-in adj).0 (both-in adj).1 in
        record {
          count_high = le_trans (le_of_eq v.count) (below-count-high k n);
          sum_high = le_trans (le_of_eq v.sum) (below-guide-high k n);
          count_enough = omega (arith, stepped (λ (h : ℕ → ℕ → ℕ). h) pl adj ed re rl (one_below n), v.count);
          sum_enough = omega (arith, stepped (λ (h : ℕ → ℕ → ℕ). h) pl adj ed re rl (guide_below n), v.sum);
        }

    pub carried-below : {r : Tally} → CarriedBy e l n a r → BelowAt (frame_with b vs) s' t' n r
    unfolding below_sum
    carried-below m = record {
      count = omega (arith, stepped (λ (h : ℕ → ℕ → ℕ). h) pl adj ed re rl (one_below n), v.count, m.count);
      sum = omega (arith, stepped (λ (h : ℕ → ℕ → ℕ). h) pl adj ed re rl (guide_below n), v.sum, m.sum);
    }

    pub carries-step : Carries (frame_with b vs) e l s' t' n a
    carries-step =
        record { entering = below-most pl re.below; leaving = below-most pl rl.below; carriable = carriable; carried = λ r m. carried-below m }

-- ---- no step: two empty lists
none : (x : List Pixel) → length x ≡ 0 → (h : ℕ → ℕ → ℕ) → pixel_fold ◌+◌ 0 x h ≡ 0
none x o h = let k : count_of x ≡ 0 = omega (arith, o) in rw k (pixels-none ◌+◌ 0 x h)

empty : (x : List Pixel) → length x ≡ 0 → PixelsBelow 1024 256 x
empty x o = record { few = omega (arith, o); level = λ k h. absurd (omega (arith, o)); guide = λ k h. absurd (omega (arith, o)) }

module _ {p : Frame} {s t : ℕ} (q : Limits.Pixel p s t) {n : ℕ} {a : Tally} (v : BelowAt p s t n a) {e l : List Pixel} (ne : length e ≡ 0) (nl : length l ≡ 0)
  where
    pub carries-still : Carries p e l s t n a
    carries-still = record {
      entering = empty e ne;
      leaving = empty l nl;
      carriable = record {
        count_high = le_trans (le_of_eq v.count) (below-count-high q n);
        sum_high = le_trans (le_of_eq v.sum) (below-guide-high q n);
        count_enough = omega (arith, none l nl (one_below n));
        sum_enough = omega (arith, none l nl (guide_below n));
      };
      carried = λ r m. record {
        count = omega (arith, m.count, v.count, none l nl (one_below n), none e ne (one_below n));
        sum = omega (arith, m.sum, v.sum, none l nl (guide_below n), none e ne (guide_below n));
      };
    }
