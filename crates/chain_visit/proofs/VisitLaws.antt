-- What a walk does at a window of kind 2: the climb ends at the median, and the new cut point and shift count are the definition's.
-- Assumes nothing.
use mathlib.Core.Path.{◌≡◌, refl, sym, ap, ap₂, ◌∙◌, subst}
use mathlib.Core.Bool.{Bool, false}
use mathlib.Core.List.{List}
use Prim.Native.Nat.{ℕ, ◌+◌, ◌≤◌, ◌<◌}
use native.Mathlib.Omega.{arith}
use lib.IntN.{ℤ, pos}
use lib.Signed.{◌<ℤ◌}
use Rattle.spec.specs.declared.Plan.{Plan}
use Rattle.std.specs.Prelude.{if◌then◌else◌}
use Rattle.spec.specs.Base.{distance, first}
use Rattle.spec.specs.Frame.{guide, frame_of}
use Rattle.spec.specs.Checks.{Planned}
use Rattle.spec.specs.Weight.{monotone}
use Rattle.spec.specs.Window.{pixel_count, empty, guide_sum}
use Rattle.spec.specs.Median.{median, answer}
use Rattle.spec.specs.declared.Way.TheVariants.{Chain}
use Rattle.spec.specs.Walk.{answer_number, next_cut, adds, arrive}
use Rattle.spec.proofs.Plans.{facts, pixel-of}
use Rattle.spec.proofs.Totals.{median-low}
use Rattle.spec.proofs.Own.{total-pos as above_zero}
use Rattle.spec.proofs.Bounds.{pixel_count-high, guide_sum-high}
use Rattle.window_weights.specs.declared.coefficients.Coefficients.{Coefficients}
use Rattle.window_weights.specs.Coefficients.{WeighsAt}
use Rattle.window.specs.Sums.{SumsAt}
use Rattle.window.proofs.PixelLaws.{levels_high}
use Rattle.chain_nodes.specs.declared.FreeList.{FreeList}
use Rattle.chain_list.specs.Chain.{sum_below}
use Rattle.chain.specs.Lines.{nodes_of, list_size}
use Rattle.chain.specs.Moves.{level_counts, level_guides, Listed, Stored}
use Rattle.chain.proofs.WindowLaws.{level-total}
use Rattle.window.specs.declared.sums.Sums.{Sums}
use Rattle.visit.specs.declared.Visit.{Visit}
use Rattle.visit.specs.Visit.{state_of}
use Rattle.visit.proofs.Laws.{at-visit}
use Rattle.chain_search.specs.Climb.{reaches_at, Climbs}
use Rattle.chain_visit.specs.Visit.{ChainVisited}
use Rattle.chain_search.proofs.ClimbLaws.{climb-median}

module _ {b : List ℕ} {z : Plan} (pl : Planned b z) where
  module _ {s t : ℕ} (hs : s < z.width) (ht : t < z.height) where
    module _ (two : z.kind ≡ 2) where
      kind-is : (frame_of b).set.kind ≡ 2
      kind-is = sym (facts pl).kind ∙ two

      pub total-pos : empty (frame_of b) s t ≡ false → (k : Coefficients) → WeighsAt (frame_of b) s t k → pos 0 <ℤ k.total
      total-pos read k w = subst (λ (n : ℤ). pos 0 <ℤ n) (sym w.total) (above_zero (pixel-of pl hs ht) read)

      -- where the climb ends is the median
      climb-is : (k : Coefficients) → WeighsAt (frame_of b) s t k →
          first (reaches_at (level_counts b s t) (level_guides b s t) k) z.levels ≡ median (frame_of b) s t
      climb-is k w =
          ap (first (reaches_at (level_counts b s t) (level_guides b s t) k)) (facts pl).levels ∙ climb-median (pixel-of pl hs ht) kind-is k w

      -- the window's list is one to climb along
      pub climbs : (k : Coefficients) → WeighsAt (frame_of b) s t k → (free : FreeList) (m : List ℕ) → Listed b z s t free m → Climbs z.levels k m
      unfolding list_size pixel_count guide_sum
      climbs k w free m c =
          let f = facts pl in
          let q = pixel-of pl hs ht in
          record {
            cap = nodes_of z;
            cnt = level_counts b s t;
            sm = level_guides b s t;
            head = free.head;
            free = free.count;
            chain = c;
            few =
                let e : sum_below (level_counts b s t) z.levels ≡ sum_below (level_counts b s t) (frame_of b).set.levels =
                ap (sum_below (level_counts b s t)) f.levels in
                omega (arith, e, level-total q (λ x y. 1), pixel_count-high q);
            light =
                let e : sum_below (level_guides b s t) z.levels ≡ sum_below (level_guides b s t) (frame_of b).set.levels =
                ap (sum_below (level_guides b s t)) f.levels in
                omega (arith, e, level-total q (guide (frame_of b)), guide_sum-high q);
            some = omega (arith, climb-is k w, median-low q, f.levels);
          }

      pub climbed : (k : Coefficients) (w : WeighsAt (frame_of b) s t k) (free : FreeList) (m : List ℕ) → Listed b z s t free m → (r : ℕ)
          → ((l : ℕ) → l ≤ 1024 → (a : Climbs l k m) → r ≡ first (reaches_at a.cnt a.sm k) l) → r ≡ median (frame_of b) s t
      unfolding climbs
      climbed k w free m c r h = h z.levels (levels_high pl) (climbs k w free m c) ∙ climb-is k w

      arrive-is : empty (frame_of b) s t ≡ false → (c n : ℕ) → arrive Chain (frame_of b) s t c n
          ≡ record {
            way = Chain;
            column = s;
            row = t;
            cut = median (frame_of b) s t;
            shifts =
                n + (if monotone (frame_of b) s t then distance (median (frame_of b) s t) c else median (frame_of b) s t);
            answer =
                median (frame_of b) s t;
          }
      unfolding arrive adds next_cut answer
      arrive-is read c n = rw read refl

      -- a visit whose level is the median, with what it adds to the shift count
      pub answers : empty (frame_of b) s t ≡ false → (c n : ℕ) (v : Visit) (r more : ℕ) (q : Bool) → v.column ≡ s → v.row ≡ t
          → v.cut.0 ≡ r → answer_number v.answer ≡ r
          → v.shifts ≡ n + more → r ≡ median (frame_of b) s t → q ≡ monotone (frame_of b) s t → more ≡ (if q then distance r c else r)
          → state_of Chain v ≡ arrive Chain (frame_of b) s t c n
      answers read c n v r more q ec er eu ea eh em eq ek =
          let added : v.shifts ≡ n + (if monotone (frame_of b) s t then distance (median (frame_of b) s t) c else median (frame_of b) s t) =
          eh ∙ ap (λ (x : ℕ). n + x) (ek ∙ ap₂ (λ (y : Bool) (x : ℕ). if y then distance x c else x) eq em) in
          (λ i. record { way = Chain; column = ec i; row = er i; cut = (eu ∙ em) i; shifts = added i; answer = (ea ∙ em) i })
          ∙ sym (arrive-is read c n)

-- the visit's window is the one that it came to, and what ran along was handed in
pub chain-visited : (b : List ℕ) (z : Plan) (s t c n : ℕ) (v : Visit) (a : Sums) (free : FreeList) (m m' : List ℕ)
    → state_of Chain v ≡ arrive Chain (frame_of b) s t c n → (v.running.sums ≡ a) × (v.running.free ≡ free)
    → SumsAt (frame_of b) s t a → Stored b z s t m free m' → ChainVisited b z (arrive Chain (frame_of b) s t c n) m v m'
chain-visited b z s t c n v a free m m' e same sums stored =
    record {
      state = e;
      sums =
          at-visit Chain (frame_of b) s t c n (λ x y. SumsAt (frame_of b) x y v.running.sums) v e
          (subst (SumsAt (frame_of b) s t) (sym same.0) sums);
      stored =
          at-visit Chain (frame_of b) s t c n (λ x y. Stored b z x y m v.running.free m') v e
          (subst (λ (q : FreeList). Stored b z s t m q m') (sym same.1) stored);
    }
