-- Laws of a visit: from the stores that a start or a move leaves to those that the search reads.
-- Assumes nothing.
use mathlib.Core.Path.{◌≡◌, refl, sym, ap, subst, ◌∙◌}
use mathlib.Core.Bool.{Bool, true, false, true≢false}
use mathlib.Core.Logic.{inl, inr}
use mathlib.Core.List.{List, []}
use Prim.Native.Nat.{ℕ, zero, suc, ◌+◌, ◌-◌, ◌≤◌, ◌<◌}
use native.Mathlib.Numerals.{add-one}
use lib.ListN.{length, take}
use lib.Seq.{length-take-le}
use native.Mathlib.Omega.{arith}
use lib.Dec.{eqb}
use lib.IntN.{ℤ}
use borrow.Author.Tests.{eq-eqb, ne_eqb}
use Rattle.spec.specs.declared.Plan.{Plan}
use Rattle.spec.specs.declared.Way.{Way}
use Rattle.spec.specs.declared.Way.TheVariants.{Joint, Coarse}
use Rattle.std.specs.Prelude.{if◌then◌else◌}
use Rattle.spec.specs.Frame.{Frame, frame_of, frame_with}
use Rattle.spec.specs.Checks.{Pictured}
use Rattle.spec.specs.Window.{pixel_count}
use Rattle.spec.specs.Joint.{balance_box_at}
use Rattle.spec.specs.Walk.{by_blocks, arrive}
use Rattle.spec.proofs.Plans.{facts, kind-of, pixel-of}
use Rattle.spec.proofs.Tolerance.{same-sums}
use Rattle.window.specs.declared.line.Step.{Step}
use Rattle.window.specs.declared.sums.Sums.{Sums}
use Rattle.window.specs.Line.{Adjacent, step_of}
use Rattle.window.specs.Sums.{one, SumsAt}
use Rattle.pixels.specs.declared.Pixel.{Pixel}
use Rattle.pixels.specs.Pixels.{count_of, pixel_fold_to, pixel_fold, LinePixels}
use Rattle.pixels.proofs.AdditiveLaws.{pixels-none, pixels-more, stepped}
use Rattle.histogram.specs.Histogram.{Histogram}
use Rattle.level_search.specs.declared.Tally.{Tally}
use Rattle.levels.specs.ListTally.{Carries}
use Rattle.joint.specs.List.{Exchangeable, CountsExchanged, BoxExchanged}
use Rattle.joint.specs.Window.{JointAt, Held}
use Rattle.joint.proofs.PixelLaws.{exchanged-joint}
use Rattle.joint.proofs.WindowLaws.{settled}
use Rattle.joint_search.specs.Window.{Counted}
use Rattle.visit.specs.declared.Visit.{Visit}
use Rattle.visit.specs.Visit.{state_of}
use Rattle.visit.proofs.Laws.{at-visit}
use Rattle.joint_guided.specs.Guided.{GuidedVisited, BlocksVisited}
use Rattle.joint_visit.specs.Visit.{JointWay, box_cut, JointCarried, JointVisited}

module _ {b vs : List ℕ} {z : Plan} (pl : Pictured b vs z) where
  pub counted_of : {s t c : ℕ} {xs ws xs' ws' : List ℕ} {bx' : List ℤ} → s < z.width → t < z.height
      → JointAt (frame_with b vs) s t c xs ws xs' ws' bx' →
      Counted b vs z s t xs' ws'
  counted_of hs ht j =
      let k = settled (pixel-of pl hs ht) j in
      record { pictured = pl; column = hs; row = ht; counts = k.counts; words = k.words }

  -- kind 1 carries the number of pixels alone
  pub carried-count : {s t c : ℕ} {a : Sums} {w : Tally} {ns : List ℕ} → z.kind ≡ 1 → a.count ≡ pixel_count (frame_with b vs) s t
      → JointCarried (frame_with b vs) s t c a w ns
  carried-count one e = record { count = e; guided = λ two. absurd (omega (arith, one, (facts pl).kind, two)) }

  -- the number of pixels that the file's own values give
  pub count-own : {s t : ℕ} {a : Sums} → SumsAt (frame_of b) s t a → a.count ≡ pixel_count (frame_with b vs) s t
  count-own {s} {t} a = a.count ∙ sym (same-sums b vs pl.accepts pl.fits s t).0

-- ---- with no plane: what the search of kind 2 asks for, which is said of the file's own values
module _ (b : List ℕ) {vs : List ℕ} (s t : ℕ) (none : vs ≡ []) where
  pub counted-own : {z : Plan} {xs ws : List ℕ} → Counted b vs z s t xs ws → Counted b [] z s t xs ws
  counted-own {z} {xs} {ws} = subst (λ (u : List ℕ). Counted b u z s t xs ws) none

  pub box-own : (c : ℕ) {bx : List ℤ} → bx ≡ balance_box_at (frame_with b vs) s t c → bx ≡ balance_box_at (frame_of b) s t c
  box-own c {bx} = subst (λ (u : List ℕ). bx ≡ balance_box_at (frame_with b u) s t c) none

  pub sums-own : {a : Sums} → SumsAt (frame_with b vs) s t a → SumsAt (frame_of b) s t a
  sums-own {a} = subst (λ (u : List ℕ). SumsAt (frame_with b u) s t a) none

  pub histogram-own : {ns : List ℕ} → Histogram (frame_with b vs) s t ns → Histogram (frame_of b) s t ns
  histogram-own {ns} = subst (λ (u : List ℕ). Histogram (frame_with b u) s t ns) none

  pub carries_own : {e l : List Pixel} {n : ℕ} {w : Tally} → Carries (frame_with b vs) e l s t n w → Carries (frame_of b) e l s t n w
  carries_own {e} {l} {n} {w} = subst (λ (u : List ℕ). Carries (frame_with b u) e l s t n w) none

-- ---- the number of pixels over a step, by those of the two lists
ones : (p : List Pixel) (k : ℕ) → pixel_fold_to ◌+◌ 0 p one k ≡ k
ones p zero = pixels-none ◌+◌ 0 p one
ones p (suc k) = sym (ap (pixel_fold_to ◌+◌ 0 p one) (add-one k)) ∙ pixels-more ◌+◌ 0 p one k ∙ ap (λ (n : ℕ). n + 1) (ones p k) ∙ add-one k

listed : (n : ℕ) (p : List Pixel) → n ≤ length p → pixel_fold ◌+◌ 0 (take n p) one ≡ n
listed n p h = ones (take n p) (count_of (take n p)) ∙ length-take-le n p h

module _ {b vs : List ℕ} {z : Plan} (pl : Pictured b vs z) {s t s' t' : ℕ} (adj : Adjacent z s t s' t') {d : Step} (ed : d ≡ step_of z s t s' t')
    {n k : ℕ} (e l : List Pixel) (he : n ≤ length e) (hl : k ≤ length l) (re : LinePixels b vs z d.entering (take n e))
    (rl : LinePixels b vs z d.leaving (take k l)) {m : ℕ} (v : m ≡ pixel_count (frame_with b vs) s t) where
  count-stepped : pixel_count (frame_with b vs) s' t' + k ≡ m + n
  unfolding pixel_count
  count-stepped = omega (arith, stepped (λ (g : ℕ → ℕ → ℕ). g) pl adj ed re rl one, listed n e he, listed k l hl, v)

  pub count_enough : k ≤ m + n
  count_enough = omega (arith, count-stepped)

  pub count-moved : m + n - k ≡ pixel_count (frame_with b vs) s' t'
  count-moved = omega (arith, count-stepped)

-- ---- the level of the box
pub box-cut-table : (blocks : Bool) (kind c : ℕ) → kind ≡ 1 → box_cut blocks kind c ≡ c
unfolding box_cut
box-cut-table blocks kind c e = rw (ne_eqb kind 2 (λ d. omega arith)) refl

pub box-cut-joint : (kind c : ℕ) → box_cut false kind c ≡ c
unfolding box_cut
box-cut-joint kind c = go (eqb kind 2)
  where
    go : (b : Bool) → (if b then c else c) ≡ c
    go true = refl
    go false = refl

pub box-cut-guided : (kind c : ℕ) → kind ≡ 2 → box_cut true kind c ≡ 0
unfolding box_cut
box-cut-guided kind c e = rw (eq-eqb kind 2 e) refl

-- the level that a step finds it at, and stores and box that are moved with it there
module _ {b vs : List ℕ} {z : Plan} {s t : ℕ} {xs ws : List ℕ} {bx : List ℤ} (way : Way) (c : ℕ)
    (hd : Held b vs z s t (box_cut (by_blocks way) z.kind c) xs ws bx) {blocks : Bool} (eb : blocks ≡ by_blocks way) {l : ℕ}
    (el : l ≡ box_cut blocks z.kind c) where
  pub kept-level : l ≡ box_cut (by_blocks way) z.kind c
  kept-level = el ∙ ap (λ (y : Bool). box_cut y z.kind c) eb

  pub kept-held : Held b vs z s t l xs ws bx
  kept-held = subst (λ (q : ℕ). Held b vs z s t q xs ws bx) (sym kept-level) hd

  pub kept-moved : {s' t' : ℕ} → Adjacent z s t s' t' → {d : Step} → d ≡ step_of z s t s' t' → {e p : List Pixel}
      → LinePixels b vs z d.entering e → LinePixels b vs z d.leaving p → {xs₂ ws₂ : List ℕ} {bx₂ : List ℤ}
      → ((a : Exchangeable z.guides e p xs ws) → CountsExchanged a.entering.levels z.guides e p xs ws xs₂ ws₂)
      → BoxExchanged l e p bx bx₂ → JointAt (frame_with b vs) s' t' l xs ws xs₂ ws₂ bx₂
  kept-moved adj ed re rl after u = exchanged-joint kept-held adj ed re rl after u

-- which way it is
pub coarse-way : (way : Way) → JointWay way → by_blocks way ≡ true → way ≡ Coarse
coarse-way way (inl e) b = absurd (true≢false (sym b ∙ ap by_blocks e))
coarse-way way (inr e) b = e

pub joint-way : (way : Way) → JointWay way → by_blocks way ≡ false → way ≡ Joint
joint-way way (inl e) b = e
joint-way way (inr e) b = absurd (true≢false (sym (ap by_blocks e) ∙ b))

-- ---- the window is the visit's own
pub joint-visited : (way : Way) (p : Frame) (s t c n : ℕ) (v : Visit) (xs ws xs' ws' : List ℕ) (bx : List ℤ) (ns : List ℕ)
    → state_of way v ≡ arrive way p s t c n → JointAt p s t (box_cut (by_blocks way) p.set.kind v.cut.0) xs ws xs' ws' bx
    → JointCarried p s t v.cut.0 v.running.sums v.running.below ns → JointVisited way p (arrive way p s t c n) v xs ws xs' ws' bx ns
joint-visited way p s t c n v xs ws xs' ws' bx ns e j k =
    record {
      state = e;
      joint = at-visit way p s t c n (λ x y. JointAt p x y (box_cut (by_blocks way) p.set.kind v.cut.0) xs ws xs' ws' bx) v e j;
      carried = at-visit way p s t c n (λ x y. JointCarried p x y v.cut.0 v.running.sums v.running.below ns) v e k;
    }

-- ---- by kind and way, from stores that were made or moved with the box at the kept level
module _ {b vs : List ℕ} {z : Plan} (pl : Pictured b vs z) (way : Way) (c n : ℕ) {s t : ℕ} {v : Visit}
    {xs ws xs' ws' : List ℕ} {bx : List ℤ} {ns : List ℕ} where
  -- kind 1
  pub table-visited : {d m : ℕ} {bx₀ : List ℤ} → z.kind ≡ 1 → m ≡ pixel_count (frame_with b vs) s t → JointAt (frame_with b vs) s t d xs ws xs' ws' bx₀
      → (state_of way v ≡ arrive way (frame_with b vs) s t c n) × (bx ≡ balance_box_at (frame_with b vs) s t v.cut.0) × (v.running.sums.count ≡ m)
      → JointVisited way (frame_with b vs) (arrive way (frame_with b vs) s t c n) v xs ws xs' ws' bx ns
  table-visited one em j e =
      joint-visited way (frame_with b vs) s t c n v xs ws xs' ws' bx ns e.0
      (record {
        counts = j.counts;
        words = j.words;
        box = e.1 ∙ ap (balance_box_at (frame_with b vs) s t)
            (sym (box-cut-table (by_blocks way) (frame_with b vs).set.kind v.cut.0 (kind-of pl one)));
      })
      (carried-count pl one (e.2 ∙ em))

  -- kind 2, way 1, which has no plane in place of the file's values
  pub guided-visited : {d : ℕ} {bx₀ : List ℤ} → JointWay way → by_blocks way ≡ false → vs ≡ [] → JointAt (frame_with b vs) s t d xs ws xs' ws' bx₀
      → GuidedVisited (frame_of b) s t c n v bx ns → JointVisited way (frame_with b vs) (arrive way (frame_with b vs) s t c n) v xs ws xs' ws' bx ns
  guided-visited w e none j own =
      let g = subst (λ (u : List ℕ). GuidedVisited (frame_with b u) s t c n v bx ns) (sym none) own in
      rw (joint-way way w e)
      (joint-visited Joint (frame_with b vs) s t c n v xs ws xs' ws' bx ns g.state
      (record {
        counts = j.counts;
        words = j.words;
        box = g.box ∙ ap (balance_box_at (frame_with b vs) s t) (sym (box-cut-joint (frame_with b vs).set.kind v.cut.0));
      })
      (record { count = g.guided.sums.count; guided = λ _. g.guided }))

  -- kind 2, way 4: the box has not been touched since
  pub blocks-visited : JointWay way → by_blocks way ≡ true → z.kind ≡ 2 → vs ≡ [] → JointAt (frame_with b vs) s t 0 xs ws xs' ws' bx
      → BlocksVisited (frame_of b) s t c n v ns → JointVisited way (frame_with b vs) (arrive way (frame_with b vs) s t c n) v xs ws xs' ws' bx ns
  blocks-visited w e two none j own =
      let g = subst (λ (u : List ℕ). BlocksVisited (frame_with b u) s t c n v ns) (sym none) own in
      rw (coarse-way way w e)
      (joint-visited Coarse (frame_with b vs) s t c n v xs ws xs' ws' bx ns g.state
      (record {
        counts = j.counts;
        words = j.words;
        box = j.box ∙ ap (balance_box_at (frame_with b vs) s t) (sym (box-cut-guided (frame_with b vs).set.kind v.cut.0 (kind-of pl two)));
      })
      (record { count = g.guided.sums.count; guided = λ _. g.guided }))
