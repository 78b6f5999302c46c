-- The window's counts and guide sums of each level, and the definition's median found in them.
-- Assumes nothing.
use mathlib.Core.Path.{◌≡◌, refl, sym, ap, ap₂, ◌∙◌}
use mathlib.Core.Bool.{Bool, true, false}
use mathlib.Core.List.{List}
use Prim.Native.Nat.{ℕ, zero, suc, ◌+◌, ◌-◌, ◌≤◌, ◌<◌}
use native.Mathlib.Nat.{le_trans, le_of_eq, add-zero}
use native.Mathlib.Numerals.{add-one}
use native.Mathlib.Omega.{arith}
use native.Mathlib.Decide.{ℕ_discrete, dec_lt}
use lib.Dec.{ltb, eqb}
use lib.ListN.{length, get_or}
use lib.IntN.{ℤ, pos, ◌+ℤ◌, ◌*ℤ◌, *ℤ-zero}
use lib.Signed.{◌≤ℤ◌, le_z}
use borrow.Author.Tests.{eq-eqb, ne_eqb, lt-ltb, le-ltb}
use Rattle.ints.specs.Order.{≤_trans, ≤-of-eq}
use Rattle.ints.specs.Ring.{mul-one}
use Rattle.spec.specs.declared.Plan.{Plan}
use Rattle.spec.specs.declared.Way.{Way}
use Rattle.std.specs.Prelude.{if◌then◌else◌}
use Rattle.spec.specs.Base.{sum}
use Rattle.spec.specs.Frame.{Frame, level, guide, frame_of}
use Rattle.spec.specs.Checks.{Planned}
use Rattle.spec.specs.Window.{empty, level_sum}
use Rattle.spec.specs.Weight.{weight, monotone, slope, offset}
use Rattle.spec.specs.Median.{total_weight, cumulative, median, answer}
use Rattle.spec.specs.Walk.{by_blocks, shifts_to, next_cut, adds, arrive}
use Rattle.spec.proofs.First.{first-unique}
use Rattle.spec.proofs.Ranges.{nat_sums}
use Rattle.spec.proofs.Sums.{sum-none, sum-suc, over-in_window, over-both, over-constant, over-mono, over-scale, over-pos}
use Rattle.spec.proofs.Limits.{Pixel}
use Rattle.spec.proofs.Plans.{facts, pixel-of}
use Rattle.spec.proofs.Own.{weight-linear}
use Rattle.spec.proofs.Levels.{level_weight, level-linear, cumulative-linear}
use Rattle.spec.proofs.Totals.{le-le_z, le_z-le, le-balance, balance-le, median-first, median-low}
use Rattle.spec.proofs.Monotone.{monotone-none, balance-mono}
use Rattle.window_weights.specs.declared.coefficients.Coefficients.{Coefficients}
use Rattle.window_weights.specs.Coefficients.{WeighsAt, CoefficientsSmall, ends_not_negative, weight_of, reaches_half}
use Rattle.window.proofs.PixelLaws.{guides-range}
use Rattle.window_weights.proofs.CoefficientLaws.{ends-monotone}
use Rattle.level_search.specs.declared.Tally.{Tally}
use Rattle.level_search.specs.declared.search.Found.{Found}
use Rattle.levels.specs.Tally.{below_sum, BelowAt}
use Rattle.level_search.specs.Search.{sum_to, TallyTo, passes, first_level, LevelCells, ListsSearchable, Rising, FoundAt}
use Rattle.level_search.specs.Block.{EndsBelow, Heaviest}
use Rattle.levels.specs.Answer.{Profiled, Answerable, FromCut, Answered}
use Rattle.level_search.proofs.SearchLaws.{sum_to-none, sum_to-more}
use Rattle.level_search.proofs.BlockLaws.{formula-below}
use Rattle.levels.proofs.TallyLaws.{below-count-high, below-guide-high}

pub guided : {b : List ℕ} {z : Plan} → Planned b z → z.kind ≡ 2 → (frame_of b).set.kind ≡ 2
guided pl two = sym (facts pl).kind ∙ two

-- ---- sums below a level, level by level
none_below : (v w : ℕ) → (if ltb v 0 then w else 0) ≡ 0
none_below v w = rw (le-ltb v 0 (omega arith)) refl

one_more : (v n w : ℕ) → (if ltb v (suc n) then w else 0) ≡ (if ltb v n then w else 0) + (if eqb v n then w else 0)
one_more v n w = go (dec_lt v n) (ℕ_discrete v n)
  where
    go : Dec (v < n) → Dec (v ≡ n) → (if ltb v (suc n) then w else 0) ≡ (if ltb v n then w else 0) + (if eqb v n then w else 0)
    go (yes a) d = rw (lt-ltb v (suc n) (omega arith), lt-ltb v n a, ne_eqb v n (λ e. omega arith)) (sym (add-zero w))
    go (no a) (yes e) = rw (lt-ltb v (suc n) (omega arith), le-ltb v n (omega arith), eq-eqb v n e) (omega arith)
    go (no a) (no e) = rw (le-ltb v (suc n) (omega arith), le-ltb v n (omega arith), ne_eqb v n e) refl

module _ (p : Frame) (s t : ℕ) where
  pub below-zero : (f : ℕ → ℕ → ℕ) → below_sum p s t f 0 ≡ 0
  unfolding below_sum
  below-zero f =
      over-in_window ◌+◌ 0 nat_sums p s t _ (λ x y. 0) (λ x y h. none_below (level p x y) (f x y)) ∙ over-constant p s t 0 ∙ omega arith

  pub below_next : (f : ℕ → ℕ → ℕ) (n : ℕ) → below_sum p s t f (suc n) ≡ below_sum p s t f n + level_sum p s t f n
  unfolding below_sum level_sum
  below_next f n =
      over-in_window ◌+◌ 0 nat_sums p s t _ _ (λ x y h. one_more (level p x y) n (f x y))
      ∙ over-both ◌+◌ 0 nat_sums p s t (λ x y. if ltb (level p x y) n then f x y else 0) (λ x y. if eqb (level p x y) n then f x y else 0)

  -- the levels' own numbers add up to it
  below-sum : (f : ℕ → ℕ → ℕ) (n : ℕ) → below_sum p s t f n ≡ sum (level_sum p s t f) 0 n
  below-sum f zero = below-zero f ∙ sym (sum-none (level_sum p s t f))
  below-sum f (suc n) = below_next f n ∙ ap (λ (k : ℕ). k + level_sum p s t f n) (below-sum f n) ∙ sym (sum-suc (level_sum p s t f) n)

  -- kind 2: the cumulative weight is linear in the two
  below-linear : Pixel p s t → p.set.kind ≡ 2 → (i : ℕ)
      → slope p s t *ℤ pos (below_sum p s t (guide p) (suc i)) +ℤ offset p s t *ℤ pos (below_sum p s t (λ x y. 1) (suc i)) ≡ cumulative p s t i
  below-linear k two i = rw (below-sum (guide p) (suc i), below-sum (λ x y. 1) (suc i)) (sym (cumulative-linear k two i))

-- ---- the window's counts and guide sums
to_below : (p : Frame) (s t : ℕ) (f : ℕ → ℕ → ℕ) (xs : List ℕ) → ((i : ℕ) → i < p.set.levels → get_or xs i 0 ≡ level_sum p s t f i)
    → (n : ℕ) → n ≤ p.set.levels → sum_to xs n ≡ below_sum p s t f n
to_below p s t f xs c zero h = sum_to-none xs ∙ sym (below-zero p s t f)
to_below p s t f xs c (suc n) h =
    ap (sum_to xs) (sym (add-one n)) ∙ sum_to-more xs n ∙ ap₂ ◌+◌ (to_below p s t f xs c n (omega arith)) (c n (omega arith)) ∙ sym
    (below_next p s t f n)

module _ {p : Frame} {s t : ℕ} (q : Pixel p s t) {counts sums : List ℕ} (c : Profiled p s t counts sums) where
  pub count-to : (n : ℕ) → n ≤ p.set.levels → sum_to counts n ≡ below_sum p s t (λ x y. 1) n
  count-to n h = to_below p s t (λ x y. 1) counts c.count_cell n h

  pub sum-to : (n : ℕ) → n ≤ p.set.levels → sum_to sums n ≡ below_sum p s t (guide p) n
  sum-to n h = to_below p s t (guide p) sums c.sum_cell n h

  pub level-cells : LevelCells counts sums
  level-cells =
      record {
        long = c.sum_long ∙ sym c.count_long;
        levels = omega (arith, c.count_long, q.good.sound.levels_high);
        count_high = λ n h. le_trans (le_of_eq (count-to n (omega (arith, c.count_long)))) (below-count-high q n);
        sum_high = λ n h. le_trans (le_of_eq (sum-to n (omega (arith, c.count_long)))) (below-guide-high q n);
      }

  pub tally-below : {n : ℕ} {a : Tally} → n ≤ p.set.levels → TallyTo counts sums n a → BelowAt p s t n a
  tally-below {n} h v = record { count = v.count ∙ count-to n h; sum = v.sum ∙ sum-to n h }

  pub below-tally : {n : ℕ} {a : Tally} → n ≤ p.set.levels → BelowAt p s t n a → TallyTo counts sums n a
  below-tally {n} h v = record { count = v.count ∙ sym (count-to n h); sum = v.sum ∙ sym (sum-to n h) }

  -- ---- the search is the definition's
  module _ (two : p.set.kind ≡ 2) {k : Coefficients} (w : WeighsAt p s t k) where
    pub passes-is : (i : ℕ) → i < p.set.levels → passes k counts sums i ≡ le_z (total_weight p s t) (pos 2 *ℤ cumulative p s t i)
    unfolding passes reaches_half
    passes-is i h =
        let e : weight_of k (sum_to counts (suc i)) (sum_to sums (suc i)) ≡ cumulative p s t i =
        rw (w.slope, w.offset, count-to (suc i) (omega arith), sum-to (suc i) (omega arith)) (below-linear p s t q two i) in
        ap₂ (λ (a b : ℤ). le_z a (pos 2 *ℤ b)) w.total e

    pub median-is : first_level k counts sums ≡ median p s t
    unfolding first_level
    median-is =
        let m = median-first p s t in
        let l = median-low q in
        first-unique (passes k counts sums) (length counts) (median p s t)
        (record {
          within = omega (arith, c.count_long);
          passes = λ h. passes-is (median p s t) l ∙ m.passes l;
          before = λ j h. passes-is j (omega arith) ∙ m.before j h;
        })

    pub searchable : CoefficientsSmall k → ListsSearchable k counts sums
    searchable m = record { cells = level-cells; small = m; some = omega (arith, median-is, median-low q, c.count_long) }

    pub rising : monotone p s t ≡ true → Rising k counts sums
    rising e =
        record {
          rises = λ i j h l a.
              let lj : j < p.set.levels = omega (arith, c.count_long) in
              let li : i < p.set.levels = omega arith in
              let b = le-balance p s t i (le_z-le _ _ (sym (passes-is i li) ∙ a)) in
              passes-is j lj ∙ le-le_z (balance-le p s t j (≤_trans b (balance-mono p s t (monotone-none q e) i j h)));
        }

    -- ---- no pixel outweighs the larger end of the formula
    pixel-below : {m : ℤ} → EndsBelow k p.set.guides m → (b : Bool) (g : ℕ) → g < p.set.guides →
        (if b then weight p s t g else pos 0) ≤ℤ (m *ℤ pos (if b then 1 else 0))
    pixel-below {m} e true g h =
        ≤_trans (≤-of-eq (weight-linear q g two ∙ sym (ap₂ (λ (c d : ℤ). c *ℤ pos g +ℤ d) w.slope w.offset)))
        (≤_trans (formula-below k.slope k.offset m {g = g} {m = p.set.guides - 1} (omega arith) e.low e.high)
        (≤-of-eq (sym (mul-one m))))
    pixel-below {m} e false g h = ≤-of-eq (sym (*ℤ-zero m))

    level-below : {m : ℤ} → EndsBelow k p.set.guides m → (i : ℕ) → level_weight p s t i ≤ℤ (m *ℤ pos (level_sum p s t (λ x y. 1) i))
    unfolding level_weight level_sum
    level-below {m} e i =
        ≤_trans
        (over-mono p s t _ (λ x y. m *ℤ pos (if eqb (level p x y) i then 1 else 0))
        (λ x y h. pixel-below e (eqb (level p x y) i) (guide p x y) (q.good.guide-low x y h.wide h.high)))
        (≤-of-eq
        (over-scale p s t m (λ x y. pos (if eqb (level p x y) i then 1 else 0)) ∙ ap (λ (z : ℤ). m *ℤ z)
        (over-pos p s t (λ x y. if eqb (level p x y) i then 1 else 0))))

    pub heaviest : {m : ℤ} → EndsBelow k p.set.guides m → Heaviest k counts sums m
    heaviest {m} e =
        record {
          level = λ i h.
              let l : i < p.set.levels = omega (arith, c.count_long) in
              rw (c.count_cell i l, c.sum_cell i l, w.slope, w.offset) (≤_trans (≤-of-eq (sym (level-linear q i two))) (level-below e i));
          not_negative = e.not_negative;
          small = e.small;
        }

-- ---- what is answered, where there is a reading
pub answered : {p : Frame} {s t : ℕ} → Pixel p s t → {counts sums : List ℕ} → Profiled p s t counts sums → p.set.kind ≡ 2 → {k : Coefficients} →
    WeighsAt p s t k → (way : Way) {c n : ℕ} {f : Found} {m : Bool}
    → m ≡ monotone p s t → empty p s t ≡ false → FoundAt k counts sums f
    → f.shifts ≡ n + (if m then shifts_to (by_blocks way) f.level.0 c else f.level.0)
    → Answered way p s t c n f
unfolding arrive adds next_cut answer
answered {p} {s} {t} q cells two w way {c} {n} {f} {m} em r e sh =
    let l : f.level.0 ≡ median p s t = e.level ∙ median-is q cells two w in
    record {
      answer = rw r l;
      cut = rw r l;
      shifts = sh ∙ rw (r, em, l) refl;
      below = tally-below q cells (omega (arith, l, median-low q)) e.tally;
    }

-- ---- what a way asks and gets, of its window's two lists and its coefficients
module _ {b : List ℕ} {z : Plan} (pl : Planned b z) (two : z.kind ≡ 2) {s t : ℕ} (hs : s < z.width) (ht : t < z.height) where
  q : Pixel (frame_of b) s t
  q = pixel-of pl hs ht

  module _ {k : Coefficients} (w : WeighsAt (frame_of b) s t k × CoefficientsSmall k) {counts sums : List ℕ}
      (v : Profiled (frame_of b) s t counts sums) {m : Bool} (em : m ≡ ends_not_negative k z.guides) where
    is-monotone : m ≡ monotone (frame_of b) s t
    is-monotone = em ∙ ends-monotone pl two w.0 hs ht

    pub answerable : {n : ℕ} → n ≤ 4294967296 → Answerable k z.guides m n counts sums
    answerable ln = record {
      search = searchable q v (guided pl two) w.0 w.1;
      heaviest = λ y e. heaviest q v (guided pl two) w.0 (rw (facts pl).guides at e);
      guides_some = (guides-range pl).0;
      guides_high = (guides-range pl).1;
      shifts = ln;
      rising = λ e. rising q v (guided pl two) w.0 (sym is-monotone ∙ e);
    }

    pub from_cut : {c : ℕ} {a : Tally} → c < z.levels → (m ≡ true → BelowAt (frame_of b) s t (c + 1) a) → FromCut m c a counts sums
    from_cut lc below = record {
      cut = omega (arith, v.count_long, (facts pl).levels);
      tally = λ e. below-tally q v (omega (arith, (facts pl).levels)) (below e);
    }

    pub answered-at : (way : Way) {c n : ℕ} {f : Found} → empty (frame_of b) s t ≡ false → FoundAt k counts sums f
        → f.shifts ≡ n + (if m then shifts_to (by_blocks way) f.level.0 c else f.level.0) → Answered way (frame_of b) s t c n f
    answered-at way r e sh = answered q v (guided pl two) w.0 way is-monotone r e sh

-- ---- the tally of the levels below an end
module _ {b : List ℕ} {z : Plan} (pl : Planned b z) {s t : ℕ} (hs : s < z.width) (ht : t < z.height) {counts sums : List ℕ}
    (v : Profiled (frame_of b) s t counts sums) {n : ℕ} (h : n ≤ z.levels) where
  pub gathered : {a : Tally} → TallyTo counts sums n a → BelowAt (frame_of b) s t n a
  gathered u = tally-below (pixel-of pl hs ht) v (omega (arith, (facts pl).levels)) u
