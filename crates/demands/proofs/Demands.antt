-- The three demands and requests 4 and 7, proved from the contracts of the calls and the laws of the definitions; specs/Demands.antt has the
-- statements, BytePlanes.antt what is said of the calls on byte planes.
-- Assumes nothing.
use Prim.Native.Nat.{ℕ, zero, suc, ◌+◌, ◌*◌, ◌/◌, ◌%◌, ◌≤◌, ◌<◌}
use mathlib.Core.Path.{◌≡◌, refl, sym, ap, ap₂, ◌∙◌, subst}
use mathlib.Core.Bool.{Bool, true, false}
use mathlib.Core.Logic.{◌⊎◌, inl, inr}
use mathlib.Core.List.{List, ◌++◌}
use native.Mathlib.Omega.{arith}
use native.Mathlib.Numerals.{add-one}
use lib.Arith.{digits_div, digits_mod}
use lib.ListN.{length, get_or, take, drop, get_or-append}
use lib.Seq.{take_at}
use lib.IntN.{ℤ, pos, ◌*ℤ◌}
use lib.Signed.{◌≤ℤ◌, ◌<ℤ◌}
use Rattle.ints.specs.Linear.{ints}
use Rattle.spec.specs.declared.Move.TheVariants.{To}
use Rattle.spec.specs.declared.Cause.{Cause}
use Rattle.spec.specs.declared.Cause.TheVariants.{Hollow, Empty}
use Rattle.spec.specs.declared.Grounds.{Grounds}
use Rattle.spec.specs.declared.Way.TheVariants.{Joint}
use Rattle.std.specs.Prelude.{Result, Ok, Err}
use Rattle.spec.specs.Refusal.{Outcome, accepted, refused, numbered, number, values_of}
use Rattle.spec.specs.Frame.{Frame, pixels, frame_of, with_values}
use Rattle.spec.specs.Window.{InWindow, pixel_count, empty}
use Rattle.spec.specs.Median.{total_weight, cumulative, balance, median, answer}
use Rattle.spec.specs.Walk.{answer_number, State, move, step, walk_end, walk_answers}
use Rattle.spec.specs.Filter.{filtered, filter_end}
use Rattle.spec.specs.Weight.{weightless}
use Rattle.spec.specs.Explain.{cumulative_below, Applies, cause_of, Grounded}
use Rattle.spec.specs.Calls.{way_of, walk_outcome, filter_outcome, balance_outcome, explain_outcome}
use Rattle.spec.specs.Tolerance.{own_values, LeastAndGreatest}
use Rattle.spec.specs.Writer.{written, written_size, writer_outcome, stored}
use Rattle.spec.proofs.Checks.{not-refused}
use Rattle.spec.proofs.Limits.{FrameLimits, Pixel, limits_of, in-plane}
use Rattle.spec.proofs.Calls.{walk-accepted, filter-accepted, explain-accepted}
use Rattle.spec.proofs.Ranges.{nat_sums}
use Rattle.spec.proofs.Sums.{over-in_window, over_none, over-term}
use Rattle.spec.proofs.Own.{
  weight-own,
  total-one,
  cumulative-one,
  total-weightless,
  total-weighs,
  empty-count,
  count-empty,
  count-read,
  total-empty,
  cumulative-empty,
}
use Rattle.spec.proofs.Totals.{median-low, median-at, median-before, balance-le, balance-lt, answer-median, answer-empty}
use Rattle.spec.proofs.Minimum.{minimum}
use Rattle.spec.proofs.Climb.{cumulative_below-zero, cumulative_below-suc}
use Rattle.spec.proofs.Causes.{never_both, applies, applies-once, below_half, reached-half}
use Rattle.spec.proofs.Walks.{
  StateBounded,
  marks,
  walk_first,
  walk-next,
  walk-bounded,
  walk-length,
  walk-shifts,
  walk_same,
  step-level,
  Fine,
  move-fine,
}
use Rattle.spec.proofs.First.{length-tabulate}
use Rattle.spec.proofs.Tolerance.{accepted-tolerance}
use Rattle.spec.proofs.Serpentine.{filtered-at}
use Rattle.ice_step.specs.declared.Walked.{Walked}
use Rattle.ice_step.specs.Finished.{Lent, room_in}
use Rattle.frame_write.proofs.Reopening.{wrote-returned}
use Rattle.ice.specs.Contract.{Untouched, Ended, Walks, Filters, Explains}
use Rattle.tolerance.specs.declared.Tolerated.{Tolerated}
use Rattle.tolerance.specs.Contract.{Buffers, outcome_of, AllKept, BothFiltered, Tolerates}
use Rattle.demands.proofs.Table.{
  walk-table,
  filter-table,
  balance-table,
  explain-table,
  tolerance-table,
  writer-table,
  split-table,
  join-table,
  cameras-table,
}
use Rattle.demands.proofs.BytePlanes.{split-or-refused, joined-or-refused}
use Rattle.demands.proofs.Cameras.{filtered-long, shared-or-refused}
use Rattle.demands.specs.Demands.{
  WalkedOrRefused,
  FilteredOrRefused,
  BalancedOrRefused,
  ExplainedOrRefused,
  WrittenOrRefused,
  Demand1,
  pixels_up_to,
  LowestLevel,
  IsAnswer,
  EveryPixel,
  Demand2,
  Minimises,
  ByteAnswered,
  AllWaysAgree,
  OneRule,
  FilterMinimises,
  Demand3,
  Justified,
  EveryExplanation,
  ExplainsTheAnswer,
  Request4,
  ToleratedOrRefused,
  LeastAndGreatestGiven,
  LeastIsFiltered,
  Request7,
}

-- ---- demand 1: a result is a value or a refusal
walked-or-refused : WalkedOrRefused
walked-or-refused b way s t moves a z before after (Ok w) h = inl (w, refl, h.walked (sym h.verdict))
walked-or-refused b way s t moves a z before after (Err e) h =
    inr (number e, values_of e, refl, sym h.verdict, h.refused (λ q. not-refused (h.verdict ∙ q)))

filtered-or-refused : FilteredOrRefused
filtered-or-refused b way a z before after (Ok w) h = inl (w, refl, h.filtered (sym h.verdict))
filtered-or-refused b way a z before after (Err e) h =
    inr (number e, values_of e, refl, sym h.verdict, h.refused (λ q. not-refused (h.verdict ∙ q)))

balanced-or-refused : BalancedOrRefused
balanced-or-refused b s t i (Ok n) h = inl (ap Ok (h.balanced (sym h.verdict)), sym h.verdict)
balanced-or-refused b s t i (Err e) h = inr (number e, values_of e, refl, sym h.verdict)

explained-or-refused : ExplainedOrRefused
explained-or-refused b s t (Ok g) h = inl (g, refl, sym h.verdict, h.explained (sym h.verdict))
explained-or-refused b s t (Err e) h = inr (number e, values_of e, refl, sym h.verdict)

tolerated-or-refused : ToleratedOrRefused
tolerated-or-refused b upper a z (Ok w) h = inl (w, refl, sym h.verdict, h.filtered (sym h.verdict))
tolerated-or-refused b upper a z (Err e) h =
    inr (number e, values_of e, refl, sym h.verdict, h.refused (λ q. not-refused (h.verdict ∙ q)))

written-or-refused : WrittenOrRefused
written-or-refused k v g a old (Ok n) new h =
    inl (ap Ok (h.size (sym h.verdict)), h.output ∙ ap (λ (o : Outcome). stored o (written k v g a) old) (sym h.verdict))
written-or-refused k v g a old (Err e) new h =
    inr (number e, values_of e, refl, sym h.verdict, h.output ∙ ap (λ (o : Outcome). stored o (written k v g a) old) (sym h.verdict))

pub demand-1 : Demand1
demand-1 =
    record {
      walk = walked-or-refused;
      filter = filtered-or-refused;
      balance = balanced-or-refused;
      explain = explained-or-refused;
      tolerance = tolerated-or-refused;
      writer = written-or-refused;
      split = split-or-refused;
      join = joined-or-refused;
      cameras = shared-or-refused;
      table =
          record {
            walk = walk-table;
            filter = filter-table;
            balance = balance-table;
            explain = explain-table;
            tolerance = tolerance-table;
            writer = writer-table;
            split = split-table;
            join = join-table;
            cameras = cameras-table;
          };
    }

-- ---- demand 2: by whether the window has a pixel
pixel-read : (p : Frame) (s t x y : ℕ) → InWindow p s t x y → empty p s t ≡ false
unfolding pixel_count
pixel-read p s t x y h = count-read p s t (over-term p s t (λ u v. 1) x y h)

no-pixel : (p : Frame) (s t : ℕ) → ((x y : ℕ) → InWindow p s t x y → ⊥) → empty p s t ≡ true
unfolding pixel_count
no-pixel p s t none =
    count-empty p s t (over-in_window ◌+◌ 0 nat_sums p s t (λ x y. 1) (λ x y. 0) (λ x y h. absurd (none x y h)) ∙ over_none ◌+◌ 0 nat_sums p s t)

lowest-answer : {p : Frame} {s t : ℕ} → Pixel p s t → empty p s t ≡ false → LowestLevel p s t (answer p s t)
lowest-answer {p} {s} {t} k read =
    rw (answer-median p s t read)
    (record {
      is_level = median-low k;
      reaches = reaches;
      lowest = lowest;
      own = λ n g. weight-own p s t g (total-weighs p s t n);
      hollow_reaches = λ z. let e = total-weightless p s t read z in
          let h : pos (pixel_count p s t) ≤ℤ (pos 2 *ℤ pos (pixels_up_to p s t (median p s t))) =
          subst (λ (u : ℤ). pos (pixel_count p s t) ≤ℤ (pos 2 *ℤ u)) (cumulative-one p s t (median p s t) e)
          (subst (λ (u : ℤ). u ≤ℤ (pos 2 *ℤ cumulative p s t (median p s t))) (total-one p s t e) reaches) in
          omega (arith, ints, h);
      hollow_lowest = λ z i l. let e = total-weightless p s t read z in
          let h : (pos 2 *ℤ pos (pixels_up_to p s t i)) <ℤ pos (pixel_count p s t) =
          subst (λ (u : ℤ). (pos 2 *ℤ u) <ℤ pos (pixel_count p s t)) (cumulative-one p s t i e)
          (subst (λ (u : ℤ). (pos 2 *ℤ cumulative p s t i) <ℤ u) (total-one p s t e) (lowest i l)) in
          omega (arith, ints, h);
    })
  where
    reaches : total_weight p s t ≤ℤ (pos 2 *ℤ cumulative p s t (median p s t))
    reaches = balance-le p s t (median p s t) (median-at k)

    lowest : (i : ℕ) → i < median p s t → (pos 2 *ℤ cumulative p s t i) <ℤ total_weight p s t
    lowest i l = balance-lt p s t i (median-before p s t i l)

is-answer : {p : Frame} {s t : ℕ} → Pixel p s t → IsAnswer p s t (answer p s t)
is-answer {p} {s} {t} k = record {
  read = λ x y h. lowest-answer k (pixel-read p s t x y h);
  none = λ h. answer-empty p s t (no-pixel p s t h);
}

module _ (b : List ℕ) (way : ℕ) (a z : Lent) (before after : List ℕ) (r : Walked) (h : Filters b way a z before after (Ok r)) where
  filter_passes : filter_outcome b way (room_in a) (length before) ≡ accepted
  filter_passes = sym h.verdict

  filter-limits : FrameLimits (frame_of b)
  filter-limits = limits_of b (filter-accepted b way (room_in a) (length before) filter_passes).file

  -- the number at a pixel's place is the answer there
  plane-at : (s t : ℕ) → s < (frame_of b).set.width → t < (frame_of b).set.height →
      get_or after (t * (frame_of b).set.width + s) 0 ≡ answer (frame_of b) s t
  unfolding filtered
  plane-at s t hs ht =
      let p = frame_of b in
      let l : t * p.set.width + s < pixels p.set = in-plane p.set s t hs ht in
      ap (λ (q : List ℕ). get_or q (t * p.set.width + s) 0) (h.filtered filter_passes).answers
      ∙ get_or-append (filtered p) (drop (pixels p.set) before) 0 (t * p.set.width + s)
      (omega (arith, l, length-tabulate (pixels p.set) (λ q. answer p (q % p.set.width) (q / p.set.width))))
      ∙ filtered-at p (t * p.set.width + s) l ∙ ap₂ (answer p) (digits_mod t hs) (digits_div t hs)

every-pixel : EveryPixel
every-pixel b way a z before after r h s t hs ht =
    subst (IsAnswer (frame_of b) s t) (sym (plane-at b way a z before after r h s t hs ht))
    (is-answer (record { good = filter-limits b way a z before after r h; in-column = hs; in-row = ht }))

pub demand-2 : Demand2
demand-2 = record { filter = every-pixel; writer = λ k v g a old n new w. wrote-returned k v g a old n new w }

-- ---- demand 3
module _ (b : List ℕ) (s t : ℕ) (moves : List ℕ) (way : ℕ) (a z : Lent) (before after : List ℕ) (r : Walked)
    (h : Walks b way s t moves a z before after (Ok r)) where
  walk-passes : walk_outcome b way s t (length moves) (room_in a) (length before) ≡ accepted
  walk-passes = sym h.verdict

  walk-pixel : Pixel (frame_of b) s t
  walk-pixel = (walk-accepted b way s t (length moves) (room_in a) (length before) walk-passes).pixel

  -- the answers are the definition's, place by place
  answer-is : (j : ℕ) → j ≤ length moves → get_or after j 0 ≡ get_or (walk_answers (frame_of b) s t moves) j 0
  answer-is j l =
      ap (λ (q : List ℕ). get_or q j 0) (h.walked walk-passes).answers
      ∙ get_or-append (walk_answers (frame_of b) s t moves) (drop (length moves + 1) before) 0 j
      (omega (arith, l, walk-length (frame_of b) s t moves))

  -- and they are its first numbers
  answers-are : take (length moves + 1) after ≡ walk_answers (frame_of b) s t moves
  answers-are =
      ap (take (length moves + 1)) (h.walked walk-passes).answers
      ∙ take_at (walk_answers (frame_of b) s t moves) (drop (length moves + 1) before) (length moves + 1)
      (omega (arith, walk-length (frame_of b) s t moves))

  shifts-are : r.shifts ≡ (walk_end (way_of way) (frame_of b) s t moves).shifts
  shifts-are = (h.walked walk-passes).shifts

-- the answer minimises
least-answer : {p : Frame} {s t : ℕ} → Pixel p s t → Minimises p s t (answer p s t)
least-answer k = record { least = λ light some i. (minimum k light some i).0; lower = λ light some i. (minimum k light some i).1 }

both-answer : {p : Frame} {s t : ℕ} → Pixel p s t → IsAnswer p s t (answer p s t) × Minimises p s t (answer p s t)
both-answer k = (is-answer k, least-answer k)

answered : {p : Frame} {x : State} {n : ℕ} → StateBounded p x n → (byte : ℕ) → ByteAnswered p x byte (step p x byte).answer
answered {p} {x} {n} k byte =
    record {
      moved = λ s t e. subst (λ (m : ℕ). IsAnswer p s t m × Minimises p s t m) (sym (step-level p x byte s t e)) (both-answer (pixel-to s t e));
      off = (marks k byte).off;
      unknown = (marks k byte).other;
      made = (marks k byte).level;
    }
  where
    pixel-to : (s t : ℕ) → move p.set x.column x.row byte ≡ To s t → Pixel p s t
    pixel-to s t e = let f =
        subst (Fine p.set byte) e (move-fine p.set x.column x.row byte k.in-column k.in-row) in record {
          good =
              k.good;
          in-column = f.0;
          in-row = f.1;
        }

all-ways-agree : AllWaysAgree
all-ways-agree b s t moves way way' a z a' z' before after before' after' r r' h h' =
    let p = frame_of b in
    let y = way_of way in
    let y' = way_of way' in
    let w = walk-pixel b s t moves way a z before after r h in
    let one = answer-is b s t moves way a z before after r h in
    let count = shifts-are b s t moves way a z before after r h in
    let count' = shifts-are b s t moves way' a' z' before' after' r' h' in
    record {
      answers = answers-are b s t moves way a z before after r h ∙ sym (answers-are b s t moves way' a' z' before' after' r' h');
      first = subst (λ (m : ℕ). IsAnswer p s t m × Minimises p s t m) (sym (one 0 (omega arith) ∙ walk_first p s t moves)) (both-answer w);
      next = λ j l. subst (ByteAnswered p (walk_end y p s t (take j moves)) (get_or moves j 0))
          (sym (ap (λ (q : ℕ). get_or after q 0) (add-one j) ∙ one (suc j) l ∙ walk-next y p s t moves j l))
          (answered (walk-bounded w y (take j moves)) (get_or moves j 0));
      shifts = λ e. count ∙ walk_same y y' e p s t moves ∙ sym count';
      distances = count ∙ walk-shifts y p s t moves;
      distances' = count' ∙ walk-shifts y' p s t moves;
    }

filter-minimises : FilterMinimises
filter-minimises b way a z before after r h s t hs ht =
    subst (Minimises (frame_of b) s t) (sym (plane-at b way a z before after r h s t hs ht))
    (least-answer (record { good = filter-limits b way a z before after r h; in-column = hs; in-row = ht }))

one-rule : OneRule
unfolding way_of
one-rule zero l h = absurd (omega arith)
one-rule (suc zero) l h = refl
one-rule (suc (suc zero)) l h = refl
one-rule (suc (suc (suc zero))) l h = refl
one-rule (suc (suc (suc (suc n)))) l h = absurd (omega arith)

pub demand-3 : Demand3
demand-3 = record { agree = all-ways-agree; rule = one-rule; minimum = filter-minimises }

-- ---- request 4
justified : {p : Frame} {s t : ℕ} → Pixel p s t → (g : Grounds) → Grounded p s t g → Justified p s t g
justified {p} {s} {t} k g h =
    record {
      answered = subst (IsAnswer p s t) (sym h.answered) (is-answer k);
      below_half = λ x y q. subst (λ (u : ℤ). (pos 2 *ℤ u) <ℤ g.total) (sym h.below)
          (subst (λ (u : ℤ). (pos 2 *ℤ cumulative_below p s t (answer p s t)) <ℤ u) (sym h.total) (below_half k (pixel-read p s t x y q)));
      reaches-half = λ x y q. subst (λ (u : ℤ). g.total ≤ℤ (pos 2 *ℤ u)) (sym h.reached)
          (subst (λ (u : ℤ). u ≤ℤ (pos 2 *ℤ cumulative p s t (answer p s t))) (sym h.total) (reached-half k (pixel-read p s t x y q)));
      none_below = λ z. h.below ∙ ap (cumulative_below p s t) (sym h.answered ∙ z) ∙ cumulative_below-zero p s t;
      empty_zeros = λ none. let e = no-pixel p s t none in (
        h.pixels ∙ empty-count p s t e,
        h.total ∙ total-empty p s t e,
        h.below ∙ none-up-to (answer p s t) e,
        h.reached ∙ cumulative-empty p s t (answer p s t) e,
        h.cause ∙ applies-once k (cause_of p s t) Empty (applies k) e,
      );
      applies = subst (Applies p s t) (sym h.cause) (applies k);
      only = λ c a. applies-once k c (cause_of p s t) a (applies k) ∙ sym h.cause;
      one_end = never_both k;
      hollow_total = λ e. h.total ∙ total-one p s t (hollow e) ∙ ap pos (sym h.pixels);
      hollow_below = λ e i l. h.below ∙ ap (cumulative_below p s t) (sym h.answered ∙ l) ∙ cumulative_below-suc p s t i
          ∙ cumulative-one p s t i (hollow e);
      hollow_reached = λ e. h.reached ∙ ap (cumulative p s t) (sym h.answered) ∙ cumulative-one p s t (answer_number g.answer) (hollow e);
    }
  where
    none-up-to : (m : ℕ) → empty p s t ≡ true → cumulative_below p s t m ≡ pos 0
    none-up-to zero e = cumulative_below-zero p s t
    none-up-to (suc m) e = cumulative_below-suc p s t m ∙ cumulative-empty p s t m e

    hollow : g.cause ≡ Hollow → weightless p s t ≡ true
    hollow e = subst (Applies p s t) (sym h.cause ∙ e) (applies k)

module _ (b : List ℕ) (s t : ℕ) (g : Grounds) (h : Explains b s t (Ok g)) where
  explain-passes : explain_outcome b s t ≡ accepted
  explain-passes = sym h.verdict

  explained-pixel : Pixel (frame_of b) s t
  explained-pixel = (explain-accepted b s t explain-passes).pixel

  explained-answer : answer_number g.answer ≡ answer (frame_of b) s t
  explained-answer = (h.explained explain-passes).answered

every-explanation : EveryExplanation
every-explanation b s t g h = justified (explained-pixel b s t g h) g (h.explained (explain-passes b s t g h))

explains-the-answer : ExplainsTheAnswer
explains-the-answer b s t g h =
    let p = frame_of b in
    let k = explained-pixel b s t g h in
    let said = sym (explained-answer b s t g h) in
    record {
      filtered = λ way a z old new w f. plane-at b way a z old new w f s t k.in-column k.in-row ∙ said;
      started = λ way moves a z old new w f. answer-is b s t moves way a z old new w f 0 (omega arith) ∙ walk_first p s t moves ∙ said;
      led = λ way u v moves a z old new w f j l e. ap (λ (q : ℕ). get_or new q 0) (add-one j)
          ∙ answer-is b u v moves way a z old new w f (suc j) l ∙ walk-next (way_of way) p u v moves j l
          ∙ step-level p (walk_end (way_of way) p u v (take j moves)) (get_or moves j 0) s t e ∙ said;
    }

pub request-4 : Request4
request-4 = record { grounds = every-explanation; answer = explains-the-answer }

-- ---- request 7
-- an output that begins with a plane of answers
plane-of : (p : Frame) (n : ℕ) (new old : List ℕ) → n ≡ pixels p.set → new ≡ filtered p ++ drop n old → take n new ≡ filtered p
plane-of p n new old e h = ap (take n) h ∙ take_at (filtered p) (drop n old) n (filtered-long p ∙ sym e)

module _ (b upper : List ℕ) (a z : Buffers) (r : Tolerated) (h : Tolerates b upper a z (Ok r)) where
  tolerance-passes : outcome_of b upper a ≡ accepted
  tolerance-passes = sym h.verdict

  both-filtered : BothFiltered (frame_of b) (with_values (frame_of b) upper) a z r
  both-filtered = h.filtered tolerance-passes

  least-plane : take (pixels (frame_of b).set) z.least ≡ filtered (frame_of b)
  least-plane = plane-of (frame_of b) (pixels (frame_of b).set) z.least a.least refl both-filtered.least

  greatest-plane : take (pixels (frame_of b).set) z.greatest ≡ filtered (with_values (frame_of b) upper)
  greatest-plane = plane-of (with_values (frame_of b) upper) (pixels (frame_of b).set) z.greatest a.greatest refl both-filtered.greatest

least-and-greatest-given : LeastAndGreatestGiven
least-and-greatest-given b upper a z r h =
    let p = frame_of b in
    let n = pixels p.set in
    subst (λ (l : List ℕ). LeastAndGreatest p (own_values p) upper l (take n z.greatest)) (sym (least-plane b upper a z r h))
    (subst (λ (l : List ℕ). LeastAndGreatest p (own_values p) upper (filtered p) l) (sym (greatest-plane b upper a z r h))
    (accepted-tolerance b upper _ _ _ (tolerance-passes b upper a z r h)))

least-is-filtered : LeastIsFiltered
unfolding filter_end
least-is-filtered b upper a z r h way before after old new w f =
    let p = frame_of b in
    let ended = f.filtered (sym f.verdict) in (
      least-plane b upper a z r h ∙ sym (plane-of p (pixels p.set) new old refl ended.answers),
      λ e. (both-filtered b upper a z r h).least-shifts ∙ walk_same Joint (way_of way) (sym e) p 0 0 _ ∙ sym ended.shifts,
    )

pub request-7 : Request7
request-7 = record { planes = least-and-greatest-given; least = least-is-filtered }
