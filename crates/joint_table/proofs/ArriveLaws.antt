-- Laws of the arrival in kind 1: by the counts of a window, and a row that gives its weights, it is the frame's.
-- Assumes nothing.
use mathlib.Core.Path.{◌≡◌, refl, sym, ap, ◌∙◌}
use mathlib.Core.Bool.{Bool, true, false, true≢false, not, ◌&&◌}
use mathlib.Core.List.{List}
use Prim.Native.Nat.{ℕ, ◌+◌, ◌*◌, ◌<◌}
use native.Mathlib.Omega.{arith}
use lib.Dec.{eqb}
use lib.ListN.{get_or}
use lib.IntN.{ℤ, nat_abs}
use borrow.Author.Tests.{eq-eqb, eqb-false}
use Rattle.spec.specs.declared.Plan.{Plan}
use Rattle.spec.specs.declared.Way.{Way}
use Rattle.std.specs.Prelude.{if◌then◌else◌}
use Rattle.spec.specs.Frame.{Frame, level, guide, no_reading, frame_with, value_of}
use Rattle.spec.specs.Checks.{Pictured}
use Rattle.spec.specs.Window.{InWindow, empty}
use Rattle.spec.specs.Weight.{monotone}
use Rattle.spec.specs.Median.{median}
use Rattle.spec.specs.Joint.{balance_box_at}
use Rattle.spec.specs.Walk.{by_blocks, shifts_to, arrive}
use Rattle.spec.proofs.Checks.{both}
use Rattle.spec.proofs.Limits.{Pixel}
use Rattle.spec.proofs.Plans.{facts, kind-of}
use Rattle.spec.proofs.Own.{weightless-zero, table-light}
use Rattle.spec.proofs.Totals.{median-low, answer-median}
use Rattle.spec.proofs.Walks.{cut-read, adds-read, arrive-cut, arrive-shifts, arrive-answer}
use Rattle.joint_search.specs.declared.find.SearchEnd.{SearchEnd}
use Rattle.joint_search.specs.Search.{weightless_in}
use Rattle.joint_search.specs.Window.{Counted, RowOwn, RowWeighs, sizes_of}
use Rattle.joint_search.proofs.WindowLaws.{spot, levels-eq, box-at, weightless-is, median-is}
use Rattle.joint_answer.specs.Answer.{AnsweredBy}
use Rattle.joint_table.specs.Arrive.{Arrives}

-- every window of kind 1 is monotone, a hollow one too
table-monotone : {b vs : List ℕ} {plan : Plan} → Pictured b vs plan → (s t : ℕ) → plan.kind ≡ 1 → monotone (frame_with b vs) s t ≡ true
unfolding monotone
table-monotone {b} {vs} pl s t e = rw (eq-eqb (frame_with b vs).set.kind 1 (kind-of pl e)) refl

pub arrives-of : {b vs : List ℕ} {plan : Plan} {s t : ℕ} {cs ws row : List ℕ} → Counted b vs plan s t cs ws → empty (frame_with b vs) s t ≡ false
    → RowWeighs (frame_with b vs) s t row → plan.kind ≡ 1 → (way : Way) {c n : ℕ} {r : SearchEnd} {bx : List ℤ}
    → AnsweredBy (by_blocks way) (sizes_of plan) cs row c n r bx
    → Arrives way (frame_with b vs) s t c n r bx
arrives-of {b} {vs} {plan} {s} {t} st read weighs one way {c} {n} {r} a =
    let p = frame_with b vs in
    let m = median p s t in
    let k : r.level.0 ≡ m = a.level ∙ median-is st weighs in
    record {
      level = k ∙ sym (arrive-cut way p s t c n ∙ cut-read p s t c read);
      shifts =
          a.shifts ∙ ap (λ (q : ℕ). n + shifts_to (by_blocks way) q c) k
          ∙ ap (λ (u : Bool). n + (if u then shifts_to (by_blocks way) m c else m)) (sym (table-monotone st.pictured s t one))
          ∙ sym (arrive-shifts way p s t c n ∙ ap (λ (q : ℕ). n + q) (adds-read way p s t c read));
      box = box-at st a.box k (rw (levels-eq st) (median-low (spot st))) ∙ ap (balance_box_at p s t) (sym k);
    }

-- what is answered: the new cut point
pub cut-answer : (way : Way) (p : Frame) (s t c n : ℕ) → empty p s t ≡ false → (arrive way p s t c n).cut ≡ (arrive way p s t c n).answer
cut-answer way p s t c n read =
    arrive-cut way p s t c n ∙ cut-read p s t c read ∙ sym (answer-median p s t read) ∙ sym (arrive-answer way p s t c n)

-- a live centre that weighs something for itself: then not nothing does
not-true : (a : Bool) → not a ≡ true → a ≡ false
not-true true e = absurd (true≢false (sym e))
not-true false e = refl

pub centre-some : {b vs : List ℕ} {plan : Plan} {s t : ℕ} {cs ws row : List ℕ} → Counted b vs plan s t cs ws → empty (frame_with b vs) s t ≡ false
    → RowOwn (frame_with b vs) s t row → plan.kind ≡ 1 → {f : ℕ} → f ≡ guide (frame_with b vs) s t
    → (not (eqb (get_or row f 0) 0) && not (eqb (value_of b vs (t * plan.width + s)) no_reading)) ≡ true
    → weightless_in (sizes_of plan) cs row ≡ false
centre-some {b} {vs} {plan} {s} {t} {cs} {row = row} st read own one {f} ef e = go (weightless_in (sizes_of plan) cs row) refl
  where
    p : Frame
    p = frame_with b vs

    k : Pixel p s t
    k = spot st

    tests : (not (eqb (get_or row f 0) 0) ≡ true) × (not (eqb (value_of b vs (t * plan.width + s)) no_reading) ≡ true)
    tests = both (not (eqb (get_or row f 0) 0)) (not (eqb (value_of b vs (t * plan.width + s)) no_reading)) e

    live : eqb (level p s t) no_reading ≡ false
    live =
        ap (λ (i : ℕ). eqb i no_reading) (sym ((facts st.pictured).level_at s t))
        ∙ not-true (eqb (value_of b vs (t * plan.width + s)) no_reading) tests.1

    centre : InWindow p s t s t
    centre =
        record {
          left = omega arith;
          right = omega arith;
          wide = k.in-column;
          top = omega arith;
          bottom = omega arith;
          high = k.in-row;
          read = live;
        }

    low : guide p s t < p.set.guides
    low = k.good.guide-low s t k.in-column k.in-row

    zero : weightless_in (sizes_of plan) cs row ≡ true → get_or row f 0 ≡ 0
    zero d =
        let none = weightless-zero p s t (table-light p s t (kind-of st.pictured one)) (sym (weightless-is st read own) ∙ d) s t centre in
        ap (λ (q : ℕ). get_or row q 0) ef ∙ ap nat_abs (sym (own.is (guide p s t) low) ∙ none)

    go : (v : Bool) → weightless_in (sizes_of plan) cs row ≡ v → v ≡ false
    go true d = absurd (eqb-false (get_or row f 0) 0 (not-true (eqb (get_or row f 0) 0) tests.0) (zero d))
    go false d = refl
