-- From what the checks and the loops say to the contracts of walk and filter.
-- Assumes nothing.
use Prim.Native.Nat.{ℕ, ◌+◌, ◌*◌, ◌≤◌, ◌<◌}
use mathlib.Core.Path.{◌≡◌, refl, ap, ap₂, sym, ◌∙◌, subst}
use mathlib.Core.Bool.{true, false}
use mathlib.Core.Logic.{◌⊎◌, inl, inr}
use mathlib.Core.List.{List, [], ◌++◌}
use lib.IntN.{ℤ}
use lib.ListN.{length, take, drop, take-append-drop}
use Rattle.spec.specs.declared.Settings.{Settings}
use Rattle.spec.specs.declared.Plan.{Plan}
use Rattle.spec.specs.declared.Refusal.{Refusal}
use Rattle.spec.specs.declared.Grounds.{Grounds}
use Rattle.std.specs.Prelude.{Ok, Err}
use Rattle.spec.specs.declared.Way.{Way}
use Rattle.spec.specs.Refusal.{Outcome, accepted, refused, number, values_of, ◌▷◌}
use Rattle.spec.proofs.Checks.{not-refused}
use Rattle.spec.specs.Frame.{Frame, settings_of, pixels, frame_of, settings_in}
use Rattle.spec.specs.Checks.{verdict, Planned}
use Rattle.spec.specs.Walk.{State, walk_end, walk_answers}
use Rattle.spec.specs.Filter.{filtered, filter_end}
use Rattle.spec.specs.Median.{balance}
use Rattle.spec.specs.Explain.{Grounded}
use Rattle.spec.specs.Calls.{way_of, BothKinds, room_of, counts_of, words_of, walk_outcome, filter_outcome, balance_outcome, explain_outcome}
use Rattle.spec.proofs.Plans.{facts}
use Rattle.spec.proofs.Calls.{way-serves, RoomFits, walk-accepted, filter-accepted, balance-accepted, explain-accepted}
use Rattle.ice_step.specs.declared.Walked.{Walked}
use Rattle.ways.specs.Visit.{Serves}
use Rattle.ice_step.specs.Finished.{Lent, room_in, LentFits, Finished}
use Rattle.ice.specs.Contract.{Untouched, Ended, Walks, Filters, Balances, Explains}
use Rattle.ways.proofs.WayLaws.{settings-same}
use Rattle.ice.proofs.OutcomeLaws.{set-of}

-- ---- the outcome, by who decides
pub file-decides : (b : List ℕ) (own : Outcome) {n : ℕ} {l : List ℕ} → refused n l ≡ verdict b → refused n l ≡ (verdict b ▷ own)
file-decides b own e = rw (sym e) refl

pub own-decides : {b : List ℕ} {z : Plan} → Planned b z → (own : Settings → Outcome) → own (settings_in z) ≡ (verdict b ▷ own (settings_of b))
own-decides {b} {z} k own =
    ap own (settings-same k ∙ set-of b) ∙ sym (ap (λ (o : Outcome). o ▷ own (settings_of b)) k.accepts)

-- ---- refused
not-both : {o : Outcome} {n : ℕ} {l : List ℕ} → refused n l ≡ o → o ≡ accepted → ⊥
not-both e q = not-refused (e ∙ q)

untouched : (a : Lent) (out : List ℕ) → Untouched a a out out
untouched a out = record { counts = refl; words = refl; numbers = refl; summary = refl; answers = refl }

module _ (e : Refusal) (a : Lent) (out : List ℕ) where
  pub walks-refused : (b : List ℕ) (way s t : ℕ) (ms : List ℕ)
      → refused (number e) (values_of e) ≡ walk_outcome b way s t (length ms) (room_in a) (length out) → Walks b way s t ms a a out out (Err e)
  walks-refused b way s t ms q = record { verdict = q; refused = λ _. untouched a out; walked = λ o. absurd (not-both q o) }

  pub filters-refused : (b : List ℕ) (way : ℕ) → refused (number e) (values_of e) ≡ filter_outcome b way (room_in a) (length out)
      → Filters b way a a out out (Err e)
  filters-refused b way q = record { verdict = q; refused = λ _. untouched a out; filtered = λ o. absurd (not-both q o) }

-- ---- accepted
whole : (n : ℕ) (front z a : List ℕ) → take n z ≡ front → drop n z ≡ drop n a → z ≡ front ++ drop n a
whole n front z a e q = sym (take-append-drop n z) ∙ ap₂ (λ (x y : List ℕ). x ++ y) e q

ended : {way : Way} {p : Frame} {x : State} {a z : Lent} {r : Walked} (due after : List ℕ) → Finished way p x a z r → after ≡ due →
    Ended way p x a z due after r
ended {way} {p} {x} {a} {z} due after h e =
    record {
      shifts = h.closed.shifts;
      cut = h.closed.cut;
      balance-box = h.closed.handed_back.balance-box;
      counts =
          whole (room_of way p.set).counts (counts_of way p x.column x.row) z.stores.counts a.stores.counts h.holds.counts
          h.kept.counts.beyond;
      words =
          whole (room_of way p.set).words (words_of way p x.column x.row) z.stores.words a.stores.words h.holds.words
          h.kept.words.beyond;
      numbers = h.holds.numbers;
      numbers_long = h.kept.numbers.long;
      numbers_rest = h.kept.numbers.beyond;
      summary = h.closed.handed_back.summary;
      answers = e;
    }

module _ (b : List ℕ) (way : ℕ) (y : Way) (ey : y ≡ way_of way) (a z : Lent) (before after : List ℕ) (r : Walked) where
  pub walks-done : (s t : ℕ) (ms : List ℕ) → walk_outcome b way s t (length ms) (room_in a) (length before) ≡ accepted
      → Finished y (frame_of b) (walk_end y (frame_of b) s t ms) a z r → after ≡ walk_answers (frame_of b) s t ms ++ drop (length ms + 1) before
      → Walks b way s t ms a z before after (Ok r)
  walks-done s t ms o h e =
      record {
        verdict = sym o;
        refused = λ n. absurd (n o);
        walked =
            λ _. subst
            (λ (q : Way). Ended q (frame_of b) (walk_end q (frame_of b) s t ms) a z (walk_answers (frame_of b) s t ms ++ drop (length ms + 1) before) after
            r) ey (ended _ _ h e);
      }

  pub filters-done : filter_outcome b way (room_in a) (length before) ≡ accepted → Finished y (frame_of b) (filter_end y (frame_of b)) a z r
      → after ≡ filtered (frame_of b) ++ drop (pixels (frame_of b).set) before → Filters b way a z before after (Ok r)
  filters-done o h e =
      record {
        verdict = sym o;
        refused = λ n. absurd (n o);
        filtered =
            λ _. subst
            (λ (q : Way). Ended q (frame_of b) (filter_end q (frame_of b)) a z (filtered (frame_of b) ++ drop (pixels (frame_of b).set) before) after r)
            ey (ended _ _ h e);
      }

-- ---- what an accepted call hands on
module _ {b : List ℕ} {z : Plan} (k : Planned b z) (way : ℕ) (y : Way) (ey : y ≡ way_of way) where
  serves_by : BothKinds (way_of way) ⊎ ((settings_of b).kind ≡ 2) → Serves y z []
  serves_by (inl e) = (inl (subst BothKinds (sym ey) e), inl refl)
  serves_by (inr e) = (inr ((facts k).kind ∙ ap (λ (s : Settings). s.kind) (set-of b) ∙ e), inl refl)

  fits_by : (a : Lent) → RoomFits (room_of (way_of way) (settings_of b)) (room_in a) → LentFits y (settings_in z) a
  fits_by a f =
      let e : settings_of b ≡ settings_in z = sym (settings-same k ∙ set-of b) in
      let g : RoomFits (room_of y (settings_in z)) (room_in a) =
      subst (λ (q : Way). RoomFits (room_of q (settings_in z)) (room_in a)) (sym ey)
      (subst (λ (s : Settings). RoomFits (room_of (way_of way) s) (room_in a)) e f)
      in
      record { stores = record { counts = g.counts; words = g.words; numbers = g.numbers }; summary = g.summary }

  pub record Granted (s t n : ℕ) (a : Lent) (out : ℕ) : Type 0 where
    pub serves : Serves y z []
    pub pixel : (s < z.width) × (t < z.height)
    pub moves : n ≤ 1048576
    pub fit : LentFits y (settings_in z) a
    pub answers : n + 1 ≤ out

  pub granted : (s t n : ℕ) (a : Lent) (out : ℕ) → walk_outcome b way s t n (room_in a) out ≡ accepted → Granted s t n a out
  granted s t n a out o =
      let h = walk-accepted b way s t n (room_in a) out o in
      let f = facts k in
      record {
        serves = serves_by (way-serves (settings_of b) way h.serves);
        pixel = (rw f.width h.pixel.in-column, rw f.height h.pixel.in-row);
        moves = h.moves;
        fit = fits_by a h.room;
        answers = h.answers;
      }

  pub record FilterGranted (a : Lent) (out : ℕ) : Type 0 where
    pub serves : Serves y z []
    pub fit : LentFits y (settings_in z) a
    pub plane : z.width * z.height ≤ out

  pub filter-granted : (a : Lent) (out : ℕ) → filter_outcome b way (room_in a) out ≡ accepted → FilterGranted a out
  filter-granted a out o =
      let h = filter-accepted b way (room_in a) out o in
      let f = facts k in
      record {
        serves = serves_by (way-serves (settings_of b) way h.serves);
        fit = fits_by a h.room;
        plane = rw (f.width, f.height) (rw (sym (set-of b)) at h.plane);
      }

-- ---- balance
pub balances-refused : (e : Refusal) (b : List ℕ) (s t i : ℕ) → refused (number e) (values_of e) ≡ balance_outcome b s t i → Balances b s t i (Err e)
balances-refused e b s t i q = record { verdict = q; balanced = λ o. absurd (not-both q o) }

pub balances-done : (b : List ℕ) (s t i : ℕ) (n : ℤ) → balance_outcome b s t i ≡ accepted → n ≡ balance (frame_of b) s t i → Balances b s t i (Ok n)
balances-done b s t i n o q = record { verdict = sym o; balanced = λ _. q }

pub balance-granted : {b : List ℕ} {z : Plan} → Planned b z → (s t i : ℕ) → balance_outcome b s t i ≡ accepted →
    (s < z.width) × (t < z.height) × (i < z.levels) × (z.levels ≤ 1024)
balance-granted {b} k s t i o =
    let h = balance-accepted b s t i o in
    let f = facts k in (
      rw f.width h.pixel.in-column,
      rw f.height h.pixel.in-row,
      rw f.levels (rw (sym (set-of b)) at h.level),
      rw f.levels
          f.limits.sound.levels_high,
    )

-- ---- explain
pub explains-refused : (e : Refusal) (b : List ℕ) (s t : ℕ) → refused (number e) (values_of e) ≡ explain_outcome b s t → Explains b s t (Err e)
explains-refused e b s t q = record { verdict = q; explained = λ o. absurd (not-both q o) }

pub explains-done : (b : List ℕ) (s t : ℕ) (g : Grounds) → explain_outcome b s t ≡ accepted → Grounded (frame_of b) s t g → Explains b s t (Ok g)
explains-done b s t g o h = record { verdict = sym o; explained = λ _. h }

pub explain-granted : {b : List ℕ} {z : Plan} → Planned b z → (s t : ℕ) → explain_outcome b s t ≡ accepted → (s < z.width) × (t < z.height)
explain-granted {b} k s t o =
    let h = explain-accepted b s t o in
    let f = facts k in
    (rw f.width h.pixel.in-column, rw f.height h.pixel.in-row)
