-- From what the checks and the two filters say to the contract of the tolerance call.
-- Assumes nothing.
use mathlib.Core.Path.{◌≡◌, refl, sym, ap, ◌∙◌, subst}
use mathlib.Core.Bool.{true, true≢false}
use mathlib.Core.List.{List, [], ◌++◌}
use Prim.Native.Nat.{ℕ, ◌*◌, ◌≤◌}
use lib.ListN.{length, drop}
use Rattle.spec.specs.declared.Settings.{Settings}
use Rattle.spec.specs.declared.Plan.{Plan}
use Rattle.spec.specs.declared.Way.TheVariants.{Joint}
use Rattle.spec.specs.Refusal.{Outcome, accepted, fires}
use Rattle.spec.specs.Frame.{pixels, frame_of, frame_with, settings_of, settings_in}
use Rattle.spec.specs.Checks.{verdict, Planned, Pictured}
use Rattle.spec.specs.Filter.{filtered, filter_end}
use Rattle.spec.specs.Calls.{room_of, counts_of, words_of}
use Rattle.spec.specs.Tolerance.{tolerance_checks, tolerance_outcome}
use Rattle.spec.proofs.Outcomes.{past}
use Rattle.spec.proofs.Tolerance.{plane-fits, tolerance-accepted}
use Rattle.ways.proofs.WayLaws.{settings-same, joined}
use Rattle.ice_step.specs.declared.Walked.{Walked}
use Rattle.ice_step.specs.Finished.{Lent, lent, LentFits, Finished}
use Rattle.tolerance.specs.Contract.{Buffers, buffers, stores_in, BothFiltered}

-- docs/CHANGES.md names this law, of `cameras_checks Batch`
pub fires-not : (x : Outcome) → fires x ≡ true → x ≡ accepted → ⊥
fires-not x f e = true≢false (sym f ∙ ap fires e)

set-of : (b : List ℕ) → (frame_of b).set ≡ settings_of b
unfolding frame_of
set-of b = refl

-- what the two filters ask
pub record Granted (b u : List ℕ) (z : Plan) (a : Buffers) : Type 0 where
  pub pictured : Pictured b u z
  pub one : z.kind ≡ 1
  pub fit : LentFits Joint (settings_in z) (lent a.counts a.words [] [])
  pub least : z.width * z.height ≤ length a.least
  pub greatest : z.width * z.height ≤ length a.greatest

pub granted : {b : List ℕ} {z : Plan} → Planned b z → (u : List ℕ) (a : Buffers)
    → accepted ≡ tolerance_checks b u (stores_in a) (length a.least) (length a.greatest) → Granted b u z a
unfolding tolerance_outcome
granted {b} {z} k u a o =
    let h = tolerance-accepted b u _ _ _ (sym (past (verdict b) _ k.accepts o)) in
    let e : settings_of b ≡ settings_in z = sym (settings-same k ∙ set-of b) in
    let room = rw e at h.room in
    record {
      pictured = record { accepts = k.accepts; plan = k.plan; fits = plane-fits b u h.file h.upper };
      one = subst (λ (s : Settings). s.kind ≡ 1) e h.one;
      fit = record { stores = record { counts = room.counts; words = room.words; numbers = room.numbers }; summary = room.summary };
      least = subst (λ (s : Settings). pixels s ≤ length a.least) e h.least-plane;
      greatest = subst (λ (s : Settings). pixels s ≤ length a.greatest) e h.greatest-plane;
    }

-- ---- what the two filters leave
-- docs/TRACE.md names this
module _ (b u : List ℕ) {a m z : Lent} {r₁ r₂ : Walked} (h : Finished Joint (frame_of b) (filter_end Joint (frame_of b)) a m r₁)
    (g : Finished Joint (frame_with b u) (filter_end Joint (frame_with b u)) m z r₂) where
  pub both-done : (old new old' new' : List ℕ) → new ≡ filtered (frame_of b) ++ drop (pixels (frame_of b).set) old
      → new' ≡ filtered (frame_with b u) ++ drop (pixels (frame_of b).set) old'
      → BothFiltered (frame_of b) (frame_with b u) (buffers a.stores.counts a.stores.words old old')
      (buffers z.stores.counts z.stores.words new new')
      (record { least_shifts = r₁.shifts; greatest_shifts = r₂.shifts })
  both-done old new old' new' e e' =
      let q = frame_with b u in
      let x = filter_end Joint q in
      record {
        least-shifts = h.closed.shifts;
        greatest-shifts = g.closed.shifts;
        least = e;
        greatest = e';
        counts =
            joined (room_of Joint q.set).counts (counts_of Joint q x.column x.row) z.stores.counts g.holds.counts
            ∙ ap (λ (l : List ℕ). counts_of Joint q x.column x.row ++ l) (g.kept.counts.beyond ∙ h.kept.counts.beyond);
        words =
            joined (room_of Joint q.set).words (words_of Joint q x.column x.row) z.stores.words g.holds.words
            ∙ ap (λ (l : List ℕ). words_of Joint q x.column x.row ++ l) (g.kept.words.beyond ∙ h.kept.words.beyond);
      }
