-- From what the single checks say to the outcome of all of them.
-- docs/TRACE.md names these. Assumes nothing.
use Prim.Native.Nat.{ℕ, ◌≤◌, ◌<◌}
use mathlib.Core.Path.{◌≡◌, refl, sym, ap, ◌∙◌}
use mathlib.Core.Bool.{Bool, true, false, ◌||◌}
use mathlib.Core.List.{List, map}
use lib.Dec.{ltb}
use Rattle.std.specs.Prelude.{Result, Ok, Err, IfOk}
use borrow.Author.Tests.{lt-ltb, le-ltb}
use Rattle.spec.specs.declared.Refusal.{Refusal}
use Rattle.spec.specs.declared.Refusal.TheVariants.{Batch, Room}
use Rattle.spec.specs.Refusal.{Outcome, accepted, ◌▷◌, refuse, fires, numbered}
use Rattle.spec.specs.Cameras.{files_in, total, counts_room, words_room, pixels_in, bad_batch, verdicts, short_of, cameras_outcome}
use Rattle.spec.proofs.Outcomes.{fired, or_else}
use Rattle.cameras_checks.specs.declared.Totals.{Totals}
use Rattle.cameras_checks.specs.Totals.{TotalsOf, FilesRead, BatchRead}
use Rattle.cameras_checks.proofs.Batch.{fires-not}

module _ (b lengths limits : List ℕ) (counts words answers : ℕ) where
  abbrev fs : List (List ℕ)
  fs = files_in lengths b

  abbrev outcome : Outcome
  outcome = cameras_outcome b lengths limits counts words answers

  -- a refusal: no totals are promised
  pub refused-by : (r : Result Totals Refusal) → numbered r ≡ outcome → fires (numbered r) ≡ true → BatchRead b lengths limits counts words answers r
  refused-by (Ok t) e f = absurd (fires-not f refl)
  refused-by (Err x) e f = record { verdict = e; sizes = tt }

  pub batch-refused : bad_batch b lengths limits ≡ true → BatchRead b lengths limits counts words answers (Err Batch)
  unfolding cameras_outcome
  batch-refused e = refused-by _ (sym (ap (λ (x : Bool). refuse 15 x ▷ verdicts fs ▷ refuse 11 (short_of fs counts words answers)) e)) refl

  module _ (good : bad_batch b lengths limits ≡ false) where
    -- check 15 has not fired
    pub passed : outcome ≡ (verdicts fs ▷ refuse 11 (short_of fs counts words answers))
    unfolding cameras_outcome
    passed = ap (λ (x : Bool). refuse 15 x ▷ verdicts fs ▷ refuse 11 (short_of fs counts words answers)) good

    pub files-refused : (r : Result Totals Refusal) → FilesRead fs r → fires (numbered r) ≡ true → BatchRead b lengths limits counts words answers r
    files-refused r h f =
        refused-by r
        (fired _ (refuse 11 (short_of fs counts words answers)) f
        ∙ ap (λ (o : Outcome). o ▷ refuse 11 (short_of fs counts words answers)) h.verdict ∙ sym passed) f

    module _ (ok : verdicts fs ≡ accepted) (t : Totals) (h : TotalsOf fs t) where
      pub last : outcome ≡ refuse 11 (short_of fs counts words answers)
      last = passed ∙ ap (λ (o : Outcome). o ▷ refuse 11 (short_of fs counts words answers)) ok

      pub short : short_of fs counts words answers ≡ true → BatchRead b lengths limits counts words answers (Err Room)
      short e = refused-by _ (sym (last ∙ ap (refuse 11) e)) refl

      pub short-counts : counts < t.counts → BatchRead b lengths limits counts words answers (Err Room)
      unfolding short_of
      short-counts l =
          short (ap (λ (x : Bool). x || (ltb words (total (map words_room fs)) || ltb answers (total (map pixels_in fs))))
          (lt-ltb counts (total (map counts_room fs)) (rw h.counts at l)))

      pub short-words : t.counts ≤ counts → words < t.words
          → BatchRead b lengths limits counts words answers (Err Room)
      unfolding short_of
      short-words c l =
          short (sym (or_else (ltb counts (total (map counts_room fs))) _ (le-ltb counts _ (rw h.counts at c))
          (sym (ap (λ (x : Bool). x || ltb answers (total (map pixels_in fs))) (lt-ltb words (total (map words_room fs)) (rw h.words at l))))))

      -- the first two are long enough
      pub two : t.counts ≤ counts → t.words ≤ words → short_of fs counts words answers ≡ ltb answers (total (map pixels_in fs))
      unfolding short_of
      two c w =
          sym (or_else (ltb counts (total (map counts_room fs))) _ (le-ltb counts _ (rw h.counts at c))
          (or_else (ltb words (total (map words_room fs))) _ (le-ltb words _ (rw h.words at w)) refl))

      pub short-answers : t.counts ≤ counts → t.words ≤ words → answers < t.answers
          → BatchRead b lengths limits counts words answers (Err Room)
      short-answers c w l = short (two c w ∙ lt-ltb answers _ (rw h.answers at l))

      pub all-long : (r : Result Totals Refusal) → numbered r ≡ accepted → IfOk r (λ u. u ≡ t) → t.counts ≤ counts → t.words ≤ words
          → t.answers ≤ answers → BatchRead b lengths limits counts words answers r
      all-long (Err x) v e c w l = absurd (fires-not refl v)
      all-long (Ok u) v e c w l =
          record {
            verdict = v ∙ sym (last ∙ ap (refuse 11) (two c w ∙ le-ltb answers _ (rw h.answers at l)));
            sizes = ap (λ (q : Totals). q.sizes) e ∙ h.sizes;
          }
