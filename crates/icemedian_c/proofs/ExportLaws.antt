-- The writer does the same with both settings that C's numbers stand for: theirs, and those cut down to their fields.
-- Assumes nothing.
use Prim.Native.Nat.{ℕ}
use mathlib.Core.Path.{◌≡◌, refl, subst, ◌∙◌}
use mathlib.Core.List.{List}
use Rattle.std.specs.Prelude.{Result}
use Rattle.spec.specs.declared.Settings.{Settings}
use Rattle.spec.specs.declared.Refusal.{Refusal}
use Rattle.spec.specs.Refusal.{Outcome, accepted, refused}
use Rattle.spec.specs.Checks.{settings_outcome}
use Rattle.spec.specs.Writer.{writer_outcome}
use Rattle.spec.proofs.Checks.{not-refused}
use Rattle.frame_write.specs.Write.{Writes}
use Rattle.c_values.specs.Settings.{Narrowed}

pub writes-narrowed : {k s : Settings} {v g a old : List ℕ} {r : Result ℕ Refusal} {new : List ℕ} → Narrowed k s → Writes s v g a old r new
    → Writes k v g a old r new
unfolding writer_outcome
writes-narrowed {k} {s} {v} {g} {a} {old} {r} {new} n h = go (settings_outcome k) refl
  where
    go : (o : Outcome) → settings_outcome k ≡ o → Writes k v g a old r new
    go accepted e = subst (λ (x : Settings). Writes x v g a old r new) (n.whole e) h
    go (refused m l) e =
        record {
          verdict = rw e (rw (n.same ∙ e) at h.verdict);
          size = rw e (λ q. absurd (not-refused q));
          output = rw e (rw (n.same ∙ e) at h.output);
        }
