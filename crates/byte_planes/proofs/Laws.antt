-- Where the parts of a file lie whose trailer passes; the checks of the two calls as the code meets them; and from these to the contracts.
-- Assumes nothing.
use mathlib.Core.Path.{◌≡◌, refl, sym, ap, ◌∙◌, subst}
use mathlib.Core.Bool.{Bool, true, true≢false}
use mathlib.Core.List.{List, ◌++◌}
use Prim.Native.Nat.{ℕ, ◌+◌, ◌*◌, ◌≤◌, ◌<◌}
use native.Mathlib.Nat.{zero-add}
use native.Mathlib.Omega.{arith}
use lib.Dec.{ltb}
use lib.ListN.{length, take, drop}
use lib.Seq.{sets, sets-eq}
use borrow.Author.Tests.{le-ltb}
use Rattle.spec.specs.declared.Plan.{Plan}
use Rattle.spec.specs.declared.Refusal.{Refusal}
use Rattle.std.specs.Prelude.{Result, Ok, Err}
use Rattle.spec.specs.Refusal.{Outcome, accepted, refused, ◌▷◌, refuse, fires, numbered}
use Rattle.spec.specs.Frame.{trailer_at, trailer_of, plan_of, value_part}
use Rattle.spec.specs.Checks.{contents, trailer_outcome}
use Rattle.spec.specs.Writer.{stored}
use Rattle.spec.specs.BytePlanes.{split_plane, joined_plane, with_plane, split_file, joined_file, bad_overlap, split_outcome, join_outcome}
use Rattle.spec.proofs.Checks.{trailer-passed, both-accepted}
use Rattle.spec.proofs.Outcomes.{stopped, past}
use Rattle.spec.proofs.BytePlanes.{file-split-long, file-joined-long}
use Rattle.byte_planes.specs.Contract.{Splits, Joins}

-- ---- where the parts lie: behind them comes the trailer at least
pub record PartsFit (b : List ℕ) (plan : Plan) : Type 0 where
  pub values : plan.value + 2 * (plan.width * plan.height) < length b
  pub guides : plan.guide + 2 * (plan.width * plan.height) < length b
  pub table : plan.table + 2 * plan.weights ≤ length b

fit-plan : (b : List ℕ) → trailer_outcome b ≡ accepted → PartsFit b (plan_of b)
unfolding plan_of trailer_at trailer_of
fit-plan b e =
    let h = trailer-passed b e in
    let n = h.near in
    record {
      values = omega (arith, h.long, n.value-long, n.value_in);
      guides = omega (arith, h.long, n.guide-long, n.guide-in);
      table = omega (arith, n.table-long, n.table-in);
    }

pub parts-fit : {b : List ℕ} {plan : Plan} → trailer_outcome b ≡ accepted → plan ≡ plan_of b → PartsFit b plan
parts-fit {b} e p = subst (PartsFit b) (sym p) (fit-plan b e)

-- ---- the rest of the checks
assoc : (u v w : Outcome) → ((u ▷ v) ▷ w) ≡ (u ▷ v ▷ w)
assoc accepted v w = refl
assoc (refused n l) v w = refl

abbrev parts : List ℕ → Outcome
parts b = trailer_outcome b ▷ refuse 14 (bad_overlap (plan_of b))

pub trailer-of-parts : (b : List ℕ) → (trailer_outcome b ▷ refuse 14 (bad_overlap (plan_of b))) ≡ accepted → trailer_outcome b ≡ accepted
trailer-of-parts b e = (both-accepted (trailer_outcome b) _ e).0

-- checks 1 to 6 and 14 are passed
pub fit-by-parts : {b : List ℕ} {plan : Plan} → accepted ≡ parts b → plan ≡ plan_of b → PartsFit b plan
fit-by-parts {b} e p = parts-fit (trailer-of-parts b (sym e)) p

module _ (b : List ℕ) (room : ℕ) where
  split-by-parts : split_outcome b room ≡ (parts b ▷ contents b (plan_of b) ▷ refuse 11 (ltb room (length b)))
  unfolding split_outcome
  split-by-parts = sym (assoc (trailer_outcome b) _ _)

  join-by-parts : join_outcome b room ≡ (parts b ▷ refuse 11 (ltb room (length b)))
  unfolding join_outcome
  join-by-parts = sym (assoc (trailer_outcome b) _ _)

  pub split-parts-stop : {u : Outcome} {f : Bool} → u ≡ parts b → f ≡ fires u → f ≡ true → u ≡ split_outcome b room
  split-parts-stop e g t = stopped _ _ e g t ∙ sym split-by-parts

  pub split-contents-stop : {u : Outcome} {f : Bool} → parts b ≡ accepted → u ≡ contents b (plan_of b) → f ≡ fires u → f ≡ true
      → u ≡ split_outcome b room
  split-contents-stop p e g t = past _ _ p (stopped _ _ e g t) ∙ sym split-by-parts

  pub split-room-stops : {u : Outcome} → parts b ≡ accepted → contents b (plan_of b) ≡ accepted → u ≡ refuse 11 (ltb room (length b))
      → u ≡ split_outcome b room
  split-room-stops p c e = past _ _ p (past _ _ c e) ∙ sym split-by-parts

  pub split-passes : parts b ≡ accepted → contents b (plan_of b) ≡ accepted → length b ≤ room → accepted ≡ split_outcome b room
  split-passes p c l = past _ _ p (past _ _ c (sym (ap (refuse 11) (le-ltb _ _ l)))) ∙ sym split-by-parts

  pub join-parts-stop : {u : Outcome} {f : Bool} → u ≡ parts b → f ≡ fires u → f ≡ true → u ≡ join_outcome b room
  join-parts-stop e g t = stopped _ _ e g t ∙ sym join-by-parts

  pub join-room-stops : {u : Outcome} → parts b ≡ accepted → u ≡ refuse 11 (ltb room (length b)) → u ≡ join_outcome b room
  join-room-stops p e = past _ _ p e ∙ sym join-by-parts

  pub join-passes : parts b ≡ accepted → length b ≤ room → accepted ≡ join_outcome b room
  join-passes p l = past _ _ p (sym (ap (refuse 11) (le-ltb _ _ l))) ∙ sym join-by-parts

-- ---- the output: as it was where refused; where accepted, the bytes that were stored and then what lay beyond
kept : (o : Outcome) (new old : List ℕ) → fires o ≡ true → old ≡ stored o new old
kept accepted new old e = absurd (true≢false (sym e))
kept (refused n l) new old e = refl

saved : {o : Outcome} (new old : List ℕ) → accepted ≡ o → length new ≤ length old → {out : List ℕ} → out ≡ sets old 0 new → out ≡ stored o new old
saved new old e h f =
    f ∙ sets-eq new old 0 (omega arith) ∙ ap (λ (k : ℕ). new ++ drop k old) (zero-add (length new)) ∙ ap (λ (x : Outcome). stored x new old) e

module _ (b old : List ℕ) where
  pub splits-refused : (r : Result (Unit {0}) Refusal) → numbered r ≡ split_outcome b (length old) → fires (numbered r) ≡ true → Splits b old r old
  splits-refused r e f = record { verdict = e; output = kept (split_outcome b (length old)) _ _ (sym (ap fires e) ∙ f) }

  pub joins-refused : (r : Result (Unit {0}) Refusal) → numbered r ≡ join_outcome b (length old) → fires (numbered r) ≡ true → Joins b old r old
  joins-refused r e f = record { verdict = e; output = kept (join_outcome b (length old)) _ _ (sym (ap fires e) ∙ f) }

  -- refused by the parts, by the contents
  pub splits-parts-refused : {r : Refusal} → numbered {A = Plan} (Err r) ≡ parts b → Splits b old (Err r) old
  splits-parts-refused {r} e = splits-refused (Err r) (split-parts-stop b (length old) e refl refl) refl

  pub joins-parts-refused : {r : Refusal} → numbered {A = Plan} (Err r) ≡ parts b → Joins b old (Err r) old
  joins-parts-refused {r} e = joins-refused (Err r) (join-parts-stop b (length old) e refl refl) refl

  pub splits-contents-refused : {r : Refusal} → accepted ≡ parts b → numbered {A = Plan} (Err r) ≡ contents b (plan_of b) → Splits b old (Err r) old
  splits-contents-refused {r} p e = splits-refused (Err r) (split-contents-stop b (length old) (sym p) e refl refl) refl

module _ {b old : List ℕ} {plan : Plan} (p : plan ≡ plan_of b) (ok : trailer_outcome b ≡ accepted) (room : length b ≤ length old) where
  pub splits-done : {new : List ℕ} → accepted ≡ split_outcome b (length old)
      → new ≡ sets old 0 (take plan.value b ++ split_plane (take (2 * (plan.width * plan.height)) (drop plan.value b))
      ++ drop (plan.value + 2 * (plan.width * plan.height)) b) → Splits b old (Ok tt) new
  unfolding split_file with_plane value_part plan_of
  splits-done e f =
      record {
        verdict = e;
        output = saved (split_file b) old e (subst (λ (n : ℕ). n ≤ length old) (sym (file-split-long b ok)) room) (rw p at f);
      }

  pub joins-done : {new : List ℕ} → accepted ≡ join_outcome b (length old)
      → new ≡ sets old 0 (take plan.value b
      ++ joined_plane (plan.width * plan.height) (take (2 * (plan.width * plan.height)) (drop plan.value b))
      ++ drop (plan.value + 2 * (plan.width * plan.height)) b) → Joins b old (Ok tt) new
  unfolding joined_file with_plane value_part plan_of
  joins-done e f =
      record {
        verdict = e;
        output = saved (joined_file b) old e (subst (λ (n : ℕ). n ≤ length old) (sym (file-joined-long b ok)) room) (rw p at f);
      }
