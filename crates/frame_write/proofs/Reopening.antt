-- The round trip for the code: the writer's contract and the contract of opening together give it, whatever the code is. Assumes nothing.
use mathlib.Core.Path.{◌≡◌, sym, ap, ◌∙◌, subst}
use mathlib.Core.List.{List, ◌++◌}
use Prim.Native.Nat.{ℕ}
use lib.ListN.{length, take, drop}
use lib.Seq.{take_at}
use Rattle.spec.specs.declared.Settings.{Settings}
use Rattle.spec.specs.declared.Trailer.{Trailer}
use Rattle.spec.specs.declared.Refusal.{Refusal}
use Rattle.std.specs.Prelude.{Result, Ok, Err, IfOk}
use Rattle.spec.specs.Refusal.{Outcome, accepted, numbered}
use Rattle.spec.specs.Frame.{trailer_of}
use Rattle.spec.specs.Writer.{written, written_size, writer_outcome, stored}
use Rattle.spec.proofs.Checks.{not-refused}
use Rattle.frame.specs.declared.open.Plane.TheVariants.{Values, Guides, Table}
use Rattle.frame.specs.Open.{Opens, trailer_in, plane_of}
use Rattle.frame.proofs.Shown.{opens, shows}
use Rattle.frame_write.specs.Write.{Writes, Returned, Reopened}
use Rattle.frame_write.proofs.Writing.{fit, written-long}
use Rattle.frame_write.proofs.RoundTrip.{round_trip}

-- an accepted file's trailer
trailer_is : (b : List ℕ) (h : Result Trailer Refusal) → numbered h ≡ accepted → IfOk h (λ t. t ≡ trailer_of b) → trailer_in h ≡ trailer_of b
trailer_is b (Ok t) e i = i
trailer_is b (Err r) e i = absurd (not-refused e)

module _ (k : Settings) (v g a old : List ℕ) (n : ℕ) (new : List ℕ) (w : Writes k v g a old (Ok n) new) where
  went : (writer_outcome k v g a (length old) ≡ accepted) × (n ≡ written_size k (length a))
  went = let e = sym w.verdict in (e, w.size e)

  -- the file is the output's first n bytes
  pub wrote-file : take n new ≡ written k v g a
  wrote-file =
      let f = fit k v g a (length old) went.0 in
      let b : List ℕ = written k v g a in
      let e : new ≡ b ++ drop (length b) old = w.output ∙ ap (λ (o : Outcome). stored o b old) went.0 in
      ap (take n) e ∙ take_at b (drop (length b) old) n (written-long k v g a f.values f.guides ∙ sym went.1)

  pub wrote-returned : Returned k v g a (take n new)
  wrote-returned = subst (λ (b : List ℕ). Returned k v g a b) (sym wrote-file) (round_trip k v g a (length old) went.0)

  -- whoever opens them has the settings, the planes and the table
  pub write-then-open : (h : Result Trailer Refusal) → Opens (take n new) h → Reopened k v g a (take n new) h
  unfolding trailer_of
  write-then-open h s =
      let b : List ℕ = take n new in
      let r = wrote-returned in
      let ok = r.accepts in
      let t : trailer_in h ≡ trailer_of b = trailer_is b h (s.outcome ∙ ok) s.trailer in
      record {
        accepts = s.outcome ∙ ok;
        settings = ap (λ (x : Trailer). x.settings) t ∙ r.settings;
        values = ap (plane_of Values b) (t ∙ sym (opens Values b ok)) ∙ shows Values b ok ∙ r.values;
        guides = ap (plane_of Guides b) (t ∙ sym (opens Guides b ok)) ∙ shows Guides b ok ∙ r.guides;
        table = ap (plane_of Table b) (t ∙ sym (opens Table b ok)) ∙ shows Table b ok ∙ r.table;
      }
