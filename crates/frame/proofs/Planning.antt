-- What checks 1 to 6 promise of a file's plan: its planes lie within the file; and the plan of an opened file. Assumes nothing.
use mathlib.Core.Path.{◌≡◌, sym, ap, ◌∙◌, subst}
use mathlib.Core.List.{List}
use Prim.Native.Nat.{ℕ}
use native.Mathlib.Omega.{arith}
use Rattle.std.specs.Prelude.{Result, Ok, IfOk}
use Rattle.spec.specs.declared.Plan.{Plan}
use Rattle.spec.specs.declared.Refusal.{Refusal}
use Rattle.spec.specs.Refusal.{accepted, numbered}
use Rattle.spec.specs.Frame.{trailer_at, trailer_of, plan_of}
use Rattle.spec.specs.Checks.{trailer_outcome, verdict, Planned}
use Rattle.spec.proofs.Checks.{trailer-passed}
use Rattle.frame_contents.specs.Planes.{PlanesInFile}

-- what a file has whose trailer passes
pub planes-in-file : (b : List ℕ) → trailer_outcome b ≡ accepted → PlanesInFile b (plan_of b)
unfolding plan_of trailer_at trailer_of
planes-in-file b e =
    let h = trailer-passed b e in
    let n = h.near in
    record {
      values = omega (arith, n.value-long, n.value_in);
      guides = omega (arith, n.guide-long, n.guide-in);
    }

-- what a call has that opened a file and went on: docs/CHANGES.md names this
pub planned-of : {b : List ℕ} (r : Result Plan Refusal) (z : Plan) → numbered r ≡ verdict b → IfOk r (λ p. p ≡ plan_of b) → r ≡ Ok z → Planned b z
planned-of {b} r z v p e =
    record {
      accepts = sym v ∙ ap numbered e;
      plan = subst (λ (x : Result Plan Refusal). IfOk x (λ p. p ≡ plan_of b)) e p;
      fits = tt;
    }
