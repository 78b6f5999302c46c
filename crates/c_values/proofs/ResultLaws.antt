-- The status and the offset of a call's result.
-- Assumes nothing.
use Rattle.std.specs.Prelude.{ℕ, ◌<◌, ◌≡◌, Result, Ok, Err}
use mathlib.Core.Path.{refl, sym, ◌∙◌}
use native.Mathlib.Omega.{arith}
use borrow.Author.Tests.{eq-eqb, ne_eqb}
use Rattle.spec.specs.declared.Refusal.{Refusal}
use Rattle.spec.specs.declared.Refusal.TheVariants as refusal
use Rattle.spec.specs.Refusal.{accepted, numbered, number, offset_of}
use Rattle.c_values.specs.Results.{status_of, Reported}

-- ---- the report of a refusal r: n is its number
module _ {T : Type 0} {v : Result T Refusal} {r : Refusal} (e : v ≡ Err r) {n : ℕ} (is : n ≡ number r) {status : ℕ} (status_is : status ≡ n)
    {old : ℕ} where
  pub offset-written : {at new : ℕ} → at ≡ offset_of r → new ≡ at → n ≡ 7 → Reported (numbered v) status old new
  offset-written o New-is h =
      rw e (record { status_is = status_is ∙ is; offset_is = rw (eq-eqb (number r) 7 (sym is ∙ h)) (New-is ∙ o) })

  pub offset-kept : (n ≡ 7 → ⊥) → Reported (numbered v) status old old
  offset-kept h = rw e (record { status_is = status_is ∙ is; offset_is = rw (ne_eqb (number r) 7 (λ q. h (is ∙ q))) refl })

-- ---- the status tells a refusal
positive : (r : Refusal) → 0 < number r
positive refusal.Mark = omega arith
positive refusal.Size = omega arith
positive refusal.Counts = omega arith
positive refusal.Kind = omega arith
positive refusal.Radius = omega arith
positive refusal.Distance = omega arith
positive (refusal.Contents o) = omega arith
positive refusal.Way = omega arith
positive refusal.Start = omega arith
positive refusal.Moves = omega arith
positive refusal.Room = omega arith
positive refusal.Program = omega arith
positive refusal.Upper = omega arith
positive refusal.Overlap = omega arith
positive refusal.Batch = omega arith

pub passes : {T : Type 0} (v : Result T Refusal) → status_of (numbered v) ≡ 0 → numbered v ≡ accepted
passes (Ok x) e = refl
passes (Err r) e = let h = positive r in absurd (omega arith)
