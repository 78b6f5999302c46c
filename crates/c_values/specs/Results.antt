-- What a call for C gives back of an outcome: a status, the lent results, the offset.
-- Assumes nothing.
use Rattle.std.specs.Prelude.{ℕ, ◌≡◌, List, [], ◌∷◌, eqb, ℤ, if◌then◌else◌, Result, Ok, Err}
use Rattle.spec.specs.declared.Grounds.{Grounds}
use Rattle.spec.specs.declared.Cause.{Cause}
use Rattle.spec.specs.declared.Cause.TheVariants.{Ordinary, Hollow, NegativeAtZero, NegativeAtLast, Empty}
use Rattle.spec.specs.declared.Refusal.{Refusal}
use Rattle.spec.specs.Refusal.{Outcome, accepted, refused}
use Rattle.spec.specs.Walk.{answer_number}

-- 0, or document 01's number
abbrev pub status_of : Outcome → ℕ
status_of accepted = 0
status_of (refused n l) = n

-- a lent result after the call: the new content where accepted, the old one where refused
abbrev pub given : {A : Type 0} → Outcome → A → A → A
given accepted new old = new
given (refused n l) new old = old

-- the same by the call's own result: what it gives, as f reads it, or the old content
abbrev pub given_by : {T A : Type 0} → Result T Refusal → (T → A) → A → A
given_by (Ok x) f old = f x
given_by (Err e) f old = old

-- the first of some values, or the old content where there are none
abbrev pub first_or : ℕ → List ℕ → ℕ
first_or old [] = old
first_or old (v ∷ vs) = v

-- the lent offset after the call: the value beside number 7, else the old content
abbrev pub offset_after : Outcome → ℕ → ℕ
offset_after accepted old = old
offset_after (refused n l) old = if eqb n 7 then first_or old l else old

-- the status r, and the offset before and after
pub record Reported (o : Outcome) (r old new : ℕ) : Type 0 where
  pub status_is : r ≡ status_of o
  pub offset_is : new ≡ offset_after o old

-- ---- an explanation

abbrev pub cause_number : Cause → ℕ
cause_number Ordinary = 1
cause_number Hollow = 2
cause_number NegativeAtZero = 3
cause_number NegativeAtLast = 4
cause_number Empty = 5

-- its lent results; the level is the answer as a number, that of no reading too
pub record LentGrounds : Type 0 where
  pub pixels : ℕ
  pub total : ℤ
  pub level : ℕ
  pub below : ℤ
  pub reached : ℤ
  pub cause : ℕ

abbrev pub lent_grounds : ℕ → ℤ → ℕ → ℤ → ℤ → ℕ → LentGrounds
lent_grounds pixels total level below reached cause =
    record { pixels = pixels; total = total; level = level; below = below; reached = reached; cause = cause }

-- each before and after the call
pub record GroundsGiven (r : Result Grounds Refusal) (before after : LentGrounds) : Type 0 where
  pub pixels : after.pixels ≡ given_by r (λ g. g.pixels) before.pixels
  pub total : after.total ≡ given_by r (λ g. g.total) before.total
  pub level : after.level ≡ given_by r (λ g. answer_number g.answer) before.level
  pub below : after.below ≡ given_by r (λ g. g.below) before.below
  pub reached : after.reached ≡ given_by r (λ g. g.reached) before.reached
  pub cause : after.cause ≡ given_by r (λ g. cause_number g.cause) before.cause
