-- The outcome of the checks by the documents' numbers; and which number and values each case of the code's enums stands for.
-- Assumes nothing.
use Rattle.std.specs.Prelude.{ℕ, Bool, true, false, List, [], ◌∷◌, eqb, if◌then◌else◌, Result, Ok, Err}
use Rattle.spec.specs.declared.Refusal.{Refusal}
use Rattle.spec.specs.declared.Refusal.TheVariants.{
  Mark,
  Size,
  Counts,
  Kind,
  Radius,
  Distance,
  Contents,
  Way,
  Start,
  Moves,
  Room,
  Program,
  Upper,
  Overlap,
  Batch,
}

-- accepted; or refused with a number and the values beside it (for 7 the byte offset, for the others none)
pub data Outcome : Type 0 where
  accepted : Outcome
  refused : ℕ → List ℕ → Outcome

-- the first of two checks that fires decides
infixr 1 ◌▷◌
abbrev pub ◌▷◌ : Outcome → Outcome → Outcome
accepted ▷ v = v
refused n l ▷ v = refused n l

abbrev pub fires : Outcome → Bool
fires accepted = false
fires (refused n l) = true

-- the number, if the test passes
abbrev pub refuse : ℕ → Bool → Outcome
refuse n true = refused n []
refuse n false = accepted

-- ---- the code's enums

abbrev pub number : Refusal → ℕ
number Mark = 1
number Size = 2
number Counts = 3
number Kind = 4
number Radius = 5
number Distance = 6
number (Contents o) = 7
number Way = 8
number Start = 9
number Moves = 10
number Room = 11
number Program = 12
number Upper = 13
number Overlap = 14
number Batch = 15

-- the offset beside number 7
abbrev pub offset_of : Refusal → ℕ
offset_of Mark = 0
offset_of Size = 0
offset_of Counts = 0
offset_of Kind = 0
offset_of Radius = 0
offset_of Distance = 0
offset_of (Contents o) = o
offset_of Way = 0
offset_of Start = 0
offset_of Moves = 0
offset_of Room = 0
offset_of Program = 0
offset_of Upper = 0
offset_of Overlap = 0
offset_of Batch = 0

-- the values beside the number
abbrev pub values_of : Refusal → List ℕ
values_of r = if eqb (number r) 7 then offset_of r ∷ [] else []

-- a call that gives a value is accepted, whatever the value
abbrev pub numbered : {A : Type 0} → Result A Refusal → Outcome
numbered (Ok x) = accepted
numbered (Err r) = refused (number r) (values_of r)
