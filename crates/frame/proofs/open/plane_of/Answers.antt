-- `frame::open::plane_of` meets its contract. Assumes nothing.
use mathlib.Core.Path.{◌≡◌, sym, ◌∙◌}
use mathlib.Core.List.{List}
use Prim.Native.Nat.{ℕ}
use Rattle.std.specs.Prelude.{Result, Ok, Err}
use Rattle.spec.specs.declared.Trailer.{Trailer}
use Rattle.spec.specs.declared.Refusal.{Refusal}
use Rattle.frame.specs.Open.{Opens, opened, trailer_in}
use Rattle.frame.proofs.open.plane_of.Goals as goal

-- an opened frame's trailer is blank exactly where the file is refused
opens-opened : (b : List ℕ) (head : Result Trailer Refusal) → Opens b head → trailer_in head ≡ opened b
unfolding opened
opens-opened b (Ok t) o = o.trailer ∙ simp (sym o.outcome)
opens-opened b (Err e) o = simp (sym o.outcome)

pub returns : goal.returns
returns c = rw (c.open.ensures.bytes, opens-opened _ _ c.open.ensures.head) at c.bytes.ensures
