-- What an opened frame shows: parts of the caller's bytes; nothing where the file is refused.
-- Assumes nothing.
use Rattle.std.specs.Prelude.{◌≡◌, ℕ, ◌+◌, ◌-◌, ◌*◌, Bool, ◌||◌, List, [], ltb, length, if◌then◌else◌, Result, Ok, Err, IfOk}
use Rattle.std.specs.Borrow.{Bor}
use Rattle.spec.specs.declared.Trailer.{Trailer}
use Rattle.spec.specs.declared.Refusal.{Refusal}
use Rattle.spec.specs.Refusal.{fires, numbered}
use Rattle.spec.specs.Frame.{trailer_at, settings_of, trailer_of, plan_of, part, pixels, own_weights, value_part, guide_part, table_part}
use Rattle.spec.specs.Checks.{verdict}
use Rattle.frame.specs.declared.open.Plane.{Plane}
use Rattle.frame.specs.declared.open.Plane.TheVariants.{Values, Guides, Table}

-- the file has no n bytes from so far back from the trailer
unfoldable pub no_part : List ℕ → ℕ → ℕ → Bool
no_part b back n = ltb (length b) 28 || ltb (trailer_at b) back || ltb back n

-- those bytes, none where there is no such part; and where they begin, at the first byte for none
unfoldable pub shown : List ℕ → ℕ → ℕ → List ℕ
shown b back n = if no_part b back n then [] else part b back n

unfoldable pub shown_from : List ℕ → ℕ → ℕ → ℕ
shown_from b back n = if no_part b back n then 0 else trailer_at b - back

-- a slice is that part of the file itself: it holds those bytes, and points to where they stand in the file's memory
pub record Shows (file : Bor (List ℕ)) (back n : ℕ) (r : Bor (List ℕ)) : Type 0 where
  pub holds : r.now ≡ shown file.now back n
  pub place : r.ref_ptr ≡ (file.ref_ptr.0, shown_from file.now back n + file.ref_ptr.1)

-- a trailer that shows nothing
abbrev pub blank_trailer : Trailer
blank_trailer =
    record {
      settings = record { width = 0; height = 0; levels = 0; guides = 0; kind = 0; radius = 0; smoothing = 0 };
      value = 0;
      guide = 0;
      table = 0;
    }

-- the trailer of an opened file: blank where it is refused
unfoldable pub opened : List ℕ → Trailer
opened b = if fires (verdict b) then blank_trailer else trailer_of b

-- the trailer in an opened frame: blank where there is a refusal in its place
abbrev pub trailer_in : Result Trailer Refusal → Trailer
trailer_in (Ok t) = t
trailer_in (Err e) = blank_trailer

-- what an opened frame says of a file: the outcome of checks 1 to 7, and the trailer of one that they accept
pub record Opens (b : List ℕ) (head : Result Trailer Refusal) : Type 0 where
  pub outcome : numbered head ≡ verdict b
  pub trailer : IfOk head (λ t. t ≡ trailer_of b)

-- how far back a trailer has a plane or the table, and of how many bytes
abbrev pub distance_of : Plane → Trailer → ℕ
distance_of Values t = t.value
distance_of Guides t = t.guide
distance_of Table t = t.table

abbrev pub length_of : Plane → Trailer → ℕ
length_of Values t = 2 * pixels t.settings
length_of Guides t = 2 * pixels t.settings
length_of Table t = 2 * own_weights t

-- its bytes; and that a slice is exactly that part of a file
unfoldable pub plane_of : Plane → List ℕ → Trailer → List ℕ
plane_of which b t = shown b (distance_of which t) (length_of which t)

abbrev pub ShowsPlane : Plane → Bor (List ℕ) → Trailer → Bor (List ℕ) → Type 0
ShowsPlane which file t = Shows file (distance_of which t) (length_of which t)

-- the part of an accepted file that document 01 names
abbrev pub part_of : Plane → List ℕ → List ℕ
part_of Values b = value_part b
part_of Guides b = guide_part b
part_of Table b = table_part b

-- how many numbers it has, and where it begins
abbrev pub size_of : Plane → List ℕ → ℕ
size_of Values b = pixels (settings_of b)
size_of Guides b = pixels (settings_of b)
size_of Table b = own_weights (trailer_of b)

abbrev pub start_of : Plane → List ℕ → ℕ
start_of Values b = (plan_of b).value
start_of Guides b = (plan_of b).guide
start_of Table b = (plan_of b).table
