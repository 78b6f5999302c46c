-- The writer's contract, what an accepted writing has, and what reading the file gives back.
-- Assumes nothing.
use Rattle.std.specs.Prelude.{◌≡◌, ℕ, ◌+◌, ◌*◌, ◌≤◌, ◌<◌, List, eqb, length, get_or, if◌then◌else◌, Result, IfOk}
use Rattle.spec.specs.declared.Settings.{Settings}
use Rattle.spec.specs.declared.Refusal.{Refusal}
use Rattle.spec.specs.declared.Trailer.{Trailer}
use Rattle.spec.specs.Bytes.{all16}
use Rattle.spec.specs.Refusal.{accepted, numbered}
use Rattle.spec.specs.Frame.{pixels, table, built_in, settings_of, frame_of, value_part, guide_part, table_part, pixel_level, pixel_guide}
use Rattle.spec.specs.Checks.{verdict}
use Rattle.spec.specs.Writer.{written, written_size, writer_outcome, stored}
use Rattle.frame.specs.declared.open.Plane.TheVariants.{Values, Guides, Table}
use Rattle.frame.specs.Open.{trailer_in, plane_of}

-- the writer's answer and the output, before and after, for every input
pub record Writes (settings : Settings) (v g a old : List ℕ) (r : Result ℕ Refusal) (new : List ℕ) : Type 0 where
  pub verdict : numbered r ≡ writer_outcome settings v g a (length old)
  pub size : writer_outcome settings v g a (length old) ≡ accepted → IfOk r (λ n. n ≡ written_size settings (length a))
  pub output : new ≡ stored (writer_outcome settings v g a (length old)) (written settings v g a) old

-- what an accepted writing has: planes and a table of the right length, and room
pub record WritingFits (settings : Settings) (v g a : List ℕ) (room : ℕ) : Type 0 where
  pub few : pixels settings ≤ 262144
  pub values : length v ≡ pixels settings
  pub guides : length g ≡ pixels settings
  pub table : length a ≤ 65536
  pub space : written_size settings (length a) ≤ room

-- a file that is accepted and from which the settings, the planes and the table are read back: as the parts that an opened frame shows, and as the
-- numbers that the frame has; the built-in weights for an empty table
pub record Returned (wanted : Settings) (v g a b : List ℕ) : Type 0 where
  pub accepts : verdict b ≡ accepted
  pub settings : settings_of b ≡ wanted
  pub values : value_part b ≡ all16 v
  pub guides : guide_part b ≡ all16 g
  pub level_at : (j : ℕ) → j < pixels wanted → pixel_level b j ≡ get_or v j 0
  pub guide-at : (j : ℕ) → j < pixels wanted → pixel_guide b j ≡ get_or g j 0
  pub weight-at : (f e : ℕ) → f < wanted.guides → e < wanted.guides → table (frame_of b) f e
      ≡ (if eqb (length a) 0 then built_in f e else get_or a (f * wanted.guides + e) 0)
  pub table : table_part b ≡ all16 a

-- what opening that file says, by the contract of opening
pub record Reopened (wanted : Settings) (v g a b : List ℕ) (head : Result Trailer Refusal) : Type 0 where
  pub accepts : numbered head ≡ accepted
  pub settings : (trailer_in head).settings ≡ wanted
  pub values : plane_of Values b (trailer_in head) ≡ all16 v
  pub guides : plane_of Guides b (trailer_in head) ≡ all16 g
  pub table : plane_of Table b (trailer_in head) ≡ all16 a
