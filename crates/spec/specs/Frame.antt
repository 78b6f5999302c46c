-- The frame of a file: its trailer, its planes and its weights.
-- Assumes nothing.
use Rattle.std.specs.Prelude.{ℕ, ◌+◌, ◌-◌, ◌*◌, ◌/◌, Bool, List, [], ◌∷◌, eqb, length, get_or, take, drop, if◌then◌else◌}
use Rattle.spec.specs.declared.Settings.{Settings}
use Rattle.spec.specs.declared.Trailer.{Trailer}
use Rattle.spec.specs.declared.Plan.{Plan}
use Rattle.spec.specs.declared.Guide.{Guide}
use Rattle.spec.specs.Base.{distance}
use Rattle.spec.specs.Bytes.{be16, be32}

-- a new record
abbrev pub new_settings : Settings
new_settings = record { width = 0; height = 0; levels = 0; guides = 0; kind = 2; radius = 7; smoothing = 64 }

-- a picture: the value and the guide of the pixel in a column and a row; and the weight that the table gives a pixel of the second guide in a window
-- whose centre has the first
pub record Frame : Type 0 where
  pub set : Settings
  pub value_at : ℕ → ℕ → ℕ
  pub guide_at : ℕ → ℕ → Guide
  pub weight_at : Guide → Guide → ℕ

-- document 02: the value of a pixel that has no reading; such a pixel is dead. Any other value is a level
abbrev pub no_reading : ℕ
no_reading = 65535

abbrev pub level : Frame → ℕ → ℕ → ℕ
level p s t = p.value_at s t

abbrev pub dead : Frame → ℕ → ℕ → Bool
dead p s t = eqb (level p s t) no_reading

-- the guide and the table's weight as numbers
abbrev pub guide : Frame → ℕ → ℕ → ℕ
guide p s t = (p.guide_at s t).0

abbrev pub table : Frame → ℕ → ℕ → ℕ
table p f g = p.weight_at (record { 0 = f }) (record { 0 = g })

-- number q of a plane that is given in place of n; n itself where none is given, the plane being empty
abbrev pub in_place : List ℕ → ℕ → ℕ → ℕ
in_place [] q n = n
in_place (v ∷ vs) q n = get_or (v ∷ vs) q 0

-- the frame with another value plane, whose numbers go row by row from the top left; with its own where none is given
abbrev pub with_values : Frame → List ℕ → Frame
with_values p plane =
    record {
      set = p.set;
      value_at = λ s t. in_place plane (t * p.set.width + s) (p.value_at s t);
      guide_at = p.guide_at;
      weight_at = p.weight_at;
    }

-- ---- the trailer: the last 28 bytes

unfoldable pub trailer_at : List ℕ → ℕ
trailer_at b = length b - 28

unfoldable pub settings_of : List ℕ → Settings
settings_of b =
    let t = trailer_at b in
    record {
      width = be16 b t;
      height = be16 b (t + 2);
      levels = be16 b (t + 4);
      guides = be16 b (t + 6);
      kind = get_or b (t + 8) 0;
      radius = get_or b (t + 9) 0;
      smoothing = be16 b (t + 10);
    }

-- with the distances back from the trailer's first byte
unfoldable pub trailer_of : List ℕ → Trailer
trailer_of b =
    let t = trailer_at b in
    record { settings = settings_of b; value = be32 b (t + 12); guide = be32 b (t + 16); table = be32 b (t + 20) }

-- ---- the planes and the table

abbrev pub pixels : Settings → ℕ
pixels settings = settings.width * settings.height

-- how many weights a table has, and how many the file itself has: none for distance 0
abbrev pub table_size : Settings → ℕ
table_size settings = settings.guides * settings.guides

unfoldable pub own_weights : Trailer → ℕ
own_weights t = if eqb t.table 0 then 0 else table_size t.settings

-- the largest weight: one of a table is any 16-bit number (document 02, ask 1)
abbrev pub heaviest : ℕ
heaviest = 65535

-- the parts of the file that an opened frame shows: n bytes from so far back
abbrev pub part : List ℕ → ℕ → ℕ → List ℕ
part b back n = take n (drop (trailer_at b - back) b)

unfoldable pub value_part : List ℕ → List ℕ
value_part b = part b (trailer_of b).value (2 * pixels (settings_of b))

unfoldable pub guide_part : List ℕ → List ℕ
guide_part b = part b (trailer_of b).guide (2 * pixels (settings_of b))

unfoldable pub table_part : List ℕ → List ℕ
table_part b = part b (trailer_of b).table (2 * own_weights (trailer_of b))

-- the built-in weights: the whole part of 4096 / (16 + d), d being the distance of the two guides
unfoldable pub built_in : ℕ → ℕ → ℕ
built_in f g = 4096 / (16 + distance f g)

-- ---- the picture of a file

-- where the planes and the table begin, as the code holds it
unfoldable pub plan_of : List ℕ → Plan
plan_of b =
    let k = settings_of b in
    let t = trailer_of b in
    record {
      width = k.width;
      height = k.height;
      levels = k.levels;
      guides = k.guides;
      kind = k.kind;
      radius = k.radius;
      smoothing = k.smoothing;
      value = trailer_at b - t.value;
      guide = trailer_at b - t.guide;
      table = trailer_at b - t.table;
      weights = own_weights t;
    }

-- the settings that a plan holds
abbrev pub settings_in : Plan → Settings
settings_in plan =
    record {
      width = plan.width;
      height = plan.height;
      levels = plan.levels;
      guides = plan.guides;
      kind = plan.kind;
      radius = plan.radius;
      smoothing = plan.smoothing;
    }

-- number q of a plane that begins at a byte
abbrev pub plane : List ℕ → ℕ → ℕ → ℕ
plane b start q = be16 b (start + 2 * q)

unfoldable pub pixel_level : List ℕ → ℕ → ℕ
pixel_level b q = plane b (plan_of b).value q

unfoldable pub pixel_guide : List ℕ → ℕ → ℕ
pixel_guide b q = plane b (plan_of b).guide q

unfoldable pub frame_of : List ℕ → Frame
frame_of b =
    let k = settings_of b in
    record {
      set = k;
      value_at = λ s t. pixel_level b (t * k.width + s);
      guide_at = λ s t. record { 0 = pixel_guide b (t * k.width + s) };
      weight_at = λ f g. if eqb (trailer_of b).table 0 then built_in f.0 g.0 else plane b (plan_of b).table (f.0 * k.guides + g.0);
    }

-- the frame of a file, and the value of its pixel q, where a value plane is given in place of the file's own
abbrev pub frame_with : List ℕ → List ℕ → Frame
frame_with b plane = with_values (frame_of b) plane

abbrev pub value_of : List ℕ → List ℕ → ℕ → ℕ
value_of b plane q = in_place plane q (pixel_level b q)
