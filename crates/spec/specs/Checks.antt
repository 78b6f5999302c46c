-- Checks 1 to 7, which every call on a file makes first.
-- Assumes nothing.
use Rattle.std.specs.Prelude.{◌⊎◌, ◌≡◌, ℕ, ◌+◌, ◌*◌, ◌≤◌, ◌<◌, Bool, true, false, not, ◌&&◌, ◌||◌, List, [], ◌∷◌, leb, ltb, eqb, length, get_or, if◌then◌else◌}
use Rattle.spec.specs.declared.Settings.{Settings}
use Rattle.spec.specs.declared.Trailer.{Trailer}
use Rattle.spec.specs.declared.Plan.{Plan}
use Rattle.spec.specs.Base.{first}
use Rattle.spec.specs.Bytes.{be32}
use Rattle.spec.specs.Refusal.{Outcome, accepted, refused, ◌▷◌, refuse}
use Rattle.spec.specs.Frame.{no_reading, trailer_at, settings_of, trailer_of, pixels, table_size, plane, plan_of, pixel_level}

abbrev pub outside : ℕ → ℕ → ℕ → Bool
outside low high n = ltb n low || ltb high n

-- the mark 49 43 45 31
unfoldable pub bad_mark : List ℕ → Bool
bad_mark b = ltb (length b) 28 || not (eqb (be32 b (trailer_at b + 24)) 0x49434531)

unfoldable pub bad_size : Settings → Bool
bad_size settings = outside 1 1024 settings.width || outside 1 1024 settings.height || ltb 262144 (pixels settings)

unfoldable pub bad_counts : Settings → Bool
bad_counts settings = outside 2 1024 settings.levels || outside 2 256 settings.guides

unfoldable pub bad_kind : Settings → Bool
bad_kind settings =
    if eqb settings.kind 1 then not (eqb settings.smoothing 0)
    else if eqb settings.kind 2 then outside 1 65025 settings.smoothing
    else true

unfoldable pub bad_radius : Settings → Bool
bad_radius settings = ltb 15 settings.radius

-- checks 2 to 5, which the writer shares
unfoldable pub settings_outcome : Settings → Outcome
settings_outcome settings =
    refuse 2 (bad_size settings) ▷ refuse 3 (bad_counts settings) ▷ refuse 4 (bad_kind settings) ▷ refuse 5 (bad_radius settings)

-- document 01's limits, as checks 2 to 5 leave them (`settings-limits` of proofs/Limits)
pub record SettingsLimits (settings : Settings) : Type 0 where
  pub width_low : 1 ≤ settings.width
  pub width_high : settings.width ≤ 1024
  pub height_low : 1 ≤ settings.height
  pub height_high : settings.height ≤ 1024
  pub pixels_high : settings.width * settings.height ≤ 262144
  pub levels_low : 2 ≤ settings.levels
  pub levels_high : settings.levels ≤ 1024
  pub guides_low : 2 ≤ settings.guides
  pub guides_high : settings.guides ≤ 256
  pub radius_high : settings.radius ≤ 15
  pub kinds : ((settings.kind ≡ 1) × (settings.smoothing ≡ 0))
      ⊎ ((settings.kind ≡ 2) × (1 ≤ settings.smoothing) × (settings.smoothing ≤ 65025))

-- check 6, of a file whose trailer begins at an offset
unfoldable pub bad_distance : ℕ → Trailer → Bool
bad_distance at t =
    outside (2 * pixels t.settings) at t.value || outside (2 * pixels t.settings) at t.guide
    || (not (eqb t.table 0) && (outside (2 * table_size t.settings) at t.table || eqb t.settings.kind 2))

-- 7 at the first of n numbers that is limit or more; they stand two bytes apart from the offset on
unfoldable pub scan : (ℕ → ℕ) → ℕ → ℕ → ℕ → Outcome
scan number n limit offset =
    let k = first (λ j. leb limit (number j)) n in
    if ltb k n then refused 7 ((offset + 2 * k) ∷ []) else accepted

-- the number that a scan judges. Document 02: among values, the one that says there is no reading passes; it is judged as 0
abbrev pub judged : Bool → ℕ → ℕ
judged true n = if eqb n no_reading then 0 else n
judged false n = n

-- of the n numbers, values or not, that begin at an offset of the file
unfoldable pub scan_file : List ℕ → Bool → ℕ → ℕ → ℕ → Outcome
scan_file b values offset n limit = scan (λ j. judged values (plane b offset j)) n limit offset

unfoldable pub value_scan : List ℕ → Plan → Outcome
value_scan b plan = scan_file b true plan.value (plan.width * plan.height) plan.levels

unfoldable pub guide_scan : List ℕ → Plan → Outcome
guide_scan b plan = scan_file b false plan.guide (plan.width * plan.height) plan.guides

-- check 7, of the two planes: a weight may be any number
unfoldable pub contents : List ℕ → Plan → Outcome
contents b plan = value_scan b plan ▷ guide_scan b plan

-- checks 1 to 6, of trailer and distances
unfoldable pub trailer_outcome : List ℕ → Outcome
trailer_outcome b = refuse 1 (bad_mark b) ▷ settings_outcome (settings_of b) ▷ refuse 6 (bad_distance (trailer_at b) (trailer_of b))

unfoldable pub verdict : List ℕ → Outcome
verdict b = trailer_outcome b ▷ contents b (plan_of b)

-- a plane that can be given in place of an accepted file's values: of the picture's size, with levels where the file has readings and none elsewhere
pub record ValuesFit (b values : List ℕ) : Type 0 where
  pub long : length values ≡ pixels (settings_of b)
  pub low : (q : ℕ) → q < pixels (settings_of b) → eqb (get_or values q 0) no_reading ≡ false → get_or values q 0 < (settings_of b).levels
  pub dead : (q : ℕ) → q < pixels (settings_of b) → eqb (get_or values q 0) no_reading ≡ eqb (pixel_level b q) no_reading

-- such a plane, or none
abbrev pub PlaneFits : List ℕ → List ℕ → Type 0
PlaneFits b [] = Unit
PlaneFits b (v ∷ vs) = ValuesFit b (v ∷ vs)

-- an accepted file, its plan, and a plane that can be given in place of its values; or none, so that it has its own
pub record Pictured (b values : List ℕ) (layout : Plan) : Type 0 where
  pub accepts : verdict b ≡ accepted
  pub plan : layout ≡ plan_of b
  pub fits : PlaneFits b values

abbrev pub Planned : List ℕ → Plan → Type 0
Planned b layout = Pictured b [] layout
