-- Lines of pixels: a column or a row of a window, and what a window loses and gains as its centre moves by one pixel.
-- Assumes nothing.
use Rattle.std.specs.Prelude.{◌≡◌, Bool, List, ℕ, ◌+◌, ◌-◌, ◌*◌, ◌≤◌, ◌<◌, leb, ltb, eqb, if◌then◌else◌}
use Rattle.spec.specs.declared.Plan.{Plan}
use Rattle.spec.specs.Base.{fold}
use Rattle.spec.specs.Frame.{no_reading, pixel_guide, value_of}
use Rattle.spec.specs.Window.{span}
use Rattle.window.specs.declared.line.Line.{Line}
use Rattle.window.specs.declared.line.Step.{Step}

-- what every accepted plan keeps to
pub record PlanLimits (plan : Plan) : Type 0 where
  pub width : plan.width ≤ 1024
  pub height : plan.height ≤ 1024
  pub radius : plan.radius ≤ 15

-- column x over the rows of the windows of row t, row y over the columns of the windows of column s
unfoldable pub column_line : Plan → ℕ → ℕ → Line
column_line plan x t = record { first = (t - plan.radius) * plan.width + x; stride = plan.width; count = span plan.radius t plan.height }

unfoldable pub row_line : Plan → ℕ → ℕ → Line
row_line plan s y = record { first = y * plan.width + (s - plan.radius); stride = 1; count = span plan.radius s plan.width }

-- the line that begins so many pixels later, with no pixel where it is off the picture
unfoldable pub shift : Line → ℕ → Bool → Line
shift line by on = record { first = line.first + by; stride = line.stride; count = if on then line.count else 0 }

-- the window's centre goes from c to c + 1 among size parallel lines: line is the one at 0, and the next begins apart pixels later
unfoldable pub advance : Line → ℕ → ℕ → ℕ → ℕ → Step
advance line apart c r size =
    record { leaving = shift line ((c - r) * apart) (leb r c); entering = shift line ((c + r + 1) * apart) (ltb (c + r + 1) size) }

-- from column c to c + 1 of row t, from row c to c + 1 of column s; and back
unfoldable pub column_step : Plan → ℕ → ℕ → Step
column_step plan c t = advance (column_line plan 0 t) 1 c plan.radius plan.width

unfoldable pub row_step : Plan → ℕ → ℕ → Step
row_step plan s c = advance (row_line plan s 0) plan.width c plan.radius plan.height

unfoldable pub reverse : Step → Step
reverse step = record { leaving = step.entering; entering = step.leaving }

-- from (s, t) to the neighbour (s', t')
unfoldable pub step_of : Plan → ℕ → ℕ → ℕ → ℕ → Step
step_of plan s t s' t' =
    if ltb s s' then column_step plan s t
    else if ltb s' s then reverse (column_step plan s' t)
    else if ltb t t' then row_step plan s t
    else reverse (row_step plan s t')

-- two neighbours in the picture
pub data Adjacent (plan : Plan) (s t s' t' : ℕ) : Type 0 where
  right : s' ≡ s + 1 → t' ≡ t → s' < plan.width → t < plan.height → Adjacent plan s t s' t'
  left : s ≡ s' + 1 → t' ≡ t → s < plan.width → t < plan.height → Adjacent plan s t s' t'
  down : s' ≡ s → t' ≡ t + 1 → s < plan.width → t' < plan.height → Adjacent plan s t s' t'
  up : s' ≡ s → t ≡ t' + 1 → s < plan.width → t < plan.height → Adjacent plan s t s' t'

-- pixel k of a line; every pixel of the line is one of the picture, and they are few
abbrev pub pixel_of : Line → ℕ → ℕ
pixel_of line k = line.first + k * line.stride

pub record InPlanes (plan : Plan) (line : Line) : Type 0 where
  pub inside : (k : ℕ) → k < line.count → pixel_of line k < plan.width * plan.height
  pub near : line.stride ≤ 1024
  pub few : line.count ≤ 31

pub record StepInPlanes (plan : Plan) (step : Step) : Type 0 where
  pub leaving : InPlanes plan step.leaving
  pub entering : InPlanes plan step.entering

-- h at a pixel's level and guide; nothing at a dead pixel
abbrev pub reading : {A : Type 0} → A → (ℕ → ℕ → A) → ℕ → ℕ → A
reading e h i f = if eqb i no_reading then e else h i f

-- the sum over a line of h at each live pixel's level and guide, in a file with its own values or those of a plane; of its first n pixels
module _ {A : Type 0} (◌⊕◌ : A → A → A) (e : A) where
  unfoldable pub line_fold_to : (file plane : List ℕ) → Line → (ℕ → ℕ → A) → ℕ → A
  line_fold_to b vs d h n = fold ◌⊕◌ e (λ k. reading e h (value_of b vs (pixel_of d k)) (pixel_guide b (pixel_of d k))) 0 n

  abbrev pub line_fold : (file plane : List ℕ) → Line → (ℕ → ℕ → A) → A
  line_fold b vs d h = line_fold_to b vs d h d.count
