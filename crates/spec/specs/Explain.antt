-- Why a window has its level (document 02): what the levels below the answer weigh, and one cause.
-- Assumes nothing.
use Rattle.std.specs.Prelude.{ℕ, zero, suc, ◌-◌, ◌≡◌, true, false, ℤ, pos, ◌<ℤ◌, if◌then◌else◌}
use Rattle.std.specs.Int.Signed.{non_neg}
use Rattle.spec.specs.declared.Settings.{Settings}
use Rattle.spec.specs.declared.Grounds.{Grounds}
use Rattle.spec.specs.declared.Cause.{Cause}
use Rattle.spec.specs.declared.Cause.TheVariants.{Ordinary, Hollow, NegativeAtZero, NegativeAtLast, Empty}
use Rattle.spec.specs.Frame.{Frame}
use Rattle.spec.specs.Window.{pixel_count, empty}
use Rattle.spec.specs.Weight.{own_weight, weightless, weight, monotone}
use Rattle.spec.specs.Median.{total_weight, cumulative, answer}
use Rattle.spec.specs.Walk.{answer_number}

-- document 02: U(m − 1), where U(−1) is 0
unfoldable pub cumulative_below : Frame → ℕ → ℕ → ℕ → ℤ
cumulative_below p s t zero = pos 0
cumulative_below p s t (suc i) = cumulative p s t i

-- what each cause means. `weightless` is document 01's hollow, `monotone` its steady: a window that is not steady has kind 2's formula negative at
-- one end of the guides, 0 or M − 1. `empty` is document 02's window with no reading
abbrev pub Applies : Frame → ℕ → ℕ → Cause → Type 0
Applies p s t Ordinary = (empty p s t ≡ false) × (weightless p s t ≡ false) × (monotone p s t ≡ true)
Applies p s t Hollow = weightless p s t ≡ true
Applies p s t NegativeAtZero = (monotone p s t ≡ false) × (own_weight p s t 0 <ℤ pos 0)
Applies p s t NegativeAtLast = (monotone p s t ≡ false) × (own_weight p s t (p.set.guides - 1) <ℤ pos 0)
Applies p s t Empty = empty p s t ≡ true

-- the one that applies (`applies` and `applies-once` of proofs/Causes)
unfoldable pub cause_of : Frame → ℕ → ℕ → Cause
cause_of p s t =
    if empty p s t then Empty
    else if weightless p s t then Hollow
    else if monotone p s t then Ordinary
    else if non_neg (weight p s t 0) then NegativeAtLast
    else NegativeAtZero

-- the grounds of the answer of the window at (s, t). Document 02: n, T, the answer m, U(m − 1), U(m) and the cause
pub record Grounded (p : Frame) (s t : ℕ) (r : Grounds) : Type 0 where
  pub pixels : r.pixels ≡ pixel_count p s t
  pub total : r.total ≡ total_weight p s t
  pub answered : answer_number r.answer ≡ answer p s t
  pub below : r.below ≡ cumulative_below p s t (answer p s t)
  pub reached : r.reached ≡ cumulative p s t (answer p s t)
  pub cause : r.cause ≡ cause_of p s t
