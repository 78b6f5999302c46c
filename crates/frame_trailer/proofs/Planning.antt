-- A plan made field by field, and checks 1 to 6 in their order. Assumes nothing.
use mathlib.Core.Path.{◌≡◌, ap, ◌∙◌}
use mathlib.Core.List.{List}
use Prim.Native.Nat.{ℕ, ◌-◌}
use Rattle.spec.specs.declared.Trailer.{Trailer}
use Rattle.spec.specs.declared.Plan.{Plan}
use Rattle.spec.specs.Refusal.{Outcome, accepted, ◌▷◌, refuse}
use Rattle.spec.specs.Frame.{trailer_at, settings_of, trailer_of, own_weights, plan_of}
use Rattle.spec.specs.Checks.{bad_mark, settings_outcome, bad_distance, trailer_outcome}
use Rattle.spec.proofs.Outcomes.{past}

-- a trailer's settings, and the four numbers that its distances lead to
abbrev plan_with : Trailer → ℕ → ℕ → ℕ → ℕ → Plan
plan_with t v g a n =
    let k = t.settings in
    record {
      width = k.width;
      height = k.height;
      levels = k.levels;
      guides = k.guides;
      kind = k.kind;
      radius = k.radius;
      smoothing = k.smoothing;
      value = v;
      guide = g;
      table = a;
      weights = n;
    }

pub plan-made : (b : List ℕ) (t : Trailer) {v g a n : ℕ} → t ≡ trailer_of b → v ≡ trailer_at b - t.value → g ≡ trailer_at b - t.guide →
    a ≡ trailer_at b - t.table
    → n ≡ own_weights t → plan_with t v g a n ≡ plan_of b
unfolding plan_of trailer_of
plan-made b t e ev eg ea en =
    (λ i. plan_with t (ev i) (eg i) (ea i) (en i))
    ∙ ap (λ (u : Trailer). plan_with u (trailer_at b - u.value) (trailer_at b - u.guide) (trailer_at b - u.table) (own_weights u)) e

-- ---- checks 1 to 6 in their order
abbrev distance_outcome : List ℕ → Outcome
distance_outcome b = refuse 6 (bad_distance (trailer_at b) (trailer_of b))

pub past-mark : (b : List ℕ) {u : Outcome} → refuse 1 (bad_mark b) ≡ accepted → u ≡ (settings_outcome (settings_of b) ▷ distance_outcome b) →
    u ≡ trailer_outcome b
unfolding trailer_outcome
past-mark b = past (refuse 1 (bad_mark b)) (settings_outcome (settings_of b) ▷ distance_outcome b)

pub past-settings : (b : List ℕ) {u : Outcome} → refuse 1 (bad_mark b) ≡ accepted → settings_outcome (settings_of b) ≡ accepted →
    u ≡ distance_outcome b → u ≡ trailer_outcome b
past-settings b m s e = past-mark b m (past (settings_outcome (settings_of b)) (distance_outcome b) s e)
