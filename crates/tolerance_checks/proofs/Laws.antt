-- The plan's settings are the file's, as the checks of the tolerance call name them. Assumes nothing.
use mathlib.Core.Path.{◌≡◌, sym, ap, subst}
use mathlib.Core.Bool.{◌||◌}
use mathlib.Core.List.{List, []}
use Prim.Native.Nat.{ℕ, ◌*◌}
use lib.Dec.{ltb, eqb}
use borrow.Author.Tests.{eq-eqb}
use Rattle.spec.specs.declared.Settings.{Settings}
use Rattle.spec.specs.declared.Plan.{Plan}
use Rattle.spec.specs.declared.Room.{Room}
use Rattle.spec.specs.Refusal.{refused, ◌▷◌, refuse}
use Rattle.spec.specs.Frame.{settings_of, settings_in, plan_of, pixels, frame_of}
use Rattle.spec.specs.Checks.{Planned, SettingsLimits}
use Rattle.spec.specs.Calls.{short}
use Rattle.spec.specs.Tolerance.{bad_upper, tolerance_checks}
use Rattle.spec.proofs.Plans.{facts}

module _ {b : List ℕ} {z : Plan} (k : Planned b z) where
  pub settings_are : settings_in z ≡ settings_of b
  unfolding plan_of
  settings_are = ap settings_in k.plan

  pub limits_in : SettingsLimits (settings_in z)
  unfolding frame_of
  limits_in = subst SettingsLimits (sym settings_are) (facts k).limits.sound

  pub size_is : z.width * z.height ≡ pixels (settings_of b)
  size_is = ap pixels settings_are

  pub levels_are : z.levels ≡ (settings_of b).levels
  levels_are = ap (λ (s : Settings). s.levels) settings_are

  -- the checks by the plan; docs/TRACE.md names `by_kind`
  module _ (u : List ℕ) (have : Room) (l g : ℕ) where
    checks-are : (refuse 8 (eqb z.kind 2) ▷ refuse 13 (bad_upper b u)
        ▷ refuse 11 (short (settings_in z) 1 have l (z.width * z.height) || ltb g (z.width * z.height))) ≡ tolerance_checks b u have l g
    unfolding tolerance_checks
    checks-are =
        ap (λ (s : Settings). refuse 8 (eqb s.kind 2) ▷ refuse 13 (bad_upper b u) ▷ refuse 11 (short s 1 have l (pixels s) || ltb g (pixels s)))
        settings_are

    pub by_kind : z.kind ≡ 2 → refused 8 [] ≡ tolerance_checks b u have l g
    by_kind e = rw (eq-eqb z.kind 2 e) at checks-are
