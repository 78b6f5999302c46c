-- Settings of seven numbers of any size, and those that their fields hold.
-- Assumes nothing.
use Rattle.std.specs.Prelude.{ℕ, ◌≡◌}
use Rattle.spec.specs.declared.Settings.{Settings}
use Rattle.spec.specs.Refusal.{accepted}
use Rattle.spec.specs.Checks.{settings_outcome}

-- the settings that seven numbers make, of any size
abbrev pub settings_from : ℕ → ℕ → ℕ → ℕ → ℕ → ℕ → ℕ → Settings
settings_from w h l m k r e = record { width = w; height = h; levels = l; guides = m; kind = k; radius = r; smoothing = e }

-- the settings that the seven numbers make, and those, s, that their fields hold: checks 2 to 5 say the same of both, and only of equal ones
-- that they pass
pub record Narrowed (settings s : Settings) : Type 0 where
  pub same : settings_outcome s ≡ settings_outcome settings
  pub whole : settings_outcome settings ≡ accepted → s ≡ settings
