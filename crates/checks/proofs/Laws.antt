-- What a call said of a test.
-- Assumes nothing.
use mathlib.Core.Path.{◌≡◌, sym, ◌∙◌}
use mathlib.Core.Bool.{Bool}

-- what a call said of a test, and how the branch went
pub known : {flag test : Bool} {b : Bool} → flag ≡ test → flag ≡ b → test ≡ b
known e q = sym e ∙ q
