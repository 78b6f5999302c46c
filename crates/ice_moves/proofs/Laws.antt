-- Where each byte leads. Assumes nothing.
use Rattle.std.proofs.Common.{◌≡◌, ℕ, ◌+◌, ◌-◌, ◌<◌, refl, arith}
use Rattle.std.proofs.lemmas.Grind.{common_steps}
use Rattle.std.specs.Prelude.{ltb}
use Rattle.spec.specs.declared.Settings.{Settings}
use Rattle.spec.specs.declared.Move.TheVariants.{Nowhere}
use Rattle.spec.specs.Walk.{move, to_if}

module _ (k : Settings) (s t : ℕ) where
  pub right : move k s t 0 ≡ to_if (ltb (s + 1) k.width) (s + 1) t
  unfolding move
  right = refl

  pub left : move k s t 1 ≡ to_if (ltb 0 s) (s - 1) t
  unfolding move
  left = refl

  pub down : move k s t 2 ≡ to_if (ltb (t + 1) k.height) s (t + 1)
  unfolding move
  down = refl

  pub up : move k s t 3 ≡ to_if (ltb 0 t) s (t - 1)
  unfolding move
  up = refl

  pub unknown : (b : ℕ) → 3 < b → move k s t b ≡ Nowhere 65533
  unfolding move
  unknown b h = grind (arith, common_steps)

pub ruleset moves = (right, left, down, up, unknown)
