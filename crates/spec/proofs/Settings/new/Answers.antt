-- `spec::Settings::new` meets its contract. Assumes nothing.
use mathlib.Core.Path.{refl}
use Rattle.spec.proofs.Settings.new.Goals as goal

pub returns : goal.returns
returns c = refl
