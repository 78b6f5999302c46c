use native.Mathlib.Omega.{arith}
use Rattle.c_values.proofs.SettingsLaws.{alike, narrowed}
use borrow.Author.Rules.{rules}
use Rattle.c_values.proofs.settings_from.Goals as goal

pub returns : goal.returns
returns c =
    narrowed
    (alike 1024 _ _ _ c.at_most.ensures (omega arith))
    (alike 1024 _ _ _ c.at_most-2.ensures (omega arith))
    (alike 1024 _ _ _ c.at_most-3.ensures (omega arith))
    (alike 256 _ _ _ c.at_most-4.ensures (omega arith))
    (alike 2 _ _ _ c.at_most-5.ensures (omega arith))
    (alike 15 _ _ _ c.at_most-6.ensures (omega arith))
    (alike 65025 _ _ _ c.at_most-7.ensures (omega arith))
