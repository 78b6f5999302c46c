-- `any_above` meets its contract. Assumes nothing.
use borrow.Author.Rules.{rules}
use borrow.Author.Tests.{tests}
use lib.Dec.{ltb}
use mathlib.Core.Path.{◌∙◌}
use Rattle.std.proofs.lemmas.Iterator.{YieldsList-from_slice}
use Rattle.std.proofs.lemmas.Iterator.Search.{any_from_yields_List}
use Rattle.cameras_checks.proofs.Batch.{above_listed}
use Rattle.cameras_checks.proofs.any_above.Goals as goal

pub returns : goal.returns
returns c =
    any_from_yields_List (ltb c.args.most) _ _ _ c.any.ensures.ran (YieldsList-from_slice c.args.numbers.now cc) (λ x b q k. search (rules, tests))
    ∙ above_listed _ _
