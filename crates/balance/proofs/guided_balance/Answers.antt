use Rattle.std.proofs.Common.{rules, ◌∙◌, w64}
use Rattle.std.proofs.lemmas.Int.{to_z-of_z}
use Rattle.spec.proofs.Plans.{pixel-of}
use Rattle.balance.proofs.BalanceLaws.{by-balance}
use Rattle.balance.proofs.guided_balance.Goals as goal

pub returns : goal.returns
returns c =
    let a = c.requires.planned in
    to_z-of_z w64 _ (search rules) ∙ c.window_balance.ensures ∙ by-balance (pixel-of a.0 a.2 a.3) c.guided_formula-formula.ensures.0 c.args.top.0
