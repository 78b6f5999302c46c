-- `clear` meets its contract: the bits of all the words, together, are none.
use Rattle.std.proofs.Common.{◌≡◌, ◌+◌, ◌-◌, take, drop, bit_or, rules, fold, sym, ◌∙◌}
use borrow.Author.Tests.{eqb-true}
use Rattle.joint_cells.proofs.VacantLaws.{none-together}
use Rattle.joint_cells.proofs.vacant.clear.Goals as goal

pub returns : goal.returns
returns c = λ e.
    let together : c.fold.result ≡ fold bit_or 0 (take ((c.args.first + c.args.n) - c.args.first) (drop c.args.first c.args.words.now)) = search rules in
    none-together c.args.words.now c.args.first c.args.n (sym together ∙ eqb-true c.fold.result 0 e)
