-- `level_search::block::total` meets its contract. Assumes nothing.
use Rattle.std.proofs.Common.{◌≡◌, ◌+◌, ◌-◌, arith}
use Rattle.level_search.proofs.SearchLaws.{sum-part}
use Rattle.level_search.proofs.block.total.Goals as goal

pub sum_of-requires : goal.sum_of-requires
sum_of-requires c =
    let e : c.args.from.0 + 16 - c.args.from.0 ≡ 16 = omega arith in
    rw e (omega (arith, sum-part c.args.numbers.now c.args.from.0 16 c.requires.0))

pub returns : goal.returns
returns c =
    let e : c.args.from.0 + 16 - c.args.from.0 ≡ 16 = omega arith in
    omega (arith, rw e at c.sum_of.ensures, sum-part c.args.numbers.now c.args.from.0 16 c.requires.0)
