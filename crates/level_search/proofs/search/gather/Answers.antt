-- `level_search::search::gather` meets its contract: the sums of the lists' first numbers. Assumes nothing.
use Rattle.std.proofs.Common.{◌∙◌, arith}
use Rattle.level_search.proofs.SearchLaws.{sum-take}
use Rattle.level_search.proofs.search.gather.Goals as goal

pub sum_of-requires : goal.sum_of-requires
sum_of-requires c =
    let r = c.requires in
    omega (arith, sum-take c.args.counts.now c.args.end r.end_in_bounds, r.level_cells.count_high c.args.end r.end_in_bounds)

pub sum_of-requires-2 : goal.sum_of-requires-2
sum_of-requires-2 c =
    let r = c.requires in
    omega (arith, r.level_cells.long, sum-take c.args.sums.now c.args.end, r.level_cells.sum_high c.args.end r.end_in_bounds)

pub returns : goal.returns
returns c =
    let r = c.requires in
    record {
      count = c.sum_of.ensures ∙ sum-take c.args.counts.now c.args.end r.end_in_bounds;
      sum = c.sum_of-2.ensures ∙ sum-take c.args.sums.now c.args.end (omega (arith, r.level_cells.long));
    }
