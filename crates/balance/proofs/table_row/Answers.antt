use Rattle.std.proofs.Common.{arith}
use Rattle.std.proofs.lemmas.Grind.{common_steps}
use Rattle.window.proofs.PixelLaws.{guides_high}
use Rattle.balance.proofs.table_row.Goals as goal

pub slice_bounds-weight-items-end : goal.slice_bounds-weight-items-end
slice_bounds-weight-items-end c = let high = guides_high c.requires.0 in omega arith

pub returns : goal.returns
returns c =
    let high = guides_high c.requires.0 in
    record {
      long = grind (arith, common_steps);
      is = λ g l. grind (arith, common_steps);
      low = λ g l. grind (arith, common_steps);
    }
