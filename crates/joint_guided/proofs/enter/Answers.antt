-- Histogram, sums and tally are made, then the window answers. Assumes nothing.
use Rattle.std.proofs.Common.{refl, arith}
use Rattle.spec.proofs.Plans.{pixel-of}
use Rattle.levels.proofs.AnswerLaws.{level-cells, gathered}
use Rattle.levels.proofs.ListTallyLaws.{carries-still}
use Rattle.visit.proofs.StartLaws.{levels-some}
use Rattle.joint_guided.proofs.GuidedLaws.{numbers_long, profiled}
use Rattle.joint_guided.proofs.enter.Goals as goal

pub tally_below-below-requires : goal.tally_below-below-requires
tally_below-below-requires c =
    let k = c.requires.counted.0 in
    let v = c.start.ensures in
    (omega (arith, numbers_long k.pictured v), level-cells (pixel-of k.pictured k.column k.row) (profiled k.pictured v), levels-some k.pictured)

pub arrive-requires-clause-sums_at : goal.arrive-requires-clause-sums_at
arrive-requires-clause-sums_at c =
    let k = c.requires.counted.0 in (
      c.start-a.ensures,
      carries-still (pixel-of k.pictured k.column k.row)
          (gathered k.pictured k.column k.row (profiled k.pictured c.start.ensures) (levels-some k.pictured) c.tally_below-below.ensures) refl refl,
    )

pub arrive-requires-clause-cut_lt_levels : goal.arrive-requires-clause-cut_lt_levels
arrive-requires-clause-cut_lt_levels c = (levels-some c.requires.counted.0.pictured, omega arith, c.requires.balance_box_value)
