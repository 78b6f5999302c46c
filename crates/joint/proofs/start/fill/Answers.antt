-- Assumes nothing.
use Rattle.std.proofs.Common.{arith}
use Rattle.window.proofs.PixelLaws.{plan-limits}
use Rattle.joint.proofs.StartLaws.{column-planes, fill-asks, fill-again}
use Rattle.joint.proofs.start.fill.Goals as goal

pub column_line-line-requires-clause-plan_limits : goal.column_line-line-requires-clause-plan_limits
column_line-line-requires-clause-plan_limits c = plan-limits c.requires.pictured.0

pub column_line-line-requires-clause-x_bound : goal.column_line-line-requires-clause-x_bound
column_line-line-requires-clause-x_bound c =
    let o = c.requires.pictured.1 in
    (omega (arith, o.wide, (plan-limits c.requires.pictured.0).width), o.row)

pub read_in-m-requires : goal.read_in-m-requires
read_in-m-requires c = (
  c.requires.pictured.0,
  column-planes c.requires.pictured.0 c.requires.pictured.1 c.loop-k-test.true c.loop-k.invariant c.column_line-line.ensures,
  omega arith,
)

pub change_pixels-requires : goal.change_pixels-requires
change_pixels-requires c =
    fill-asks c.requires.pictured.0 c.requires.pictured.1 c.loop-k-test.true c.loop-k.invariant c.column_line-line.ensures c.read_in-m.ensures.1

pub loop-k-preserved : goal.loop-k-preserved
loop-k-preserved c =
    fill-again c.requires.pictured.0 c.requires.pictured.1 c.loop-k-test.true c.loop-k.invariant c.column_line-line.ensures c.read_in-m.ensures.1
    c.change_pixels.ensures.counts_passed c.change_pixels.ensures.box_passed
