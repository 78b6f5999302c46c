-- `mirror` meets its contract.
use Rattle.std.proofs.Common.{◌<◌, take, length, arith}
use Rattle.frame_weights.proofs.Weights.{built-entry}
use Rattle.big_endian_part.proofs.PartLaws.{made-next}
use Rattle.joint_rows.proofs.RowLaws.{mirror-long, mirror-whole}
use Rattle.joint_rows.proofs.rows.mirror.Goals as goal

pub offset_bounds-built-abs_diff : goal.offset_bounds-built-abs_diff
offset_bounds-built-abs_diff c = omega (arith, mirror-long c.args.out.now c.requires)

pub bounds-built-abs_diff : goal.bounds-built-abs_diff
bounds-built-abs_diff c = omega (arith, mirror-long c.args.out.now c.requires)

pub loop-k-preserved : goal.loop-k-preserved
loop-k-preserved c =
    let inside : c.loop-k.k < length (take 511 c.args.out.now) = omega arith in
    let few = mirror-long c.args.out.now c.requires in
    made-next c.loop-k.k _ (omega arith) inside (built-entry 255 c.loop-k.k c.abs_diff.result c.constants-built.ensures (omega (arith, few)) (omega arith)) c.loop-k.invariant

pub returns : goal.returns
returns c = mirror-whole c.args.out.now c.loop-k.weight-items c.loop-k.k (omega (arith, mirror-long c.args.out.now c.requires)) c.requires c.loop-k.invariant
