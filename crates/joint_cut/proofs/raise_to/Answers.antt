-- `raise_to` meets its contract.
use Rattle.std.proofs.Common.{◌≡◌, ◌∙◌, ap, refl, ◌+◌, ◌-◌, arith}
use Rattle.joint_search.specs.Search.{box_in}
use Rattle.joint_search.proofs.SearchLaws.{box-bounds, raised}
use Rattle.joint_cut.proofs.raise_to.Goals as goal

pub shift_level-requires-clause-by_bound : goal.shift_level-requires-clause-by_bound
shift_level-requires-clause-by_bound c =
    (omega arith, box-bounds c.requires.searchable (c.loop-i.i - 1) _ (omega (arith, c.requires.from_le_to)) c.loop-i.invariant.box)

pub loop-i-preserved : goal.loop-i-preserved
loop-i-preserved c =
    let d : c.loop-i.i ≡ c.loop-i.i - 1 + 1 = omega arith in
    let e : c.loop-i.i - 1 + 1 ≡ c.loop-i.i + 1 - 1 = omega arith in
    record {
      upto = omega arith;
      box =
          raised c.args.sizes c.args.counts.now (c.loop-i.i - 1) _ _ c.loop-i.balance_box _ c.loop-i.invariant.box c.shift_level.ensures d refl
          ∙ ap (box_in c.args.sizes c.args.counts.now) e;
    }

pub returns : goal.returns
returns c =
    let e : c.loop-i.i - 1 ≡ c.args.to.0 = omega (arith, c.requires.from_le_to) in
    c.loop-i.invariant.box ∙ ap (box_in c.args.sizes c.args.counts.now) e

pub returns-2 : goal.returns-2
returns-2 c =
    let d : c.loop-i.i ≡ c.loop-i.i - 1 + 1 = omega arith in
    let e : c.loop-i.i - 1 + 1 ≡ c.args.to.0 = omega arith in
    raised c.args.sizes c.args.counts.now (c.loop-i.i - 1) _ _ c.loop-i.balance_box _ c.loop-i.invariant.box c.shift_level.ensures d refl
    ∙ ap (box_in c.args.sizes c.args.counts.now) e
