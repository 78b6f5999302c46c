-- `level_search::search::ascend` meets its contract. Assumes nothing.
use Rattle.std.proofs.Common.{sym, ◌∙◌, ◌+◌, w64, arith}
use Rattle.std.proofs.lemmas.Int.{to_z-of_z}
use Rattle.level_search.proofs.SearchLaws.{tally-next, tally-small, half_at, first-here, fail-next, fail-inside, pass-last}
use Rattle.level_search.proofs.BlockLaws.{tally-block, fail-block}
use Rattle.level_search.proofs.search.ascend.Goals as goal

-- a block that is passed over
pub loop-i-preserved-then-light : goal.loop-i-preserved-then-light
loop-i-preserved-then-light c =
    let r = c.requires.lists_searchable in
    let v = c.loop-i.invariant in
    let light = rw (to_z-of_z w64 c.args.heaviest c.ranges.heaviest) at c.light.ensures c.if-light.true in
    let f = fail-block r.1 v.tally light v.fails in
    record {
      from_low = omega (arith, v.from_low);
      to = fail-inside r.0 f;
      tally = tally-block c.total.result c.total-then-light.result v.tally c.total.ensures c.total-then-light.ensures;
      fails = f;
    }

-- a level
pub reached-requires-clause-count_bound : goal.reached-requires-clause-count_bound
reached-requires-clause-count_bound c =
    let v = c.loop-i.invariant in
    tally-small c.requires.lists_searchable.0.cells (c.loop-i.i + 1) (omega (arith, v.to)) (tally-next v.tally)

pub returns-then-reached : goal.returns-then-reached
returns-then-reached c =
    let v = c.loop-i.invariant in
    let a = tally-next v.tally in
    let p = sym (half_at c.args.coefficients c.loop-i.i a) ∙ sym c.reached.ensures ∙ c.if-reached.true in
    (record { level = first-here v.fails v.to p; tally = a }, omega (arith, v.from_low), v.from_low)

pub loop-i-preserved : goal.loop-i-preserved
loop-i-preserved c =
    let v = c.loop-i.invariant in
    let a = tally-next v.tally in
    let p = sym (half_at c.args.coefficients c.loop-i.i a) ∙ sym c.reached.ensures ∙ c.if-reached.false in
    record { from_low = omega (arith, v.from_low); to = omega (arith, c.loop-i-test.true); tally = a; fails = fail-next v.fails p }

-- the last level: none below it passes, so it does
pub returns : goal.returns
returns c =
    let v = c.loop-i.invariant in
    let p = pass-last c.requires.lists_searchable.0 (omega (arith, c.loop-i-test.false)) v.fails in
    (record { level = first-here v.fails v.to p; tally = tally-next v.tally }, omega (arith, v.from_low), v.from_low)
