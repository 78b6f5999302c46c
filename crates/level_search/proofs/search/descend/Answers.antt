-- `level_search::search::descend` meets its contract. Assumes nothing.
use Rattle.std.proofs.Common.{◌≡◌, sym, ◌∙◌, ◌+◌, ◌-◌, arith}
use Rattle.level_search.specs.Search.{FailTo}
use Rattle.level_search.proofs.SearchLaws.{tally-back, tally-enough, half_at, first-here, fail-below, fail_none}
use Rattle.level_search.proofs.search.descend.Goals as goal

pub overflow_sub-below : goal.overflow_sub-below
overflow_sub-below c = (tally-enough c.loop-c.c c.loop-c.invariant.tally).0

pub overflow_sub-below-in-loop-c : goal.overflow_sub-below-in-loop-c
overflow_sub-below-in-loop-c c = (tally-enough c.loop-c.c c.loop-c.invariant.tally).1

-- where it falls short, every level below does
pub returns-then-not-reached : goal.returns-then-not-reached
returns-then-not-reached c =
    let v = c.loop-c.invariant in
    let e : c.loop-c.c - 1 + 1 ≡ c.loop-c.c = omega (arith, c.loop-c-test.true) in
    let p = sym (half_at c.args.coefficients (c.loop-c.c - 1) (tally-back (omega arith) v.tally)) ∙ sym c.reached.ensures ∙ c.if-not-reached.true in
    let f : FailTo c.args.coefficients c.args.counts.now c.args.sums.now (c.loop-c.c - 1 + 1) = fail-below c.requires.rising (omega arith) p in
    (record { level = first-here (rw e at f) (omega arith) v.pass; tally = v.tally }, omega arith, omega arith)

pub loop-c-preserved : goal.loop-c-preserved
loop-c-preserved c =
    let a = tally-back (omega arith) c.loop-c.invariant.tally in
    record { tally = a; pass = sym (half_at c.args.coefficients (c.loop-c.c - 1) a) ∙ sym c.reached.ensures ∙ c.if-not-reached.false }

pub returns : goal.returns
returns c =
    let v = c.loop-c.invariant in
    let e : c.loop-c.c ≡ 0 = omega arith in
    let p = rw e at v.pass in
    (record { level = first-here fail_none (omega arith) p; tally = rw e at v.tally }, omega arith, omega arith)
