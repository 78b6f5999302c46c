-- `descend` meets its contract.
use Rattle.std.proofs.Common.{◌≡◌, ◌∙◌, sym, ap, subst, refl, ℕ, ℤ, ◌+◌, ◌-◌, ◌<◌, pos, negsuc, ◌<ℤ◌, ◌≤ℤ◌, arith}
use Rattle.ints.specs.Machine.{lt-true, lt-false}
use Rattle.joint_search.specs.Search.{balance_in, box_in}
use Rattle.joint_search.proofs.SearchLaws.{step-asks, step_down, box-bounds, lowered}
use Rattle.joint_search.proofs.EmptyLaws.{words-fit, box-down, balance-down}
use Rattle.joint_search.proofs.find.descend.Goals as goal

pub below-requires : goal.below-requires
below-requires g c =
    let inside : c.loop-i.i < c.args.sizes.levels = omega (arith, c.requires.from_lt_levels.0, c.loop-i.invariant.upto) in
    (words-fit c.requires.searchable.0 c.loop-i.i inside, inside)

pub loop-i-preserved-in-Some : goal.loop-i-preserved-in-Some
loop-i-preserved-in-Some g c =
    let v = c.loop-i.invariant in
    let e = c.in-Some.ensures in
    let same = balance-down c.requires.searchable.0 c.loop-i.i c.in-Some.n e.1 e.2 c.args.row.now in
    record {
      upto = omega (arith, v.upto);
      balance = v.balance ∙ same;
      enough = subst (λ (q : ℤ). pos 0 ≤ℤ q) same v.enough;
      box = v.box ∙ box-down c.requires.searchable.0 c.loop-i.i c.in-Some.n e.1 e.2;
    }

pub step_balance-lower-requires : goal.step_balance-lower-requires
step_balance-lower-requires g c =
    let h = c.requires.searchable in
    let inside : c.loop-i.i < c.args.sizes.levels = omega (arith, c.requires.from_lt_levels.0, c.loop-i.invariant.upto) in
    step-asks h.0 h.1 c.loop-i.i c.loop-i.i _ _ (negsuc 1) inside inside c.loop-i.invariant.balance c.level_weight.ensures (omega arith)

pub returns-then-short : goal.returns-then-short
returns-then-short g c =
    let h = c.requires.searchable in
    let v = c.loop-i.invariant in
    let inside : c.loop-i.i < c.args.sizes.levels = omega (arith, c.requires.from_lt_levels.0, v.upto) in
    let lower = step_down h.0 h.1 c.loop-i.i _ _ c.step_balance-lower.result c.loop-i-test.true inside v.balance c.level_weight.ensures
    c.step_balance-lower.type_inv c.step_balance-lower.ensures in (
      record {
        upto = v.upto;
        here = v.enough;
        below = λ j e. let d : c.loop-i.i - 1 ≡ j = omega arith in
            subst (λ (q : ℕ). balance_in c.args.sizes c.args.counts.now c.args.row.now q <ℤ pos 0) d (lt-true lower refl c.if-short.true);
      },
      omega (arith, v.upto),
      v.box,
    )

pub shift_level-requires-clause-by_bound : goal.shift_level-requires-clause-by_bound
shift_level-requires-clause-by_bound g c =
    let v = c.loop-i.invariant in
    (omega arith, box-bounds c.requires.searchable.0 c.loop-i.i _ (omega (arith, c.requires.from_lt_levels.0, v.upto)) v.box)

pub loop-i-preserved : goal.loop-i-preserved
loop-i-preserved g c =
    let h = c.requires.searchable in
    let v = c.loop-i.invariant in
    let inside : c.loop-i.i < c.args.sizes.levels = omega (arith, c.requires.from_lt_levels.0, v.upto) in
    let d : c.loop-i.i - 1 + 1 ≡ c.loop-i.i = omega (arith, c.loop-i-test.true) in
    let lower = step_down h.0 h.1 c.loop-i.i _ _ c.step_balance-lower.result c.loop-i-test.true inside v.balance c.level_weight.ensures
    c.step_balance-lower.type_inv c.step_balance-lower.ensures in
    record {
      upto = omega (arith, v.upto);
      balance = lower;
      enough = lt-false lower refl c.if-short.false;
      box =
          lowered c.args.sizes c.args.counts.now (c.loop-i.i - 1) _ _ _ _ (v.box ∙ ap (box_in c.args.sizes c.args.counts.now) (sym d)) c.shift_level.ensures
          (sym d) refl;
    }
