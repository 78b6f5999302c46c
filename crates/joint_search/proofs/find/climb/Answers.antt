-- `climb` meets its contract.
use Rattle.std.proofs.Common.{◌≡◌, ◌∙◌, sym, subst, refl, ℕ, ◌+◌, pos, ◌<ℤ◌, arith}
use mathlib.Core.Logic.{⊎_elim}
use Rattle.ints.specs.Machine.{lt-true}
use Rattle.joint_pixel.proofs.BitLaws.{lt-or-le}
use Rattle.joint_search.specs.Search.{balance_in}
use Rattle.joint_search.proofs.SearchLaws.{room, step-asks, step-up, box-bounds, raised}
use Rattle.joint_search.proofs.EmptyLaws.{words-fit, box-still, balance-still, climb-over}
use Rattle.joint_search.proofs.find.climb.Goals as goal

pub above-requires : goal.above-requires
above-requires g c = (words-fit c.requires.searchable.0 c.loop-b.i c.loop-b.invariant.inside, c.loop-b.invariant.inside)

pub loop-b-preserved-in-Some : goal.loop-b-preserved-in-Some
loop-b-preserved-in-Some g c =
    let st = c.requires.searchable.0 in
    let v = c.loop-b.invariant in
    let e = c.in-Some.ensures.1 in
    record {
      from = omega (arith, v.from);
      inside = omega (arith, e.whole);
      balance = v.balance ∙ sym (balance-still st c.loop-b.i c.in-Some.n e c.args.row.now c.in-Some.n (omega arith));
      before = climb-over st c.loop-b.i c.in-Some.n e c.args.row.now c.args.from.0 (lt-true v.balance refl c.loop-b-test.true) v.before;
      box = v.box ∙ sym (box-still st c.loop-b.i c.in-Some.n e);
    }

pub raise_level-requires : goal.raise_level-requires
raise_level-requires g c =
    let h = c.requires.searchable in
    let v = c.loop-b.invariant in
    let next = room h.0 h.1 c.loop-b.i v.inside (lt-true v.balance refl c.loop-b-test.true) in
    (h.0.marked (c.loop-b.i + 1) next, h.1, box-bounds h.0 c.loop-b.i _ v.inside v.box)

pub step_balance-b-requires : goal.step_balance-b-requires
step_balance-b-requires g c =
    let h = c.requires.searchable in
    let v = c.loop-b.invariant in
    let next = room h.0 h.1 c.loop-b.i v.inside (lt-true v.balance refl c.loop-b-test.true) in
    step-asks h.0 h.1 c.loop-b.i (c.loop-b.i + 1) _ _ (pos 2) v.inside next v.balance c.raise_level.ensures.0 (omega arith)

pub loop-b-preserved : goal.loop-b-preserved
loop-b-preserved g c =
    let h = c.requires.searchable in
    let v = c.loop-b.invariant in
    let short = lt-true v.balance refl c.loop-b-test.true in
    let next = room h.0 h.1 c.loop-b.i v.inside short in
    record {
      from = omega (arith, v.from);
      inside = next;
      balance =
          step-up h.0 h.1 c.loop-b.i _ _ c.step_balance-b.result next v.balance c.raise_level.ensures.0 c.step_balance-b.type_inv c.step_balance-b.ensures;
      before = λ j u l. ⊎_elim (λ x. v.before j u x)
          (λ x. let d : c.loop-b.i ≡ j = omega arith in
          subst (λ (q : ℕ). balance_in c.args.sizes c.args.counts.now c.args.row.now q <ℤ pos 0) d short)
          (lt-or-le j c.loop-b.i);
      box = raised c.args.sizes c.args.counts.now c.loop-b.i _ _ c.loop-b.balance_box _ v.box c.raise_level.ensures.1 refl refl;
    }
