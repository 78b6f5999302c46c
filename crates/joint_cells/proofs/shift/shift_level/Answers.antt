-- `shift_level` meets its contract.
use Rattle.std.proofs.Common.{◌≡◌, subst, arith, ℤ}
use mir.Syntax.{w16}
use Rattle.ints.specs.Machine.{read-bounded}
use Rattle.joint_cells.specs.Box.{CountsAdded}
use Rattle.joint_cells.proofs.ScanLaws.{next-along, next-low}
use Rattle.joint_cells.proofs.ShiftLaws.{shift-start, shift-done, shift-asks, shift-turn}
use Rattle.joint_cells.proofs.shift.shift_level.Goals as goal

pub loop-g-init : goal.loop-g-init
loop-g-init c =
    let e : c.into_iter-g-iterator.result ≡ c.of-g-items.result = cc in
    let all = c.of-g-items.ensures.all in
    rw e (record {
      can = c.of-g-items.ensures.scans;
      ends = tt;
      along = λ g _. all g;
      moved = shift-start c.requires.marked _ _ _ all;
    })

pub bounds-counts-base : goal.bounds-counts-base
bounds-counts-base c = let low = next-low c.requires.marked c.loop-g.invariant.along c.in-Some.ensures.steps in omega (arith, low, c.requires.marked.cells)

pub plus_times-requires : goal.plus_times-requires
plus_times-requires c =
    let v = c.loop-g.invariant in
    let q = shift-asks c.requires.marked c.requires.by_bound.1 v.along c.in-Some.ensures.steps v.moved in
    (q.0, rw (read-bounded w16 2 c.requires.by_bound.0 tt) c.requires.by_bound.0, q.1)

pub loop-g-preserved : goal.loop-g-preserved
loop-g-preserved c =
    let v = c.loop-g.invariant in
    let n = c.in-Some.ensures.steps in
    record {
      can = (c.in-Some.ensures.goes.on tt).0;
      ends = tt;
      along = next-along c.requires.marked v.along n;
      moved = shift-turn c.requires.marked c.requires.by_bound.1 v.along n v.moved _ c.plus_times.type_inv c.plus_times.ensures;
    }

pub returns : goal.returns
returns c =
    let v = c.loop-g.invariant in
    subst (λ (q : ℤ). CountsAdded c.args.m c.args.level.0 q c.args.counts.now c.args.m c.args.balance_box.now c.loop-g.balance_box)
    (read-bounded w16 2 c.requires.by_bound.0 tt) (shift-done c.requires.marked _ _ _ _ v.along c.in-None.ensures.steps v.moved)
