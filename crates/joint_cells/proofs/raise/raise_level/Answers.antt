-- `raise_level` meets its contract.
use Rattle.std.proofs.Common.{◌≡◌, ◌∙◌, ap, arith, pos, refl}
use mir.Syntax.{w32}
use mir.Facts.{to_z_pos}
use Rattle.joint_cells.proofs.ScanLaws.{next-along, next-low, turn, sofar-low, dot-start, dot-again, dot-done}
use Rattle.joint_cells.proofs.ShiftLaws.{shift-start, shift-done, shift-asks, shift-turn}
use Rattle.joint_cells.proofs.raise.raise_level.Goals as goal

pub loop-g-init : goal.loop-g-init
loop-g-init c =
    let e : c.into_iter-g-iterator.result ≡ c.of-g-items.result = cc in
    let all = c.of-g-items.ensures.all in
    rw e (record {
      can = c.of-g-items.ensures.scans;
      ends = tt;
      along = λ g _. all g;
      sum = dot-start c.requires.0 c.requires.1 _ all;
      moved = shift-start c.requires.0 _ _ _ all;
    })

pub bounds-counts-base : goal.bounds-counts-base
bounds-counts-base c = omega (arith, turn c.requires.0 c.requires.1 c.in-Some.g.0 (next-low c.requires.0 c.loop-g.invariant.along c.in-Some.ensures.steps))

pub bounds-row-g : goal.bounds-row-g
bounds-row-g c = omega (arith, turn c.requires.0 c.requires.1 c.in-Some.g.0 (next-low c.requires.0 c.loop-g.invariant.along c.in-Some.ensures.steps))

pub overflow_add-dot : goal.overflow_add-dot
overflow_add-dot c =
    omega (
      arith,
      turn c.requires.0 c.requires.1 c.in-Some.g.0 (next-low c.requires.0 c.loop-g.invariant.along c.in-Some.ensures.steps),
      sofar-low c.requires.0 c.requires.1 _ _ c.loop-g.invariant.sum,
    )

pub loop-g-preserved : goal.loop-g-preserved
loop-g-preserved c =
    let v = c.loop-g.invariant in
    let n = c.in-Some.ensures.steps in
    record {
      can = (c.in-Some.ensures.goes.on tt).0;
      ends = tt;
      along = next-along c.requires.0 v.along n;
      sum = dot-again c.requires.0 c.requires.1 _ _ v.along n v.sum refl;
      moved = shift-turn c.requires.0 c.requires.2 v.along n v.moved _ c.plus_times.type_inv c.plus_times.ensures;
    }

pub overflow_cast-result : goal.overflow_cast-result
overflow_cast-result c = omega (arith, sofar-low c.requires.0 c.requires.1 _ _ c.loop-g.invariant.sum)

pub returns : goal.returns
returns c =
    let v = c.loop-g.invariant in (
      to_z_pos w32 (omega (arith, sofar-low c.requires.0 c.requires.1 _ _ v.sum))
          ∙ ap pos (dot-done c.requires.0 c.requires.1 _ _ v.along c.in-None.ensures.steps v.sum),
      shift-done c.requires.0 (pos 2) _ _ _ v.along c.in-None.ensures.steps v.moved,
    )

pub plus_times-requires : goal.plus_times-requires
plus_times-requires c =
    let v = c.loop-g.invariant in
    let q = shift-asks c.requires.0 c.requires.2 v.along c.in-Some.ensures.steps v.moved in
    (q.0, omega arith, q.1)
