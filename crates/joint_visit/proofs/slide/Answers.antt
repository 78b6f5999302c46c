-- The lines are read, the stores moved, then the window answers by its kind and way. Assumes nothing.
use Rattle.std.proofs.Common.{Bool, sym, ap, ◌∙◌, arith}
use Rattle.spec.specs.Frame.{frame_with}
use Rattle.spec.specs.Joint.{balance_box_at}
use Rattle.spec.specs.Walk.{by_blocks}
use Rattle.spec.proofs.Bounds.{pixel_count-high}
use Rattle.spec.proofs.Plans.{kind-of, kind-table, pixel-of}
use Rattle.window.proofs.PixelLaws.{plan-limits}
use Rattle.window.proofs.FormLaws.{both-in}
use Rattle.pixels.proofs.Laws.{step_in}
use Rattle.pixels.proofs.SumLaws.{below-most, movable, sums_moved}
use Rattle.joint.proofs.PixelLaws as joint
use Rattle.histogram.proofs.PixelLaws as histogram
use Rattle.levels.proofs.ListTallyLaws.{carries-step}
use Rattle.joint_visit.specs.Visit.{box_cut}
use Rattle.joint_visit.proofs.VisitLaws.{
  counted_of,
  counted-own,
  box-own,
  sums-own,
  histogram-own,
  carries_own,
  count_enough,
  count-moved,
  kept-level,
  kept-held,
  kept-moved,
  box-cut-joint,
  box-cut-table,
  box-cut-guided,
  table-visited,
  guided-visited,
  blocks-visited,
}
use Rattle.joint_visit.proofs.slide.Goals as goal

pub step_to-step-requires-clause-plan_limits : goal.step_to-step-requires-clause-plan_limits
step_to-step-requires-clause-plan_limits c = plan-limits c.requires.held.0.pictured

pub read_in-n-requires : goal.read_in-n-requires
read_in-n-requires c =
    let pl = c.requires.held.0.pictured in
    (pl, (step_in pl c.requires.held.1 c.step_to-step.ensures).entering, omega arith)

pub read_in-k-requires : goal.read_in-k-requires
read_in-k-requires c =
    let pl = c.requires.held.0.pictured in
    (pl, (step_in pl c.requires.held.1 c.step_to-step.ensures).leaving, omega arith)

pub exchange-requires : goal.exchange-requires
exchange-requires c =
    joint.exchange-asks (kept-held c.args.way c.args.from.cut.0 c.requires.held.0 c.by_blocks-blocks.ensures c.box_cut-kept.ensures) c.requires.held.1 c.step_to-step.ensures c.read_in-n.ensures.1 c.read_in-k.ensures.1

-- kind 2
pub moved-a-requires-clause-pixels_below : goal.moved-a-requires-clause-pixels_below
moved-a-requires-clause-pixels_below c =
    let pl = c.requires.held.0.pictured in
    (below-most pl c.read_in-n.ensures.1.below, below-most pl c.read_in-k.ensures.1.below)

pub moved-a-requires-clause-movable_by_lists : goal.moved-a-requires-clause-movable_by_lists
moved-a-requires-clause-movable_by_lists c =
    let pl = c.requires.held.0.pictured in
    movable pl c.requires.held.1 c.step_to-step.ensures c.read_in-n.ensures.1 c.read_in-k.ensures.1
    (c.requires.held.2.guided (kind-of pl c.if-plan-eq2.true)).sums

pub exchange-requires-then-plan-eq2 : goal.exchange-requires-then-plan-eq2
exchange-requires-then-plan-eq2 c =
    let pl = c.requires.held.0.pictured in
    let a = histogram.exchange-asks pl c.requires.held.1 c.step_to-step.ensures c.read_in-n.ensures.1 c.read_in-k.ensures.1
    (c.requires.held.2.guided (kind-of pl c.if-plan-eq2.true)).histogram in
    record { l_bound = a.0; shares_exchangeable = a.1 }

-- way 4
pub arrive_by_blocks-requires-clause-sums_at : goal.arrive_by_blocks-requires-clause-sums_at
arrive_by_blocks-requires-clause-sums_at c =
    let pl = c.requires.held.0.pictured in
    let none = c.requires.weight_rows.3 c.if-plan-eq2.true in
    let was = c.requires.held.2.guided (kind-of pl c.if-plan-eq2.true) in (
      sums-own c.args.file.now c.args.column c.args.row none
          (sums_moved pl c.requires.held.1 c.step_to-step.ensures c.read_in-n.ensures.1 c.read_in-k.ensures.1 was.sums c.moved-a.ensures),
      histogram-own c.args.file.now c.args.column c.args.row none
          (histogram.exchanged-histogram pl c.requires.held.1 c.step_to-step.ensures c.read_in-n.ensures.1 c.read_in-k.ensures.1 was.histogram
          c.exchange-then-plan-eq2.auto.histogram c.exchange-then-plan-eq2.ensures),
      omega (arith, c.requires.weight_rows.1.shifts),
    )

pub returns-then-blocks : goal.returns-then-blocks
returns-then-blocks c =
    let pl = c.requires.held.0.pictured in
    let w = c.requires.weight_rows in
    let level = kept-level c.args.way c.args.from.cut.0 c.requires.held.0 c.by_blocks-blocks.ensures c.box_cut-kept.ensures in
    let moved = kept-moved c.args.way c.args.from.cut.0 c.requires.held.0 c.by_blocks-blocks.ensures c.box_cut-kept.ensures c.requires.held.1
    c.step_to-step.ensures c.read_in-n.ensures.1 c.read_in-k.ensures.1 c.exchange.ensures.counts_exchanged c.exchange.ensures.box_exchanged in
    let blocks = sym c.by_blocks-blocks.ensures ∙ c.if-blocks.true in
    let zero = level ∙ ap (λ (b : Bool). box_cut b c.args.plan.kind c.args.from.cut.0) blocks
    ∙ box-cut-guided c.args.plan.kind c.args.from.cut.0 c.if-plan-eq2.true in
    blocks-visited pl c.args.way c.args.from.cut.0 c.args.from.shifts w.2 blocks c.if-plan-eq2.true (w.3 c.if-plan-eq2.true) (record {
      counts = moved.counts;
      words = moved.words;
      box = moved.box ∙ ap (balance_box_at (frame_with c.args.file.now c.args.plane.now) c.args.column c.args.row) zero;
    })
    c.arrive_by_blocks.ensures

-- way 1
pub arrive-requires : goal.arrive-requires
arrive-requires c =
    let pl = c.requires.held.0.pictured in
    let q = both-in c.requires.held.1 in
    let w = c.requires.weight_rows in
    let none = w.3 c.if-plan-eq2.true in
    let was = c.requires.held.2.guided (kind-of pl c.if-plan-eq2.true) in
    let level = kept-level c.args.way c.args.from.cut.0 c.requires.held.0 c.by_blocks-blocks.ensures c.box_cut-kept.ensures in
    let moved = kept-moved c.args.way c.args.from.cut.0 c.requires.held.0 c.by_blocks-blocks.ensures c.box_cut-kept.ensures c.requires.held.1
    c.step_to-step.ensures c.read_in-n.ensures.1 c.read_in-k.ensures.1 c.exchange.ensures.counts_exchanged c.exchange.ensures.box_exchanged in
    let here = level ∙ ap (λ (b : Bool). box_cut b c.args.plan.kind c.args.from.cut.0) (sym c.by_blocks-blocks.ensures ∙ c.if-blocks.false) in
    record {
      counted = (
        counted-own c.args.file.now c.args.column c.args.row none (counted_of pl q.2 q.3 moved),
        c.if-plan-eq2.true,
        histogram-own c.args.file.now c.args.column c.args.row none
            (histogram.exchanged-histogram pl c.requires.held.1 c.step_to-step.ensures c.read_in-n.ensures.1 c.read_in-k.ensures.1 was.histogram
            c.exchange-then-plan-eq2.auto.histogram c.exchange-then-plan-eq2.ensures),
      );
      sums_at = (
        sums-own c.args.file.now c.args.column c.args.row none
            (sums_moved pl c.requires.held.1 c.step_to-step.ensures c.read_in-n.ensures.1 c.read_in-k.ensures.1 was.sums c.moved-a.ensures),
        carries_own c.args.file.now c.args.column c.args.row none
            (carries-step pl c.requires.held.1 c.step_to-step.ensures c.read_in-n.ensures.1 c.read_in-k.ensures.1 was.below),
      );
      cut_lt_levels = (
        w.1.cut,
        omega (arith, w.1.shifts),
        box-own c.args.file.now c.args.column c.args.row none c.args.from.cut.0
            (moved.box ∙ ap (balance_box_at (frame_with c.args.file.now c.args.plane.now) c.args.column c.args.row) (here ∙ box-cut-joint _ _)),
      );
    }

pub returns-then-plan-eq2 : goal.returns-then-plan-eq2
returns-then-plan-eq2 c =
    let w = c.requires.weight_rows in
    let moved = kept-moved c.args.way c.args.from.cut.0 c.requires.held.0 c.by_blocks-blocks.ensures c.box_cut-kept.ensures c.requires.held.1
    c.step_to-step.ensures c.read_in-n.ensures.1 c.read_in-k.ensures.1 c.exchange.ensures.counts_exchanged c.exchange.ensures.box_exchanged in
    guided-visited c.requires.held.0.pictured c.args.way c.args.from.cut.0 c.args.from.shifts w.2
    (sym c.by_blocks-blocks.ensures ∙ c.if-blocks.false) (w.3 c.if-plan-eq2.true) moved c.arrive.ensures

-- kind 1: the number of pixels
pub overflow_add-count : goal.overflow_add-count
overflow_add-count c =
    let q = both-in c.requires.held.1 in
    omega (arith, c.requires.held.2.count, pixel_count-high (pixel-of c.requires.held.0.pictured q.0 q.1))

pub overflow_sub-count : goal.overflow_sub-count
overflow_sub-count c =
    count_enough c.requires.held.0.pictured c.requires.held.1 c.step_to-step.ensures c.read_in-n.new.pixels c.read_in-k.new.pixels
    (omega arith) (omega arith) c.read_in-n.ensures.1 c.read_in-k.ensures.1 c.requires.held.2.count

pub visit-requires : goal.visit-requires
visit-requires c =
    let pl = c.requires.held.0.pictured in
    let q = both-in c.requires.held.1 in
    let w = c.requires.weight_rows in
    let one = kind-table pl c.if-plan-eq2.false in
    let level = kept-level c.args.way c.args.from.cut.0 c.requires.held.0 c.by_blocks-blocks.ensures c.box_cut-kept.ensures in
    let moved = kept-moved c.args.way c.args.from.cut.0 c.requires.held.0 c.by_blocks-blocks.ensures c.box_cut-kept.ensures c.requires.held.1
    c.step_to-step.ensures c.read_in-n.ensures.1 c.read_in-k.ensures.1 c.exchange.ensures.counts_exchanged c.exchange.ensures.box_exchanged in
    record {
      counted = (
        counted_of pl q.2 q.3 moved,
        w.0,
        one,
        count-moved pl c.requires.held.1 c.step_to-step.ensures c.read_in-n.new.pixels c.read_in-k.new.pixels (omega arith) (omega arith)
            c.read_in-n.ensures.1 c.read_in-k.ensures.1 c.requires.held.2.count,
      );
      cut_lt_levels = (
        w.1.cut,
        omega (arith, w.1.shifts),
        moved.box ∙ ap (balance_box_at (frame_with c.args.file.now c.args.plane.now) c.args.column c.args.row)
            (level ∙ box-cut-table (by_blocks c.args.way) c.args.plan.kind c.args.from.cut.0 one),
      );
    }

pub returns : goal.returns
returns c =
    let pl = c.requires.held.0.pictured in
    let moved = kept-moved c.args.way c.args.from.cut.0 c.requires.held.0 c.by_blocks-blocks.ensures c.box_cut-kept.ensures c.requires.held.1
    c.step_to-step.ensures c.read_in-n.ensures.1 c.read_in-k.ensures.1 c.exchange.ensures.counts_exchanged c.exchange.ensures.box_exchanged in
    let pixels-are = count-moved pl c.requires.held.1 c.step_to-step.ensures c.read_in-n.new.pixels c.read_in-k.new.pixels (omega arith) (omega arith)
    c.read_in-n.ensures.1 c.read_in-k.ensures.1 c.requires.held.2.count in
    table-visited pl c.args.way c.args.from.cut.0 c.args.from.shifts (kind-table pl c.if-plan-eq2.false) pixels-are moved c.visit.ensures
