-- `chain::moves::start` meets its contract.
-- Assumes nothing.
use Rattle.std.proofs.Common.{◌≡◌, ◌∙◌, refl, arith}
use Rattle.spec.specs.Window.{span}
use Rattle.window.proofs.PixelLaws.{plan-limits}
use Rattle.window.proofs.LineLaws.{column-in}
use Rattle.chain.proofs.MoveLaws.{store-size, columns-empty, columns-insertable, columns-beyond, columns-inserted, columns-listed, listed-stored}
use Rattle.chain.proofs.moves.start.Goals as goal

pub node_count-cap-requires : goal.node_count-cap-requires
node_count-cap-requires c = (plan-limits c.requires.planned).radius

pub span_of-columns-requires : goal.span_of-columns-requires
span_of-columns-requires c = let z = plan-limits c.requires.planned in (c.requires.s_lt_width.0, z.width, z.radius)

pub clear-free-requires : goal.clear-free-requires
clear-free-requires c =
    let e = c.node_count-cap.ensures in
    (omega (arith, e.0, store-size c.requires.planned, c.requires.file_in_bounds), omega (arith, e.1))

pub loop-k-init : goal.loop-k-init
loop-k-init c =
    let r = c.requires in
    record {
      listed = columns-empty r.planned _ _ r.s_lt_width.0 r.s_lt_width.1 _ (rw c.node_count-cap.ensures.0 at c.clear-free.ensures);
      beyond = λ j h. refl;
    }

-- the column of a turn is in the picture
pub overflow_add-left : goal.overflow_add-left
unfolding span
overflow_add-left c = omega (arith, c.saturating_sub-left.ensures, c.span_of-columns.ensures, (plan-limits c.requires.planned).width)

pub column_line-column-requires-clause-plan_limits : goal.column_line-column-requires-clause-plan_limits
column_line-column-requires-clause-plan_limits c = plan-limits c.requires.planned

pub column_line-column-requires-clause-x_bound : goal.column_line-column-requires-clause-x_bound
unfolding span
column_line-column-requires-clause-x_bound c = (
  omega (arith, c.saturating_sub-left.ensures, c.span_of-columns.ensures, (plan-limits c.requires.planned).width),
  c.requires.s_lt_width.1,
)

pub read-n-requires : goal.read-n-requires
unfolding span
read-n-requires c =
    let pl = c.requires.planned in (
      pl,
      rw c.column_line-column.ensures
          (column-in (plan-limits pl) _ c.args.t (omega (arith, c.saturating_sub-left.ensures, c.span_of-columns.ensures))),
      omega arith,
    )

pub merge_line-free-requires : goal.merge_line-free-requires
merge_line-free-requires c =
    let r = c.requires in
    columns-insertable r.planned _ _ r.s_lt_width.0 r.s_lt_width.1 (rw c.span_of-columns.ensures at c.loop-k-test.true)
    (rw c.saturating_sub-left.ensures at c.column_line-column.ensures) c.read-n.ensures.1 c.loop-k.invariant.listed

pub loop-k-preserved : goal.loop-k-preserved
loop-k-preserved c =
    let r = c.requires in
    let l = rw c.span_of-columns.ensures at c.loop-k-test.true in
    let e = rw c.saturating_sub-left.ensures at c.column_line-column.ensures in
    let v = c.loop-k.invariant in
    record {
      listed = columns-inserted r.planned _ _ r.s_lt_width.0 r.s_lt_width.1 l e c.read-n.ensures.1 v.listed c.merge_line-free.ensures;
      beyond = λ j b.
          columns-beyond r.planned _ _ r.s_lt_width.0 r.s_lt_width.1 l e c.read-n.ensures.1 v.listed c.merge_line-free.ensures j b ∙ v.beyond j b;
    }

pub returns : goal.returns
returns c =
    let r = c.requires in
    let v = c.loop-k.invariant in
    let e : c.loop-k.k ≡ span c.args.plan.radius c.args.s c.args.plan.width = omega (arith, c.span_of-columns.ensures) in
    listed-stored r.planned _ _ _ (omega arith)
    (λ j b. v.beyond j b ∙ c.clear-free.ensures.beyond j (rw c.node_count-cap.ensures.0 b))
    (columns-listed r.planned _ _ r.s_lt_width.0 r.s_lt_width.1 (rw e at v.listed))
