-- `weight_at` meets its contract.
use Rattle.std.proofs.Common.{◌∙◌, sym, subst, ℕ, ◌≤◌, arith}
use Rattle.spec.specs.Frame.{heaviest}
use Rattle.spec.proofs.Limits.{built-in-low}
use Rattle.spec.proofs.Plans.{table-own, table-built}
use Rattle.frame_weights.proofs.Weights.{built-entry}
use Rattle.joint_rows.proofs.TableLaws.{apart_low, weight-places}
use Rattle.joint_rows.proofs.table.weight_at.Goals as goal

pub bounds-built-abs_diff : goal.bounds-built-abs_diff
bounds-built-abs_diff c = let h = c.requires in apart_low h.1 h.2 h.3 (omega arith)

pub returns-then-plan-eq0 : goal.returns-then-plan-eq0
returns-then-plan-eq0 c =
    let h = c.requires in
    let is = built-entry c.args.f.0 c.args.g.0 c.abs_diff.result h.0 (apart_low h.1 h.2 h.3 (omega arith)) (omega arith) in
    (is ∙ sym (table-built h.1 c.if-plan-eq0.true _ _), subst (λ (n : ℕ). n ≤ heaviest) (sym is) (built-in-low _ _))

pub overflow_mul-k : goal.overflow_mul-k
overflow_mul-k c = let h = c.requires in omega (arith, weight-places h.1 c.if-plan-eq0.false _ _ h.2 h.3)

pub overflow_add-k : goal.overflow_add-k
overflow_add-k c = let h = c.requires in omega (arith, weight-places h.1 c.if-plan-eq0.false _ _ h.2 h.3)

pub overflow_mul-k-else-plan-eq0 : goal.overflow_mul-k-else-plan-eq0
overflow_mul-k-else-plan-eq0 c = let h = c.requires in omega (arith, weight-places h.1 c.if-plan-eq0.false _ _ h.2 h.3)

pub overflow_add-plan : goal.overflow_add-plan
overflow_add-plan c = let h = c.requires in omega (arith, weight-places h.1 c.if-plan-eq0.false _ _ h.2 h.3)

pub be16-requires : goal.be16-requires
be16-requires c = let h = c.requires in omega (arith, weight-places h.1 c.if-plan-eq0.false _ _ h.2 h.3)

pub returns-else-plan-eq0 : goal.returns-else-plan-eq0
returns-else-plan-eq0 c = (c.be16.ensures ∙ sym (table-own c.requires.1 c.if-plan-eq0.false _ _), omega (arith, c.be16.type_inv))
