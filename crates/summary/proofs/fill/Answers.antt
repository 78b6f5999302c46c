-- The sums over blocks of 16 levels are in the first places, or zeros where there is no reading.
use Rattle.std.proofs.Common.{arith, ◌≤◌, ◌∙◌, sym, length, length-take-le}
use Rattle.spec.proofs.Plans.{facts}
use Rattle.balance.proofs.BalanceLaws.{empty-is}
use Rattle.weight_sums.proofs.SumLaws.{gathered-empty, zeros-made}
use Rattle.summary.proofs.SummaryLaws.{zeroed, blocks-fit, filled}
use Rattle.summary.proofs.fill.Goals as goal

-- as many places as there are blocks
pub slice_bounds-blocks-end : goal.slice_bounds-blocks-end
slice_bounds-blocks-end c = let f = facts c.requires.planned.0 in omega arith

pub slice_bounds-blocks-end-2 : goal.slice_bounds-blocks-end-2
slice_bounds-blocks-end-2 c = let f = facts c.requires.planned.0 in let room : c.div_ceil-n.result ≤ length c.args.summary.now = omega arith in sym (length-take-le _ _ room)

pub returns-then-is_empty : goal.returns-then-is_empty
returns-then-is_empty c =
    let f = facts c.requires.planned.0 in
    let room : c.div_ceil-n.result ≤ length c.args.summary.now = omega arith in
    let zeros = zeroed _ room (c.fill.ensures.after (λ y e. e)) in
    let none = sym (empty-is c.start-a.ensures c.is_empty.ensures) ∙ c.if-is_empty.true in
    rw zeros (filled c.args.summary.now (omega arith) (gathered-empty 16 none (zeros-made c.div_ceil-n.result)))

pub weights_of-counted-requires-clause-sums_at : goal.weights_of-counted-requires-clause-sums_at
weights_of-counted-requires-clause-sums_at c =
    (c.start-a.ensures, sym (empty-is c.start-a.ensures c.is_empty.ensures) ∙ c.if-is_empty.false)

pub add_window-requires-clause-zeros : goal.add_window-requires-clause-zeros
add_window-requires-clause-zeros c =
    let f = facts c.requires.planned.0 in
    let room : c.div_ceil-n.result ≤ length c.args.summary.now = omega arith in
    let zeros = zeroed _ room (c.fill.ensures.after (λ y e. e)) in
    rw zeros (zeros-made _, blocks-fit _ _ (omega arith), omega arith)

pub returns : goal.returns
returns c =
    let f = facts c.requires.planned.0 in
    let room : c.div_ceil-n.result ≤ length c.args.summary.now = omega arith in
    let zeros = zeroed _ room (c.fill.ensures.after (λ y e. e)) in
    filled c.args.summary.now (omega arith) (rw zeros at c.add_window.ensures.0)
