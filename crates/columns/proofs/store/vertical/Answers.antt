-- `columns::store::vertical` meets its contract. Assumes nothing.
use Rattle.std.proofs.Common.{arith, rules}
use Rattle.window.proofs.PixelLaws.{plan-limits}
use Rattle.columns.proofs.MoveLaws.{held-long, row-enters, row-leaves, vertical-done}
use Rattle.columns.proofs.store.vertical.Goals as goal

pub exchange_of-d-requires : goal.exchange_of-d-requires
exchange_of-d-requires c =
    let k = c.requires.s_lt_width.1 in
    let z = plan-limits c.requires.planned in
    (k.in_old, k.in_new, z.height, z.radius)

pub count_row_if-requires-clause-s_lt_width : goal.count_row_if-requires-clause-s_lt_width
count_row_if-requires-clause-s_lt_width c = let r = c.requires in
    let q = row-enters r.planned c.args.s c.args.t c.args.blocks.now r.blocks_value r.s_lt_width.1 c.exchange_of-d.ensures
    (λ j. search rules) in
    (r.s_lt_width.0, q.0, held-long r.planned c.args.s c.args.t c.args.blocks.now r.blocks_value)

pub count_row_if-requires-clause-able : goal.count_row_if-requires-clause-able
count_row_if-requires-clause-able c = let r = c.requires in
    (row-enters r.planned c.args.s c.args.t c.args.blocks.now r.blocks_value r.s_lt_width.1 c.exchange_of-d.ensures
    (λ j. search rules)).1

pub count_row_if-requires-2-clause-s_lt_width : goal.count_row_if-requires-2-clause-s_lt_width
count_row_if-requires-2-clause-s_lt_width c = let r = c.requires in
    let q = row-leaves r.planned c.args.s c.args.t c.args.blocks.now r.blocks_value r.s_lt_width.1 c.exchange_of-d.ensures _ c.count_row_if.ensures in
    (r.s_lt_width.0, q.0, omega (arith, held-long r.planned c.args.s c.args.t c.args.blocks.now r.blocks_value, c.count_row_if.ensures.len))

pub count_row_if-requires-2-clause-able : goal.count_row_if-requires-2-clause-able
count_row_if-requires-2-clause-able c = let r = c.requires in
    (row-leaves r.planned c.args.s c.args.t c.args.blocks.now r.blocks_value r.s_lt_width.1 c.exchange_of-d.ensures _ c.count_row_if.ensures).1

pub returns : goal.returns
returns c = let r = c.requires in
    vertical-done r.planned c.args.s c.args.t c.args.blocks.now r.blocks_value r.s_lt_width.1 c.exchange_of-d.ensures _ _
    c.count_row_if.ensures c.count_row_if-2.ensures
