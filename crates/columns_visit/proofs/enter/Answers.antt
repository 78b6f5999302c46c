-- `columns_visit::enter` meets its contract: store and sums are made, then the window answers where it has a reading. Assumes nothing.
use Rattle.std.proofs.Common.{arith, refl}
use Rattle.spec.specs.declared.Way.TheVariants.{Columns}
use Rattle.spec.specs.Frame.{frame_of}
use Rattle.visit.proofs.StartLaws.{start-answerable, start-from, start-answered}
use Rattle.columns_visit.proofs.VisitLaws.{made-self, room-long, store-places, window-cells, visited, unread-visited, some_read}
use Rattle.columns_visit.proofs.enter.Goals as goal

pub start-requires-clause-s_lt_width : goal.start-requires-clause-s_lt_width
start-requires-clause-s_lt_width c =
    let at = c.requires.column_lt_width in
    (at.0, at.1, room-long (frame_of c.args.file.now) c.requires.file_in_bounds)

pub returns-then-sums-eq0 : goal.returns-then-sums-eq0
returns-then-sums-eq0 c =
    unread-visited (frame_of c.args.file.now) c.args.column c.args.row _ _ _ _ _ _ _ c.unread.ensures c.start-sums.ensures (omega arith)
    c.start.ensures

pub answer_from-found-requires-clause-width_bound : goal.answer_from-found-requires-clause-width_bound
answer_from-found-requires-clause-width_bound c =
    store-places c.requires.planned.0 c.args.column c.args.row _ (made-self (frame_of c.args.file.now) c.args.column c.args.row _ _ c.start.ensures)

pub answer_from-found-requires-clause-answerable : goal.answer_from-found-requires-clause-answerable
answer_from-found-requires-clause-answerable c =
    let pl = c.requires.planned in
    let at = c.requires.column_lt_width in
    let k = c.of_window-coefficients.ensures in
    let cells = window-cells pl.0 c.args.column c.args.row _ (made-self (frame_of c.args.file.now) c.args.column c.args.row _ _ c.start.ensures) in
    (start-answerable pl.0 pl.1 at.0 at.1 k cells, start-from pl.0 pl.1 at.0 at.1 k cells _)

pub returns : goal.returns
returns c =
    let pl = c.requires.planned in
    let at = c.requires.column_lt_width in
    let p = frame_of c.args.file.now in
    let cells = window-cells pl.0 c.args.column c.args.row _ (made-self p c.args.column c.args.row _ _ c.start.ensures) in
    let reads = some_read p c.args.column c.args.row c.start-sums.result c.start-sums.ensures (omega arith) in
    let e = c.answer_from-found.ensures in
    visited p c.args.column c.args.row 0 0 _ _ _ _ _ c.answered.ensures c.start-sums.ensures
    (start-answered pl.0 pl.1 at.0 at.1 c.of_window-coefficients.ensures cells Columns refl reads e.0 e.1) c.start.ensures
