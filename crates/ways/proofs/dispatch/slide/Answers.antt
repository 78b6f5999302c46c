-- `ways::dispatch::slide` meets its contract: each way's own promise is the common one. Assumes nothing.
use borrow.Author.Rules.{rules}
use Rattle.spec.proofs.Plans.{with-own}
use Rattle.ways.proofs.WayLaws.{guided-columns, guided-chain, plane-serves, none-columns, none-chain, at_own, visited-own, joint-at, joint-visited, columns-at, columns-visited, chain-at, chain-visited}
use Rattle.ways.proofs.dispatch.slide.Goals as goal

pub slide-requires : goal.slide-requires
slide-requires c =
    let w = c.in-Joint.is in
    let h = joint-at _ c.requires.pictured.0 _ _ _ c.requires.stores_fit _ _ _ w c.requires.at_window c.requires.within in
    record {
      held = (h.0, c.requires.adjacent, h.1);
      weight_rows = (c.requires.pictured.1, c.requires.within, w, plane-serves _ c.args.plan c.requires.pictured.2);
    }

pub slide-requires-in-Columns : goal.slide-requires-in-Columns
slide-requires-in-Columns c =
    let e = c.in-Columns.is in record {
      planned = (with-own c.requires.pictured.0, guided-columns _ c.args.plan c.requires.pictured.2 e);
      within = (c.requires.within, c.requires.adjacent);
      columns_at = (columns-at _ (with-own c.requires.pictured.0) _ _ _ c.requires.stores_fit _ _ _ e
          (at_own c.args.way c.args.file.now (none-columns _ c.args.plan c.requires.pictured.2 e) c.requires.at_window)).0;
    }

pub slide-requires-in-Chain : goal.slide-requires-in-Chain
slide-requires-in-Chain c =
    let e = c.in-Chain.is in record {
      planned = (with-own c.requires.pictured.0, guided-chain _ c.args.plan c.requires.pictured.2 e);
      within = (c.requires.within, c.requires.adjacent);
      chain_at = (chain-at _ (with-own c.requires.pictured.0) _ _ _ c.requires.stores_fit _ _ _ e
          (at_own c.args.way c.args.file.now (none-chain _ c.args.plan c.requires.pictured.2 e) c.requires.at_window)).0;
    }

pub returns-in-Joint : goal.returns-in-Joint
returns-in-Joint c =
    joint-visited _ c.requires.pictured.0 _ _ _ c.requires.stores_fit _ _ _ _ _ _ c.in-Joint.is
    c.slide.ensures

pub returns-in-Columns : goal.returns-in-Columns
returns-in-Columns c =
    let e = c.in-Columns.is in
    visited-own c.args.way c.args.file.now (none-columns _ c.args.plan c.requires.pictured.2 e) c.args.column c.args.row
    c.args.from.cut.0
    c.args.from.shifts
    (columns-visited _ (with-own c.requires.pictured.0) _ _ _ c.requires.stores_fit _ _ _ c.args.column c.args.row c.args.from.cut.0
    c.args.from.shifts _ e c.slide-in-Columns.ensures
    (columns-at _ (with-own c.requires.pictured.0) _ _ _ c.requires.stores_fit _ _ _ e
    (at_own c.args.way c.args.file.now (none-columns _ c.args.plan c.requires.pictured.2 e) c.requires.at_window)).1)

pub returns-in-Chain : goal.returns-in-Chain
returns-in-Chain c =
    let e = c.in-Chain.is in
    visited-own c.args.way c.args.file.now (none-chain _ c.args.plan c.requires.pictured.2 e) c.args.column c.args.row
    c.args.from.cut.0
    c.args.from.shifts
    (chain-visited _ (with-own c.requires.pictured.0) _ _ _ c.requires.stores_fit _ _ _ c.args.column c.args.row c.args.from.cut.0
    c.args.from.shifts _ e c.slide-in-Chain.ensures
    (chain-at _ (with-own c.requires.pictured.0) _ _ _ c.requires.stores_fit _ _ _ e
    (at_own c.args.way c.args.file.now (none-chain _ c.args.plan c.requires.pictured.2 e) c.requires.at_window)).1)
