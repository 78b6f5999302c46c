-- `ways::dispatch::enter` meets its contract: each way's own promise is the common one. Assumes nothing.
use borrow.Author.Rules.{rules}
use Rattle.spec.proofs.Plans.{with-own}
use Rattle.ways.proofs.WayLaws.{guided-columns, guided-chain, plane-serves, none-columns, none-chain, visited-own, fit-joint, fit-columns, fit-chain, joint-visited, columns-visited, chain-visited}
use Rattle.ways.proofs.dispatch.enter.Goals as goal

pub enter-requires : goal.enter-requires
enter-requires c =
    let w = c.in-Joint.is in record {
      fresh = (fit-joint _ c.requires.pictured.0 _ _ _ c.requires.stores_fit _ _ w c.requires.column_lt_width, c.requires.balance_box_value.1);
      weight_rows = (c.requires.pictured.1, w, plane-serves _ c.args.plan c.requires.pictured.2);
    }

pub enter-requires-in-Columns : goal.enter-requires-in-Columns
enter-requires-in-Columns c =
    let e = c.in-Columns.is in record {
      planned = (with-own c.requires.pictured.0, guided-columns _ c.args.plan c.requires.pictured.2 e);
      column_lt_width = c.requires.column_lt_width;
      file_in_bounds = fit-columns _ (with-own c.requires.pictured.0) _ _ _ c.requires.stores_fit e;
    }

pub enter-requires-in-Chain : goal.enter-requires-in-Chain
enter-requires-in-Chain c =
    let e = c.in-Chain.is in record {
      planned = (with-own c.requires.pictured.0, guided-chain _ c.args.plan c.requires.pictured.2 e);
      column_lt_width = c.requires.column_lt_width;
      file_in_bounds = fit-chain _ (with-own c.requires.pictured.0) _ _ _ c.requires.stores_fit e;
    }

pub returns-in-Joint : goal.returns-in-Joint
returns-in-Joint c =
    joint-visited _ c.requires.pictured.0 _ _ _ c.requires.stores_fit _ _ _ _ _ _ c.in-Joint.is
    c.enter.ensures

pub returns-in-Columns : goal.returns-in-Columns
returns-in-Columns c =
    let e = c.in-Columns.is in
    visited-own c.args.way c.args.file.now (none-columns _ c.args.plan c.requires.pictured.2 e) c.args.column c.args.row 0 0
    (columns-visited _ (with-own c.requires.pictured.0) _ _ _ c.requires.stores_fit _ _ _ c.args.column c.args.row 0 0 _ e
    c.enter-in-Columns.ensures c.requires.balance_box_value.0)

pub returns-in-Chain : goal.returns-in-Chain
returns-in-Chain c =
    let e = c.in-Chain.is in
    visited-own c.args.way c.args.file.now (none-chain _ c.args.plan c.requires.pictured.2 e) c.args.column c.args.row 0 0
    (chain-visited _ (with-own c.requires.pictured.0) _ _ _ c.requires.stores_fit _ _ _ c.args.column c.args.row 0 0 _ e
    c.enter-in-Chain.ensures c.requires.balance_box_value.0)
