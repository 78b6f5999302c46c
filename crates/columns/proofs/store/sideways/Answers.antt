-- `columns::store::sideways` meets its contract. Assumes nothing.
use Rattle.std.proofs.Common.{arith}
use Rattle.columns.proofs.SideLaws.{blocks-in, some_less, guides-low, ready-second, across-done}
use Rattle.columns.proofs.store.sideways.Goals as goal

pub update_block-requires : goal.update_block-requires
update_block-requires c =
    let r = c.requires.w_bound in record {
      l_bound = (r.1, omega arith, (blocks-in c.args.w c.args.l _ r.2).0);
      more_lt_at = (some_less _ _ _ (omega arith) r.3.entering, some_less _ _ _ (omega arith) r.3.leaving);
      block_ready = c.requires.side_ready.counts;
    }

pub update_block-requires-2 : goal.update_block-requires-2
update_block-requires-2 c =
    let r = c.requires.w_bound in
    let e = c.update_block.ensures in
    rw (c.guides_of-entering.ensures, c.guides_of-leaving.ensures)
    (record {
      l_bound = (r.1, omega arith, rw e.len (blocks-in c.args.w c.args.l _ r.2).1);
      more_lt_at = (
        some_less _ _ _ (omega arith) (guides-low c.args.w _ r.3.entering),
        some_less _ _ _ (omega arith) (guides-low c.args.w _ r.3.leaving),
      );
      block_ready = ready-second c.args.w c.args.l _ _ _ _ e _ _ r.3.entering r.3.leaving c.requires.side_ready.guides;
    })

pub returns : goal.returns
returns c =
    let r = c.requires.w_bound in
    across-done c.args.w c.args.l _ _ r.3.entering r.3.leaving c.update_block.ensures
    (rw (c.guides_of-entering.ensures, c.guides_of-leaving.ensures) at c.update_block-2.ensures)
