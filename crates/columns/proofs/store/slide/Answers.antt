-- `columns::store::slide` meets its contract. Assumes nothing.
use Prim.Native.Nat.{ℕ}
use mathlib.Core.Path.{sym, ap, ◌∙◌}
use mathlib.Core.List.{◌++◌}
use lib.ListN.{drop}
use Rattle.spec.specs.Frame.{frame_of}
use Rattle.spec.specs.Columns.{column_store}
use Rattle.columns.specs.Blocks.{blocks_size}
use Rattle.window.proofs.PixelLaws.{plan-limits, levels_high}
use Rattle.columns.proofs.MoveLaws.{across-is, held-long, sides-in, sides-ready, sideways-done}
use Rattle.columns.proofs.store.slide.Goals as goal

pub exchange_of-d-requires : goal.exchange_of-d-requires
exchange_of-d-requires c =
    let k = (across-is c.requires.adjacent c.if-s-s2.false).0 in
    (k.in_old, k.in_new, (plan-limits c.requires.planned).width, (plan-limits c.requires.planned).radius)

pub sideways-requires : goal.sideways-requires
sideways-requires c =
    let k = (across-is c.requires.adjacent c.if-s-s2.false).0 in
    let ed = c.exchange_of-d.ensures in
    let pl = c.requires.planned in record {
      w_bound = (
        (plan-limits pl).width,
        levels_high pl,
        held-long pl c.args.s c.args.t c.args.blocks.now c.requires.blocks_value,
        sides-in pl c.args.s c.args.t c.args.blocks.now c.requires.blocks_value k ed,
      );
      side_ready = sides-ready pl c.args.s c.args.t c.args.blocks.now c.requires.blocks_value k ed;
    }

pub returns-else-s-s2 : goal.returns-else-s-s2
returns-else-s-s2 c =
    let k = across-is c.requires.adjacent c.if-s-s2.false in
    let p = frame_of c.args.file.now in
    sideways-done c.requires.planned c.args.s c.args.t c.args.blocks.now c.requires.blocks_value k.0 c.exchange_of-d.ensures _
    c.sideways.ensures
    ∙ ap (λ (q : ℕ). column_store p c.args.s2 q ++ drop (blocks_size p) c.args.blocks.now) (sym k.1)
