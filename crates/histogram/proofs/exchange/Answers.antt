-- `exchange` meets its contract. Assumes nothing.
use native.Mathlib.Omega.{arith}
use Rattle.pixels.proofs.AdditiveLaws.{leave_fits, exchanged}
use Rattle.histogram.specs.Places.{share_at}
use Rattle.histogram.proofs.exchange.Goals as goal

pub change_pixels-requires-2 : goal.change_pixels-requires-2
change_pixels-requires-2 c =
    record {
      l_bound = (c.requires.l_bound.0, omega (arith, c.requires.l_bound.1, c.change_pixels.auto.histogram), c.requires.l_bound.3);
      room_for = record {
        fits =
            leave_fits (share_at c.args.l) c.requires.shares_exchangeable c.change_pixels.ensures;
      };
    }

pub returns : goal.returns
returns c =
    exchanged (share_at c.args.l) c.requires.shares_exchangeable c.change_pixels.ensures c.change_pixels-2.ensures
