-- `text::put_decimal` meets its contract. The digits of the tenth, and the last one behind them, are the number's.
-- Assumes nothing.
use Rattle.std.proofs.Common.{arith, sym, [], ◌∷◌, ◌+◌, ◌/◌, ◌%◌}
use Rattle.spec.specs.Program.{decimal}
use Rattle.text.proofs.Digits.{decimal-low, decimal-high}
use Rattle.text.proofs.Putting.{joined, called, room-first, room_next}
use Rattle.text.proofs.+put_decimal.Goals as goal

pub put_byte-requires : goal.put_byte-requires
put_byte-requires t c = rw (decimal-low c.args.n c.if-n-lt10.true) at c.requires

pub returns-then-n-lt10 : goal.returns-then-n-lt10
returns-then-n-lt10 t c = called (sym (decimal-low c.args.n c.if-n-lt10.true)) c.put_byte.ensures

pub put_decimal-next-requires : goal.put_decimal-next-requires
put_decimal-next-requires t c =
    let e = decimal-high c.args.n c.if-n-lt10.false c.ranges.n.fits in (
      omega (arith, c.if-n-lt10.false),
      room-first c.args.out.now c.args.at (decimal (c.args.n / 10))
          ((48 + c.args.n % 10) ∷ []) (rw e at c.requires),
    )

pub put_byte-requires-2 : goal.put_byte-requires-2
put_byte-requires-2 t c =
    room_next _ (rw (decimal-high c.args.n c.if-n-lt10.false c.ranges.n.fits) at c.requires) c.put_decimal-next.ensures

pub returns : goal.returns
returns t c =
    called (sym (decimal-high c.args.n c.if-n-lt10.false c.ranges.n.fits))
    (joined c.put_decimal-next.ensures c.put_byte-2.ensures)
