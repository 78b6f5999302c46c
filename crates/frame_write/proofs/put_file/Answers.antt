-- `frame_write::put_file` meets its contract: the four pieces are the file. Assumes nothing.
use Rattle.std.proofs.Common.{arith, refl, length, ◌+◌, ◌*◌, ◌++◌}
use Rattle.spec.specs.Writer.{field_bytes, distance_bytes, written_size}
use Rattle.frame_bytes.proofs.Stores.{part-stored}
use Rattle.frame_write_trailer.proofs.TrailerLaws.{trailer-long}
use Rattle.frame_write.proofs.Writing.{file-stored}
use Rattle.frame_write.proofs.put_file.Goals as goal

pub returns : goal.returns
unfolding written_size
returns c =
    let k = c.args.settings in
    let n = length c.args.table.now in
    let p = length c.args.values.now in
    file-stored c.args.out.now k c.args.values.now c.args.guides.now c.args.table.now c.requires.values c.requires.guides
    c.put_all.ensures c.put_all-2.ensures c.put_all-3.ensures
    (part-stored c.put_all-3.new.out (4 * p + 2 * n) (field_bytes k ++ distance_bytes n p) (omega (arith, trailer-long k n p)) c.put_trailer.ensures)
    refl refl refl
