-- `frame_write::write` meets its contract: a file that the checks accept is stored. Assumes nothing.
use Rattle.std.proofs.Common.{arith, sym, ◌∙◌}
use Rattle.spec.specs.Writer.{written_size}
use Rattle.frame_write.proofs.Writing.{fit, file-placed, saves}
use Rattle.frame_write.proofs.write.Goals as goal

pub returns : goal.returns
unfolding written_size
returns c =
    let e = sym c.in_ok-check_writing.ensures in
    let f = fit _ _ _ _ _ e in
    record {
      verdict = c.in_ok-check_writing.ensures;
      size = λ _. omega (arith, f.values);
      output = file-placed _ _ _ _ _ f c.put_file.ensures ∙ saves _ _ _ e;
    }
