-- `text::put_word` meets its contract: the word stands in the place of as many bytes.
-- Assumes nothing.
use Rattle.std.proofs.Common.{arith, refl}
use Rattle.std.proofs.lemmas.Grind.{common_steps}
use Rattle.std.proofs.lemmas.List.Edits.{sets-eq}
use Rattle.text.proofs.put_word.Goals as goal

pub returns : goal.returns
returns c =
    record {
      stored = grind (arith, common_steps, sets-eq c.args.word.now c.args.out.now c.args.at c.requires);
      behind = refl;
    }
