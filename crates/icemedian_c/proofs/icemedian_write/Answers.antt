-- `icemedian_write` meets its contract. Assumes nothing.
use Rattle.std.proofs.Common.{rules, arith}
use Rattle.std.proofs.lemmas.Grind.{common_steps}
use Rattle.icemedian_c.proofs.ExportLaws.{writes-narrowed}
use Rattle.icemedian_c.proofs.icemedian_write.Goals as goal

pub returns : goal.returns
returns c = let h = writes-narrowed c.settings_from-settings.ensures c.write-written.ensures in grind (arith, common_steps, h)
