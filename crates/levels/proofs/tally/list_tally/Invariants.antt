-- `levels::tally::list_tally`: the tally of the pixels so far. Assumes nothing.
use Rattle.level_search.proofs.SearchLaws.{tally}
use Rattle.levels.specs.ListTally.{ListTally}
use Rattle.levels.proofs.tally.list_tally.Given as goal

abbrev pub invariant-loop-pixel : goal.invariant-loop-pixel
invariant-loop-pixel l = ListTally l.pixels l.end l.pixel-index (tally l.count l.sum)
