-- `levels::answer::answer` meets its contract. Assumes nothing.
use Rattle.level_search.proofs.BlockLaws.{handed-on}
use Rattle.levels.proofs.answer.answer.Goals as goal

pub from_cut-requires-clause-lists_searchable : goal.from_cut-requires-clause-lists_searchable
from_cut-requires-clause-lists_searchable c = (c.requires.0.search, handed-on (c.requires.0.heaviest _ c.heaviest-heaviest.ensures))

pub from_lowest-requires-clause-lists_searchable : goal.from_lowest-requires-clause-lists_searchable
from_lowest-requires-clause-lists_searchable c = (c.requires.0.search, handed-on (c.requires.0.heaviest _ c.heaviest-heaviest.ensures))
