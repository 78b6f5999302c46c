-- `levels::blocks::answer` meets its contract. Assumes nothing.
use Rattle.level_search.proofs.BlockLaws.{handed-on}
use Rattle.levels.proofs.blocks.answer.Goals as goal

pub from_lowest-requires-clause-lists_searchable : goal.from_lowest-requires-clause-lists_searchable
from_lowest-requires-clause-lists_searchable c = (c.requires.search, handed-on (c.requires.heaviest _ c.heaviest-heaviest.ensures))

pub ascend-found-requires-clause-lists_searchable : goal.ascend-found-requires-clause-lists_searchable
ascend-found-requires-clause-lists_searchable c = (c.requires.search, handed-on (c.requires.heaviest _ c.heaviest-heaviest.ensures))
