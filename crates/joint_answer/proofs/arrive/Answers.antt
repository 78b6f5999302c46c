-- `arrive` meets its contract: the box gives the balance at the cut point, and the way's search goes on from it.
use Rattle.joint_search.proofs.SearchLaws.{box-bounds, box-balance, balance-back}
use Rattle.joint_answer.proofs.arrive.Goals as goal

pub box_dot-bal-requires : goal.box_dot-bal-requires
box_dot-bal-requires c =
    let p = c.requires.searchable in
    (p.0.guides, p.1, box-bounds p.0 c.args.cut.0 _ c.requires.cut_lt_levels.0 c.requires.cut_lt_levels.2)

pub from_cut-level-requires-clause-cut_lt_levels : goal.from_cut-level-requires-clause-cut_lt_levels
from_cut-level-requires-clause-cut_lt_levels c =
    let p = c.requires.searchable in
    let q = c.requires.cut_lt_levels in
    (q.0, balance-back p.0 p.1 c.args.cut.0 _ q.0 (box-balance p.0 p.1 c.args.cut.0 _ _ q.0 q.2 c.box_dot-bal.ensures), q.2)

pub from_cut-requires-clause-cut_lt_levels : goal.from_cut-requires-clause-cut_lt_levels
from_cut-requires-clause-cut_lt_levels c =
    let p = c.requires.searchable in
    let q = c.requires.cut_lt_levels in
    (q.0, balance-back p.0 p.1 c.args.cut.0 _ q.0 (box-balance p.0 p.1 c.args.cut.0 _ _ q.0 q.2 c.box_dot-bal.ensures), q.1)
