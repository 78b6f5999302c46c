-- `level_search::search::from_cut` meets its contract. Assumes nothing.
use Rattle.std.proofs.Common.{sym, ◌∙◌, arith}
use Rattle.level_search.proofs.SearchLaws.{half_at, fail-inside, fail-below}
use Rattle.level_search.proofs.search.from_cut.Goals as goal

pub descend-requires-clause-cut_value : goal.descend-requires-clause-cut_value
descend-requires-clause-cut_value c = sym (half_at c.args.coefficients c.args.cut.0 c.requires.tally_to) ∙ sym c.reached.ensures ∙ c.if-reached.true

pub ascend-requires-clause-from_in_bounds : goal.ascend-requires-clause-from_in_bounds
ascend-requires-clause-from_in_bounds c =
    let p = sym (half_at c.args.coefficients c.args.cut.0 c.requires.tally_to) ∙ sym c.reached.ensures ∙ c.if-reached.false in
    (fail-inside c.requires.lists_searchable.0 (fail-below c.requires.rising c.requires.cut_in_bounds.0 p), omega arith)

pub ascend-requires-clause-fail_to : goal.ascend-requires-clause-fail_to
ascend-requires-clause-fail_to c =
    let p = sym (half_at c.args.coefficients c.args.cut.0 c.requires.tally_to) ∙ sym c.reached.ensures ∙ c.if-reached.false in
    fail-below c.requires.rising c.requires.cut_in_bounds.0 p
