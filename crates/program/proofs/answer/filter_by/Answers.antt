-- `program::answer::filter_by` meets its contract: the stores are long enough, so the filter is not refused.
-- Assumes nothing.
use Rattle.std.proofs.Common.{arith, refl, length, ◌≡◌, ◌∙◌}
use Rattle.program.proofs.Serving.{filter_passes, is_ok}
use Rattle.program.proofs.answer.filter_by.Goals as goal

pub unwrap-requires : goal.unwrap-requires
unwrap-requires c =
    let n : length c.args.plane.now ≡ 8192 = omega (arith, c.well_formed) in
    is_ok c.filter-filtered.result
    (c.filter-filtered.ensures.verdict
    ∙ filter_passes c.args.way _ _ c.requires.admitted c.requires.serving
    (record { counts = refl; words = refl; numbers = refl; summary = refl; plane = n }))
