-- From zeros, the weights by level, and the first that reaches half.
use Rattle.std.proofs.Common.{rules, arith, ◌≡◌, ◌∙◌, ℤ, pos, to_z, of_z, w64}
use Rattle.std.proofs.lemmas.Int.{to_z-of_z}
use Rattle.std.proofs.lemmas.List.{length-replicate}
use Rattle.spec.specs.Frame.{frame_of}
use Rattle.spec.specs.Median.{total_weight}
use Rattle.spec.proofs.Plans.{pixel-of}
use Rattle.window.proofs.PixelLaws.{levels_high}
use Rattle.weight_sums.proofs.SumLaws.{zeros-made}
use Rattle.explain.proofs.AnswerLaws.{total-gathered, levels-fit, in_reach, answer-found}
use Rattle.explain.proofs.answer_half.Goals as goal

pub add_window-total-requires-clause-zeros : goal.add_window-total-requires-clause-zeros
add_window-total-requires-clause-zeros c = (zeros-made 1024, levels-fit _ (levels_high c.requires.weighed.0.planned), omega arith)

pub reach_half-half-requires : goal.reach_half-half-requires
reach_half-half-requires c =
    let w = c.requires.weighed in
    let pixel = pixel-of w.0.planned w.0.column w.0.row in
    let total : to_z w64 (of_z w64 c.add_window-total.result) ≡ total_weight (frame_of c.args.file.now) c.args.s c.args.t =
    to_z-of_z w64 _ (search rules) ∙ c.add_window-total.ensures.1 ∙ total-gathered pixel w.1 in
    rw total (in_reach pixel c.requires.t_value c.add_window-total.ensures.0 w.1 (length-replicate {A = ℤ} 1024 (pos 0)))

pub returns : goal.returns
returns c =
    let w = c.requires.weighed in
    let pixel = pixel-of w.0.planned w.0.column w.0.row in
    let total : to_z w64 (of_z w64 c.add_window-total.result) ≡ total_weight (frame_of c.args.file.now) c.args.s c.args.t =
    to_z-of_z w64 _ (search rules) ∙ c.add_window-total.ensures.1 ∙ total-gathered pixel w.1 in
    answer-found pixel c.requires.t_value c.add_window-total.ensures.0 total (rw total at c.reach_half-half.ensures)
