-- Field by field.
use Rattle.std.proofs.Common.{rules, arith, ◌∙◌, sym, w64}
use Rattle.std.proofs.lemmas.Int.{to_z-of_z}
use Rattle.spec.specs.Frame.{frame_of}
use Rattle.spec.proofs.Plans.{facts, pixel-of}
use Rattle.window.proofs.PixelLaws.{guides_high}
use Rattle.balance.proofs.BalanceLaws.{empty-is}
use Rattle.explain_cause.proofs.CauseLaws.{cause-counted}
use Rattle.explain.proofs.AnswerLaws.{grounds-empty}
use Rattle.explain.proofs.grounds.Goals as goal

pub returns-then-is_empty : goal.returns-then-is_empty
returns-then-is_empty c =
    grounds-empty (frame_of c.args.file.now) c.args.s c.args.t (sym (empty-is c.start-a.ensures c.is_empty.ensures) ∙ c.if-is_empty.true)

pub weights_of-counted-requires-clause-sums_at : goal.weights_of-counted-requires-clause-sums_at
weights_of-counted-requires-clause-sums_at c =
    (c.start-a.ensures, sym (empty-is c.start-a.ensures c.is_empty.ensures) ∙ c.if-is_empty.false)

pub answer_half-total-requires-clause-t_value : goal.answer_half-total-requires-clause-t_value
answer_half-total-requires-clause-t_value c = sym (empty-is c.start-a.ensures c.is_empty.ensures) ∙ c.if-is_empty.false

pub cause_of-requires : goal.cause_of-requires
cause_of-requires c =
    let f = facts c.requires.0 in
    (rw f.guides c.weights_of-counted.ensures.weighs.fits, omega (arith, f.limits.sound.guides_low), guides_high c.requires.0)

pub returns : goal.returns
returns c =
    let f = facts c.requires.0 in
    let has = sym (empty-is c.start-a.ensures c.is_empty.ensures) ∙ c.if-is_empty.false in
    let found = c.answer_half-total.ensures in
    record {
      pixels = c.start-a.ensures.count;
      total = to_z-of_z w64 _ (search rules) ∙ found.total;
      answered = found.level;
      below = to_z-of_z w64 _ (search rules) ∙ found.below;
      reached = to_z-of_z w64 _ (search rules) ∙ found.reached;
      cause = c.cause_of.ensures ∙ cause-counted (pixel-of c.requires.0 c.requires.1 c.requires.2) has c.weights_of-counted.ensures f.guides;
    }
