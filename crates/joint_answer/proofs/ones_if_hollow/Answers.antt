-- `ones_if_hollow` meets its contract: a pixel weighs something, or the levels say whether anything does.
use Rattle.std.proofs.Common.{◌∙◌, sym, ℕ}
use Rattle.std.proofs.lemmas.List.{length-replicate}
use Rattle.joint_answer.proofs.AnswerLaws.{counted-ones, counted-own}
use Rattle.joint_answer.proofs.ones_if_hollow.Goals as goal
use Rattle.joint_answer.proofs.ones_if_hollow.Goals.{else-not-weighs-via-then-not-weighs+else-none_weighs, else-not-weighs-via-else-not-weighs}

pub returns-then-none_weighs : goal.returns-then-none_weighs
returns-then-none_weighs c = (
  counted-ones c.args.sizes c.args.counts.now c.args.row.now (sym c.if-none_weighs.true ∙ c.none_weighs.ensures),
  length-replicate {A = ℕ} 256 1,
)

pub returns-else-not-weighs : goal.returns-else-not-weighs
returns-else-not-weighs c =
    let own = counted-own c.args.sizes c.args.counts.now c.args.row.now in
    elim c.else-not-weighs.branch [
      | else-not-weighs-via-then-not-weighs+else-none_weighs w ↦ (own (sym w.if-none_weighs.false ∙ w.none_weighs.ensures), c.requires.searchable.2)
      | else-not-weighs-via-else-not-weighs w ↦ (own (sym (c.requires.cut_lt_levels.1 w.if-not-weighs.false)), c.requires.searchable.2)
    ]
