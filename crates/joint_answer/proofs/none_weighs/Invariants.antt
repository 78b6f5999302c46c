-- No level below i weighs anything.
use Rattle.std.proofs.Common.{◌≡◌, ℕ, ◌<◌, pos}
use Rattle.joint_search.specs.Search.{level_weight_in}
use Rattle.joint_answer.proofs.none_weighs.Given as goal

abbrev pub invariant-loop-i : goal.invariant-loop-i
invariant-loop-i l = (j : ℕ) → j < l.i → level_weight_in l.sizes.guides l.counts l.row j ≡ pos 0
