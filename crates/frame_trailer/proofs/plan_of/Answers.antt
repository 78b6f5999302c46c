-- `frame_trailer::plan_of` meets its contract. Assumes nothing.
use Rattle.frame_trailer.proofs.Planning.{plan-made}
use Rattle.spec.specs.Frame.{trailer_at}
use borrow.Author.Rules.{rules}
use Rattle.frame_trailer.proofs.plan_of.Goals as goal

pub returns : goal.returns
unfolding trailer_at
returns c =
    plan-made _ c.trailer_of-t.result
    c.trailer_of-t.ensures
    c.back_from.ensures c.back_from-2.ensures c.back_from-3.ensures
    c.own_weights.ensures.0
