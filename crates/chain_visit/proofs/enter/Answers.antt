-- `chain_visit::enter` meets its contract: it begins at cut point 0 with no shift. Assumes nothing.
use Rattle.std.proofs.Common.{◌≡◌}
use Rattle.spec.specs.declared.Way.TheVariants.{Chain}
use Rattle.spec.specs.Frame.{frame_of}
use Rattle.spec.specs.Walk.{arrive}
use Rattle.visit.specs.Visit.{state_of}
use Rattle.chain_visit.proofs.VisitLaws.{chain-visited}
use Rattle.chain_visit.proofs.enter.Goals as goal

-- how it begins is said by itself, so that another beginning is refused as such
pub returns : goal.returns
returns c =
    let e = c.answer_at.ensures in
    let begins : state_of Chain c.answer_at.result ≡ arrive Chain (frame_of c.args.file.now) c.args.column c.args.row 0 0 = e.0 in
    chain-visited _ _ _ _ _ _ _ _ _ _ _ begins (e.1, e.2) c.start-sums.ensures c.start-free.ensures
