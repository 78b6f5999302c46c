-- `Occupied::next` meets its contract: words with nothing left are passed, and the lowest bit of the first other one goes.
use Rattle.std.proofs.Common.{◌∙◌, refl, sym, ◌+◌, ◌^◌, ◌<◌, arith}
use Rattle.joint_cells.specs.declared.scan.Occupied.{Occupied}
use Rattle.joint_cells.proofs.ScanLaws.{place-some, place-inside, loaded-scans, loaded-left, loaded-up, left-none, taken-scans, taken-up, taken-next}
use Rattle.joint_cells.proofs.scan.OccupiedIterator.next.Goals as goal

pub returns-in_err-word-clause-steps : goal.returns-in_err-word-clause-steps
returns-in_err-word-clause-steps c =
    rw c.from_residual.ensures
    (λ g. sym (c.loop-self.invariant.same g) ∙ left-none c.loop-self.self c.loop-self-test.true c.in_err-word.ensures.cases g)

pub loop-self-preserved : goal.loop-self-preserved
loop-self-preserved c =
    let s = c.loop-self.self in
    let v = c.loop-self.invariant in
    let split = c.in_ok-word.ensures.cases.0 in
    let fit : c.in_ok-word.word.now < 2 ^ 64 = omega arith in
    let t : Occupied = record { base = s.base + 64; rest = c.in_ok-word.word.now; words = c.in_ok-word.others } in
    record {
      scans = loaded-scans s v.scans c.loop-self-test.true t refl split fit;
      same = λ g. loaded-left s v.scans c.loop-self-test.true t refl split fit g ∙ v.same g;
      up = omega (arith, v.up, loaded-up s v.scans c.loop-self-test.true t refl split fit);
    }

pub returns-clause-steps : goal.returns-clause-steps
returns-clause-steps c =
    let s = c.loop-self.self in
    let v = c.loop-self.invariant in
    rw (sym (place-some s c.loop-self-test.false)) (taken-next s v.scans c.loop-self-test.false _ v.same v.up)

pub returns-clause-goes : goal.returns-clause-goes
returns-clause-goes c =
    let s = c.loop-self.self in
    let v = c.loop-self.invariant in
    let last = place-inside s v.scans c.loop-self-test.false in
    let less = taken-up s v.scans c.loop-self-test.false in
    record {
      on = λ _. (taken-scans s v.scans c.loop-self-test.false, tt, omega (arith, v.up, last, less));
      keeps = taken-scans s v.scans c.loop-self-test.false;
      rests = λ _. tt;
    }
