-- `program::respond` meets its contract: what is put is the text of the outcome that the checks give, and it fits the buffer.
-- Assumes nothing.
use Rattle.std.proofs.Common.{arith, length, ◌≤◌}
use Rattle.spec.specs.Program.{printed}
use Rattle.spec.specs.Refusal.{number, offset_of}
use Rattle.text.proofs.Putting.{called, from_start}
use Rattle.program.proofs.Answering.{text-short, refused-text, refusal-fits, printed-as}
use Rattle.program.proofs.respond.Goals as goal

pub returns-in-Ok : goal.returns-in-Ok
returns-in-Ok c =
    let t = printed-as c.args.input.now c.in-Ok.ensures.outcome in
    let f : length (printed c.args.input.now) ≤ 49280 = rw t at (text-short c.in-Ok.ensures.plan) in
    let r = from_start (omega (arith, f)) (called t c.put_answer.ensures) in
    record { value = r.0; out_after = r.1 }

pub returns-in-Err : goal.returns-in-Err
returns-in-Err c =
    let b = c.args.input.now in
    let e = c.in-Err.e in
    let f = refusal-fits b e c.in-Err.ensures.outcome in
    let r =
    from_start (omega (arith, f)) (called (printed-as b c.in-Err.ensures.outcome) (called (refused-text b (number e) (offset_of e)) c.put_refused.ensures)) in
    record { value = r.0; out_after = r.1 }
