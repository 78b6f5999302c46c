-- `frame::open::part` meets its contract. Assumes nothing.
use lib.ListN.{take, drop, length}
use Prim.Native.Nat.{ℕ, ◌+◌, ◌-◌}
use mathlib.Core.Path.{◌≡◌, ap, ◌∙◌}
use mathlib.Core.Bool.{true, ◌||◌}
use native.Mathlib.Omega.{arith}
use Rattle.spec.specs.Frame.{trailer_at}
use Rattle.frame.specs.Open.{no_part, shown, shown_from, Shows}
use borrow.Author.Tests.{lt-ltb, le-ltb}
use Rattle.frame.proofs.open.part.Goals as goal
use Rattle.frame.proofs.open.part.Goals.{then-file-lt-TRAILER-via-then-file-lt-TRAILER, then-file-lt-TRAILER-via-else-file-lt-TRAILER+then-file-back, then-file-lt-TRAILER-via-else-file-lt-TRAILER+else-file-back+then-back-n}

-- the file has no such part
none : (c : goal.After-result-1) → no_part c.args.file.now c.args.back c.args.n ≡ true
unfolding no_part trailer_at
none c =
    elim c.then-file-lt-TRAILER.branch [
      | then-file-lt-TRAILER-via-then-file-lt-TRAILER w ↦ simp (lt-ltb _ _ w.if-file-lt-TRAILER.true)
      | then-file-lt-TRAILER-via-else-file-lt-TRAILER+then-file-back w ↦ simp (le-ltb _ _ w.if-file-lt-TRAILER.false, lt-ltb _ _ w.if-file-back.true)
      | then-file-lt-TRAILER-via-else-file-lt-TRAILER+else-file-back+then-back-n w ↦
          simp (le-ltb _ _ w.if-file-lt-TRAILER.false, le-ltb _ _ w.if-file-back.false, lt-ltb _ _ w.if-back-n.true)
    ]

pub returns-then-file-lt-TRAILER : goal.returns-then-file-lt-TRAILER
unfolding shown shown_from
returns-then-file-lt-TRAILER c = record { holds = simp (none c); place = simp (none c) }

pub returns : goal.returns
unfolding no_part shown shown_from trailer_at
returns c =
    let a = c.args in
    let s : ℕ = length a.file.now - 28 - a.back in
    let n : s + a.n - s ≡ a.n = omega arith in
    record {
      holds =
          ap (λ (m : ℕ). take m (drop s a.file.now)) n ∙ simp
          (le-ltb _ _ c.if-file-lt-TRAILER.false, le-ltb _ _ c.if-file-back.false, le-ltb _ _ c.if-back-n.false);
      place = simp (le-ltb _ _ c.if-file-lt-TRAILER.false, le-ltb _ _ c.if-file-back.false, le-ltb _ _ c.if-back-n.false);
    }
