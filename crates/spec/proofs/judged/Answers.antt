-- `spec::judged` meets its contract. Assumes nothing.
use mathlib.Core.Path.{refl}
use borrow.Author.Tests.{eq-eqb, ne_eqb}
use Rattle.spec.proofs.judged.Goals as goal
use Rattle.spec.proofs.judged.Goals.{else-values-via-then-values+else-number-eq-NO_READING, else-values-via-else-values}

pub returns-then-number-eq-NO_READING : goal.returns-then-number-eq-NO_READING
returns-then-number-eq-NO_READING c = rw (c.if-values.true, eq-eqb _ 65535 c.if-number-eq-NO_READING.true) refl

pub returns : goal.returns
returns c =
    elim c.else-values.branch [
      | else-values-via-then-values+else-number-eq-NO_READING w ↦ rw (w.if-values.true, ne_eqb _ 65535 w.if-number-eq-NO_READING.false) refl
      | else-values-via-else-values w ↦ rw w.if-values.false refl
    ]
