-- `frame_bytes::put_all` meets its contract. The invariant: the first k numbers are stored. Assumes nothing.
use Rattle.std.proofs.Common.{◌≡◌, take}
use Rattle.std.proofs.lemmas.List.Edits.{sets}
use Rattle.spec.specs.Bytes.{all16}
use Rattle.frame_bytes.proofs.put_all.Given as goal

abbrev pub invariant-loop-k : goal.invariant-loop-k
invariant-loop-k l = l.out ≡ sets l.initial.out l.at (all16 (take l.k l.list))
