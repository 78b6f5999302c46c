-- The first i files are served.
use Rattle.ice_prefix.specs.Prefix.{parts}
use Rattle.cameras.proofs.ServeLaws.{Serving}
use Rattle.cameras.proofs.serve_files.Given as goal

abbrev pub invariant-loop-i : goal.invariant-loop-i
invariant-loop-i l =
    Serving l.files l.lengths l.tallies (parts l.initial.counts l.initial.words l.initial.answers) (parts l.counts l.words l.answers) l.place l.at l.i
