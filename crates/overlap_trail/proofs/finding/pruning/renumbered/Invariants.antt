use Rattle.overlap_trail.proofs.finding_lemmas.Needing.{RenamedSoFar}
use Rattle.overlap_trail.proofs.finding.pruning.renumbered.Given as goal

abbrev pub invariant-loop-number : goal.invariant-loop-number
invariant-loop-number l = RenamedSoFar l.ranks l.moves l.made l.number
