use Rattle.overlap_trail.proofs.finding_lemmas.Needing.{HopsBySoFar}
use Rattle.overlap_trail.proofs.finding.pruning.hops_by.Given as goal

abbrev pub invariant-loop-number : goal.invariant-loop-number
invariant-loop-number l = HopsBySoFar l.ranks l.hops l.made l.number
