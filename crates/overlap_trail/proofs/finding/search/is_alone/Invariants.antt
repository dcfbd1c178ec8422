use Rattle.overlap_trail.proofs.finding_lemmas.Ways.{AloneSoFar}
use Rattle.overlap_trail.proofs.finding.search.is_alone.Given as goal

abbrev pub invariant-loop-number : goal.invariant-loop-number
invariant-loop-number l = AloneSoFar l.ways l.number l.found
