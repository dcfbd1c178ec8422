use Rattle.overlap_trail.proofs.finding_lemmas.Knowing.{RoundSoFar}
use Rattle.overlap_trail.proofs.finding.return_lemmas.round.Given as goal

abbrev pub invariant-loop-number : goal.invariant-loop-number
invariant-loop-number l = RoundSoFar l.table l.fn.known l.known l.number l.more
